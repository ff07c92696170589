use Rattle.std.proofs.Common.{◌≡◌, ◌++◌, take}
use Rattle.cm_ctx.specs.Grown.{option_choices}
use Rattle.cm_ctx.proofs.grown.with_options.Given as goal

abbrev pub invariant-parts : goal.invariant-parts
invariant-parts l = l.grown.items ≡ l.options ++ option_choices (take l.index l.parts)
