use Rattle.std.proofs.Common.{◌≡◌, ◌++◌, take}
use Rattle.cm_ctx.specs.Grown.{tag_choices}
use Rattle.cm_ctx.proofs.grown.with_tags.Given as goal

abbrev pub invariant-parts : goal.invariant-parts
invariant-parts l = l.grown.items ≡ l.tags ++ tag_choices (take l.part-index l.parts)
