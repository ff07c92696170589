use Rattle.std.proofs.Common.{◌≡◌, drop}
use Rattle.std.specs.Option.{option_copied}
use Rattle.cm_cond.specs.Typing.{type_along}
use Rattle.cm_cond_text.proofs.scope.type_along.Given as goal

-- what is left to follow leads there
abbrev pub invariant-steps : goal.invariant-steps
invariant-steps l =
    type_along l.model (drop l.step-index l.path) (option_copied l.part)
    ≡ type_along l.model l.path (option_copied l.fn.ty)
