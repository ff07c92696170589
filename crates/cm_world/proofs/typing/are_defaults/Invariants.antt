use Rattle.std.proofs.Common.{◌≡◌, map, drop}
use Rattle.cm_value.specs.Membership.{are_values_of}
use Rattle.cm_world.proofs.typing.are_defaults.Given as goal

-- what is left to test decides
abbrev pub invariant-loop-i : goal.invariant-loop-i
invariant-loop-i l =
    are_values_of l.model (map (λ d. d.value) (drop l.i l.states)) (drop l.i l.values) ≡ are_values_of
    l.fn.model (map (λ d. d.value) l.fn.states) l.fn.values
