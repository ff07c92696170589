use Rattle.std.proofs.Common.{◌≡◌, map, take}
use Rattle.cm_value.specs.Least.{least_of}
use Rattle.cm_eval.proofs.state.least_values.Given as goal

abbrev pub invariant-loop-state : goal.invariant-loop-state
invariant-loop-state l = l.values ≡ map (λ d. least_of l.model d.value) (take l.state-index l.states)
