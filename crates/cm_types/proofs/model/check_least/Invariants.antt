use Rattle.std.proofs.Common.{◌≡◌, drop}
use Rattle.cm_types.specs.LeastValues.{least_told}
use Rattle.cm_types.proofs.model.check_least.Given as goal

abbrev pub invariant-loop-number : goal.invariant-loop-number
invariant-loop-number l = least_told l.model l.number (drop l.number l.places) ≡ least_told l.fn.model 0 l.fn.places
