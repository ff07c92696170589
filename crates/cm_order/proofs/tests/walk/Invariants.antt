use Rattle.std.proofs.Common.{◌≡◌, length}
use Rattle.cm_order.proofs.tests.walk.Given as goal

abbrev pub invariant-steps : goal.invariant-steps
invariant-steps g l = length l.bounds ≡ 4
