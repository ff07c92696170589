use Rattle.std.proofs.Common.{◌≡◌, length}
use Rattle.cm_order.proofs.tests.ascend.Given as goal

abbrev pub invariant-variables : goal.invariant-variables
invariant-variables g l = length l.bounds ≡ 321
