use Rattle.std.proofs.Common.{◌≡◌, ◌+◌, length}
use Rattle.cm_order.proofs.tests.three_hundred_and_twenty_integers_in_a_row.Given as goal

abbrev pub invariant-fresh : goal.invariant-fresh
invariant-fresh g l = length l.bounds ≡ l.counter + 1
