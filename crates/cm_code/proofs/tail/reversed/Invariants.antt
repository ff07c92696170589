-- What came out and what is left.
use Rattle.std.proofs.Common.{◌≡◌, ◌++◌, length, reverse}
use Rattle.cm_code.proofs.tail.reversed.Given as goal

abbrev pub invariant-turns : goal.invariant-turns
invariant-turns g l = l.out ++ reverse l.back ≡ reverse l.fn.items

abbrev pub decreases-turns : goal.decreases-turns
decreases-turns g l = length l.back
