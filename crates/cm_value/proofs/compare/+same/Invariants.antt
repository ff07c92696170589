-- The values before the index are equal.
use Rattle.std.proofs.Common.{◌≡◌, take}
use Rattle.cm_value.proofs.compare.+same.Given as goal

abbrev pub invariant-same_all-loop-i : goal.invariant-same_all-loop-i
invariant-same_all-loop-i l = take l.i l.left ≡ take l.i l.right
