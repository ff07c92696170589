-- The items that are left.
use Rattle.std.proofs.Common.{◌≡◌, ◌-◌, length, take}
use Rattle.cm_code.proofs.stack.leave.Given as goal

abbrev pub invariant-drops : goal.invariant-drops
invariant-drops g l = take (length l.items - l.left) l.items ≡ take (length l.fn.items - l.fn.n) l.fn.items

abbrev pub decreases-drops : goal.decreases-drops
decreases-drops g l = l.left
