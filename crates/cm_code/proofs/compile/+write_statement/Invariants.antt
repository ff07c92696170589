-- What the functions on statements come down by, and what their loop has written.
use Rattle.std.proofs.Common.{◌≡◌, ◌+◌, ◌*◌, ◌++◌, ◌≤◌, drop, length}
use Rattle.cm_model.specs.declared.body.Stmt.{size-Stmt}
use Rattle.cm_code.specs.inner.Writing.{block_piece}
use Rattle.cm_code.proofs.compile.+write_statement.Given as goal

abbrev pub decreases-write_statement : goal.decreases-write_statement
decreases-write_statement l = 4 * size-Stmt l.s.now

abbrev pub decreases-write_block : goal.decreases-write_block
decreases-write_block l = 4 * goal.size-write_block l + 1

abbrev pub decreases-write_left : goal.decreases-write_left
decreases-write_left l = 4 * goal.size-write_left l + 2

abbrev pub decreases-write_second : goal.decreases-write_second
decreases-write_second l = 4 * goal.size-write_second l + 3

abbrev pub invariant-write_block-statements : goal.invariant-write_block-statements
invariant-write_block-statements l =
    (l.tail ≡ (block_piece l.ints (drop l.left l.block)).code ++ l.fn.tail) × (l.left ≤ length l.block)

abbrev pub decreases-write_block-statements : goal.decreases-write_block-statements
decreases-write_block-statements l = l.left
