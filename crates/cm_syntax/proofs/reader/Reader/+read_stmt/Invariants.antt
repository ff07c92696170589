use Rattle.std.proofs.Common.{◌+◌, ◌*◌, ◌≤◌, length}
use Rattle.cm_syntax.specs.inner.Machine.{Stmts, followed_by, Partly}
use Rattle.cm_syntax.proofs.reader.Reader.+read_stmt.Given as goal

abbrev pub decreases-read_block : goal.decreases-read_block
decreases-read_block l = 3 * length l.self.now.left + 1

abbrev pub decreases-read_braced : goal.decreases-read_braced
decreases-read_braced l = 3 * length l.self.now.left + 0

abbrev pub decreases-read_stmts : goal.decreases-read_stmts
decreases-read_stmts l = 3 * length l.self.now.left + 2

abbrev pub decreases-read_stmt : goal.decreases-read_stmt
decreases-read_stmt l = 3 * length l.self.now.left + 1

abbrev pub decreases-read_if : goal.decreases-read_if
decreases-read_if l = 3 * length l.self.now.left + 0

abbrev pub decreases-read_else : goal.decreases-read_else
decreases-read_else l = 3 * length l.self.now.left + 1

abbrev pub decreases-read_other : goal.decreases-read_other
decreases-read_other l = 3 * length l.self.now.left + 0

abbrev pub decreases-read_case : goal.decreases-read_case
decreases-read_case l = 3 * length l.self.now.left + 0

abbrev pub invariant-read_stmts-statements : goal.invariant-read_stmts-statements
invariant-read_stmts-statements l = record {
  shorter : length l.self.left ≤ length l.fn.self.left;
  reads : Partly Stmts followed_by l.more l.fn.self l.self;
}

abbrev pub decreases-read_stmts-statements : goal.decreases-read_stmts-statements
decreases-read_stmts-statements l = length l.self.left
