use Rattle.std.proofs.Common.{◌≡◌, ◌+◌, ◌*◌, max, map, drop, take, length, [], false}
use Rattle.cm_syntax.specs.declared.tree.Block.{size-Block}
use Rattle.cm_syntax.specs.declared.tree.Stmt.{size-Stmt}
use Rattle.cm_typing.specs.Statements.{stmt_told, block_told}
use Rattle.cm_typing.proofs.scope.Scope.+check_stmt.Given as goal

abbrev pub invariant-check_stmts-loop-s : goal.invariant-check_stmts-loop-s
invariant-check_stmts-loop-s l =
    (block_told l.steps l.returns (map (stmt_told l.self) (drop l.s-index l.statements)) l.locals
    ≡ block_told [] false (map (stmt_told l.fn.self) l.fn.statements) l.fn.locals)
    × (take (length l.fn.locals) l.locals ≡ l.fn.locals)

abbrev pub decreases-check_block : goal.decreases-check_block
decreases-check_block l = 8 * size-Block l.block.now + 2

abbrev pub decreases-check_stmts : goal.decreases-check_stmts
decreases-check_stmts l = 8 * goal.size-check_stmts l + 1

abbrev pub decreases-check_stmt : goal.decreases-check_stmt
decreases-check_stmt l = 8 * size-Stmt l.s.now

abbrev pub decreases-check_if : goal.decreases-check_if
decreases-check_if l = 8 * size-Block l.yes.now + 3

abbrev pub decreases-check_if_else : goal.decreases-check_if_else
decreases-check_if_else l = 8 * max (size-Block l.yes.now) (size-Block l.other.now) + 3

abbrev pub decreases-check_case : goal.decreases-check_case
decreases-check_case l = 8 * max (size-Block l.nothing.now) (size-Block l.something.now) + 4

abbrev pub decreases-check_some_block : goal.decreases-check_some_block
decreases-check_some_block l = 8 * size-Block l.block.now + 3
