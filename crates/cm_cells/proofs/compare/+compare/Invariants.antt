use Rattle.cm_cells.proofs.Fields.{Keeps}
use Rattle.cm_cells.proofs.compare.+compare.Given as goal

abbrev pub invariant-compare_all-loop-i : goal.invariant-compare_all-loop-i
invariant-compare_all-loop-i l = Keeps l.left l.right l.i l.rest l.fn.answers
