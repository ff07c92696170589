use Rattle.std.proofs.Common.{◌≡◌}
use Rattle.cm_cells.proofs.Tables.{anew_to}
use Rattle.cm_cells.proofs.cell.clear_all.Given as goal

abbrev pub invariant-loop-i : goal.invariant-loop-i
invariant-loop-i l = l.cells.items ≡ anew_to l.order l.i l.fn.cells.items
