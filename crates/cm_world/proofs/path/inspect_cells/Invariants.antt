use Rattle.cm_world.proofs.Cells.{Keeps}
use Rattle.cm_world.proofs.path.inspect_cells.Given as goal

abbrev pub invariant-cells : goal.invariant-cells
invariant-cells l = Keeps l.left l.right l.cells l.written l.i l.fn.steps l.steps
