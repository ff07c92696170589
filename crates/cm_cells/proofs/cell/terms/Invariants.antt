use Rattle.std.proofs.Common.{◌≡◌, map, take}
use Rattle.cm_cells.specs.inner.Kept.{term_in}
use Rattle.cm_cells.proofs.cell.terms.Given as goal

abbrev pub invariant-loop-cell : goal.invariant-loop-cell
invariant-loop-cell l = l.shared.items ≡ map (term_in l.order) (take l.cell-index l.cells)
