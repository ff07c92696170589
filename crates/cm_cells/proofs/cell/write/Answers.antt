use Rattle.std.proofs.Common.{ap, ◌∙◌, slice_set}
use Rattle.cm_cells.specs.CellTable.{with_term}
use Rattle.cm_cells.specs.inner.Kept.{table_of}
use Rattle.cm_cells.proofs.Tables.{at_place, written_in}
use Rattle.cm_cells.proofs.cell.write.Goals as goal

-- src/cell.rt:115:1
pub returns-clause-term : goal.returns-clause-term
returns-clause-term c =
    ap (λ i. table_of (slice_set c.args.cells.now.items i c.put.new.cell)) c.from.ensures
    ∙ ap (λ d. table_of (slice_set c.args.cells.now.items c.args.cell d)) c.put.ensures.put
    ∙ written_in c.args.order c.args.t c.args.cells.now.items c.args.cell c.index_mut.result.now
    (at_place c.args.cells.now.items c.args.cell c.from.result c.index_mut.result.now c.from.ensures c.requires.cell
    c.index_mut.ensures.value)
