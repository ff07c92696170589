use Rattle.std.proofs.Common.{rules, ap, sym, ◌∙◌, Some}
use Rattle.cm_cells.specs.CellTable.{Place}
use Rattle.cm_cells.specs.inner.Kept.{place_of}
use Rattle.cm_cells.proofs.Tables.{at_place, read_of}
use Rattle.cm_cells.proofs.cell.key.Goals as goal

-- src/cell.rt:107:1
pub returns : goal.returns
returns c = record {
  key =
      read_of place_of (λ p. p.key) c.args.cells.now c.args.cell c.index-cells-from.result
      (at_place c.args.cells.now c.args.cell c.from.result c.index-cells-from.result c.from.ensures c.requires.cell
      c.index-cells-from.is)
      ∙ ap Some (search rules);
}
