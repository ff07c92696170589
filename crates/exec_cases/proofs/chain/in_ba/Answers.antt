use Rattle.std.proofs.Common.{length, ap}
use Rattle.cm_cells.specs.CellTable.{CellTable}
use Rattle.cm_exec.proofs.Going.{roomy_still}
use Rattle.exec_cases.proofs.chain.in_ba.Goals as goal

pub in_order-requires : goal.in_order-requires
in_order-requires c = record {
  roomy = roomy_still _ _ _ c.requires.roomy (ap (λ (t : CellTable). length t.places) c.reset.ensures.anew);
}
