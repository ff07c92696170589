use Rattle.std.proofs.Common.{◌≡◌, ℕ, List, length, ap, subst, sym}
use Rattle.cm_cells.specs.CellTable.{CellTable}
use Rattle.cm_ctx.specs.Contexts.{Context}
use Rattle.cm_ctx.specs.declared.piece.Piece.{Piece}
use Rattle.cm_exec.specs.Running.{IsRoomy}
use Rattle.cm_exec.proofs.Going.{roomy_still}
use Rattle.exec_cases.proofs.tree.Standing.answered.Goals as goal

-- copies of facts and cells are as roomy
roomy_copied : (ps qs : List Piece) (n m : ℕ) → IsRoomy ps n → qs ≡ ps → m ≡ n → IsRoomy qs m
roomy_copied ps qs n m roomy e same = subst (λ (rs : List Piece). IsRoomy rs m) (sym e) (roomy_still ps n m roomy same)

pub returns : goal.returns
returns c = record {
  roomy = roomy_copied _ _ _ _ c.requires.roomy (ap (λ (f : Context). f.pieces) c.in_ok-facts.ensures.equal)
      (ap (λ (t : CellTable). length t.places) c.in_ok-cells.ensures.equal);
}
