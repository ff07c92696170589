use Rattle.std.proofs.Common.{◌∙◌, ap}
use Rattle.cm_ctx.specs.declared.piece.Piece.{Piece}
use Rattle.cm_ctx.proofs.Indexing.{the_same}
use Rattle.cm_ctx.proofs.asked.is_of.Goals as goal

pub returns : goal.returns
returns c = (
  (λ t. (c.piece_at.result.now, c.piece_at.ensures, c.is_same.ensures.0 t)),
  (λ w.
      let same = the_same c.args.pieces.now c.args.number c.piece_at.result.now w.0 c.piece_at.ensures w.1 in
      c.is_same.ensures.1 (ap (λ (p : Piece). p.root) same ∙ w.2)),
)
