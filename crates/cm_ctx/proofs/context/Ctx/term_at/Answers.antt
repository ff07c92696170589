use Rattle.std.proofs.Common.{◌≡◌, subst, sym, ap}
use Rattle.cm_ctx.specs.declared.piece.Piece.{Piece}
use Rattle.cm_ctx.specs.Contexts.{Context}
use Rattle.cm_ctx.specs.Asking.{IsAmong}
use Rattle.cm_ctx.proofs.context.Ctx.term_at.Goals as goal

pub piece_of-requires : goal.piece_of-requires
piece_of-requires c = rw (c.get.ensures.value) (subst
    (λ (x : Context). (p : Piece) × IsAmong x.pieces p × (p.root ≡ c.args.root)) (sym c.self.view_is) c.requires)

pub returns : goal.returns
returns c = record {
  term = subst (λ (x : Context). (p : Piece) → IsAmong x.pieces p → p.root ≡ c.args.root
      → c.piece_of.result.now.term ≡ p.term) c.self.view_is
      (λ p m e. ap (λ (q : Piece). q.term) (c.piece_of.ensures p (rw (c.get.ensures.value) m) e));
}
