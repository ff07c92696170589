use Rattle.std.proofs.Common.{◌≡◌, ◌↔◌, IsTrue, subst}
use Rattle.cm_ctx.specs.declared.piece.Piece.{Piece}
use Rattle.cm_ctx.specs.Contexts.{Context}
use Rattle.cm_ctx.specs.Asking.{IsAmong}
use Rattle.cm_ctx.proofs.context.Ctx.has.Goals as goal

pub returns : goal.returns
returns c = record {
  asked = subst (λ (x : Context). IsTrue c.has.result ↔ ((p : Piece) × IsAmong x.pieces p × (p.root ≡ c.args.root)))
      c.self.view_is (rw c.get.ensures.value at c.has.ensures);
}
