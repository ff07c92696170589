use Rattle.std.proofs.Common.{◌≡◌, ◌↔◌, IsTrue, List, subst}
use Rattle.cm_ctx.specs.declared.piece.Piece.{Piece}
use Rattle.cm_ctx.specs.Asking.{IsAmong}
use Rattle.cm_ctx.proofs.Indexing.{root_at}
use Rattle.cm_ctx.proofs.asked.Asked.has.Goals as goal

pub returns : goal.returns
returns c =
    let ps = c.self.inside.pieces.items in
    let n = c.piece_number-number.result in
    let is = rw (c.as_slice-roots.ensures.value) at c.piece_number-number.ensures in
    let there = rw (c.as_slice-pieces.ensures.value) at c.is_of.ensures in
    subst (λ (qs : List Piece). IsTrue c.is_of.result
    ↔ ((p : Piece) × IsAmong qs p × (p.root ≡ c.args.root))) c.self.view_is (
      (λ t. let p = there.0 t in (p.0, (n, p.1), p.2)),
      (λ w. there.1 (
        w.0,
        root_at ps c.self.inside.options.items c.self.inside.roots.items c.self.invariant c.args.root w.0 n w.1 w.2 is,
        w.2,
      )),
    )
