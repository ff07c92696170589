use Rattle.std.proofs.Common.{◌≡◌, sym, subst, List}
use Rattle.cm_ctx.specs.declared.piece.Piece.{Piece}
use Rattle.cm_ctx.specs.Asking.{IsAmong}
use Rattle.std.proofs.lemmas.Option.{slice_get_within}
use Rattle.cm_ctx.proofs.Indexing.{root_at, the_same}
use Rattle.cm_ctx.proofs.asked.Asked.piece_of.Goals as goal

pub piece_at-requires : goal.piece_at-requires
piece_at-requires c =
    let w = subst (λ (ps : List Piece). (p : Piece) × IsAmong ps p × (p.root ≡ c.args.root))
    (sym c.self.view_is) c.requires in
    let is = rw (c.as_slice-roots.ensures.value) at c.piece_number-number.ensures in
    rw (c.as_slice-pieces.ensures.value) (slice_get_within c.self.inside.pieces.items c.piece_number-number.result w.0
    (root_at c.self.inside.pieces.items c.self.inside.options.items c.self.inside.roots.items c.self.invariant
    c.args.root w.0 c.piece_number-number.result w.1 w.2 is))

pub returns : goal.returns
returns c = rw (← c.self.view_is) (λ p m e.
    let is = rw (c.as_slice-roots.ensures.value) at c.piece_number-number.ensures in
    let at = rw (c.as_slice-pieces.ensures.value) at c.piece_at.ensures in
    the_same c.self.inside.pieces.items c.piece_number-number.result _ _ at
    (root_at c.self.inside.pieces.items c.self.inside.options.items c.self.inside.roots.items c.self.invariant
    c.args.root p c.piece_number-number.result m e is))
