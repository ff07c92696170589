use Rattle.std.proofs.Common.{sym, ◌∙◌}
use Rattle.cm_ctx.proofs.Indexing.{stands_at, stands_within}
use Rattle.cm_ctx.proofs.asked.Asked.payload.Goals as goal

pub piece_at-piece-requires : goal.piece_at-piece-requires
piece_at-piece-requires c =
    let lt = rw (← c.self.view_is) at c.requires in
    let is = rw (c.as_slice-options.ensures.value) at c.number_at-number.ensures in
    rw (c.as_slice-pieces.ensures.value)
    (stands_within c.self.inside.pieces.items c.self.inside.options.items c.self.inside.roots.items c.self.invariant
    c.args.o c.number_at-number.result lt is)

pub payload_in-requires-clause-from : goal.payload_in-requires-clause-from
payload_in-requires-clause-from c =
    let lt = rw (← c.self.view_is) at c.requires in
    let is = rw (c.as_slice-options.ensures.value) at c.number_at-number.ensures in
    let at = rw (c.as_slice-pieces.ensures.value) at c.piece_at-piece.ensures in
    (stands_at c.self.inside.pieces.items c.self.inside.options.items c.self.inside.roots.items c.self.invariant
    c.args.o c.number_at-number.result c.piece_at-piece.result.now lt is at).from

pub payload_in-requires-clause-within : goal.payload_in-requires-clause-within
payload_in-requires-clause-within c =
    let lt = rw (← c.self.view_is) at c.requires in
    let is = rw (c.as_slice-options.ensures.value) at c.number_at-number.ensures in
    let at = rw (c.as_slice-pieces.ensures.value) at c.piece_at-piece.ensures in
    (stands_at c.self.inside.pieces.items c.self.inside.options.items c.self.inside.roots.items c.self.invariant
    c.args.o c.number_at-number.result c.piece_at-piece.result.now lt is at).within

pub returns : goal.returns
returns c =
    let lt = rw (← c.self.view_is) at c.requires in
    let is = rw (c.as_slice-options.ensures.value) at c.number_at-number.ensures in
    let at = rw (c.as_slice-pieces.ensures.value) at c.piece_at-piece.ensures in
    rw (← c.self.view_is)
    (sym (stands_at c.self.inside.pieces.items c.self.inside.options.items c.self.inside.roots.items
    c.self.invariant c.args.o c.number_at-number.result c.piece_at-piece.result.now lt is at).payload
    ∙ c.payload_in.ensures)
