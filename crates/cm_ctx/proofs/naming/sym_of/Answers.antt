use Rattle.std.proofs.Common.{sym, ap, ◌∙◌, arith, length}
use Rattle.cm_ctx.specs.declared.piece.Piece.{Piece}
use Rattle.cm_ctx.specs.Naming.{syms_in}
use Rattle.cm_ctx.proofs.Adding.{at_item}
use Rattle.cm_ctx.proofs.Names.{here, further, never}
use Rattle.cm_ctx.proofs.naming.sym_of.Goals as goal

pub returns-then-left-size : goal.returns-then-left-size
returns-then-left-size c =
    let at = at_item c.args.pieces.now c.pieces.piece-index c.piece-item.result (omega arith) c.piece-item.is in
    let size = c.count-size.ensures ∙ ap (λ (p : Piece). length (syms_in c.args.kind p)) c.get.ensures.value in
    sym c.pieces.invariant
    ∙ here c.args.kind c.args.pieces.now c.pieces.piece-index c.pieces.left c.piece-item.result at
    (let lt = c.if-left-size.true in omega arith)
    ∙ rw (c.get-then-left-size.ensures.value) at c.sym_at.ensures

pub pieces-preserved : goal.pieces-preserved
pieces-preserved c =
    let at = at_item c.args.pieces.now c.pieces.piece-index c.piece-item.result (omega arith) c.piece-item.is in
    let size = c.count-size.ensures ∙ ap (λ (p : Piece). length (syms_in c.args.kind p)) c.get.ensures.value in
    sym (further c.args.kind c.args.pieces.now c.pieces.piece-index c.pieces.left c.count-size.result
    c.piece-item.result at size (let le = c.if-left-size.false in omega arith)) ∙ c.pieces.invariant

pub unreachable-requires : goal.unreachable-requires
unreachable-requires c =
    never c.args.kind c.args.pieces.now c.pieces.piece-index c.pieces.left c.args.number
    (let f = c.pieces-test.false in omega arith) c.requires c.pieces.invariant
