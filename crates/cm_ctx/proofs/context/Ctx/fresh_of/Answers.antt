use Rattle.cm_ctx.proofs.Ranges.{fitting}
use Rattle.cm_ctx.proofs.context.Ctx.fresh_of.Goals as goal

pub with_piece-requires-clause-new : goal.with_piece-requires-clause-new
with_piece-requires-clause-new c = rw (c.in_ok-piece.ensures) c.requires.new

pub with_piece-requires-clause-fits : goal.with_piece-requires-clause-fits
with_piece-requires-clause-fits c =
    rw (c.in_ok-piece.ensures) (fitting c.args.model.now c.well_typed.ensures.well_typed c.args.ty.now _ _)
