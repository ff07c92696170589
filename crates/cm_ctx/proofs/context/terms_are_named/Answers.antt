use Rattle.cm_ctx.proofs.Owning.{piece_owns}
use Rattle.cm_ctx.proofs.Leading.{piece_names}
use Rattle.cm_ctx.proofs.context.terms_are_named.Goals as goal

pub returns-clause-own : goal.returns-clause-own
returns-clause-own c = piece_owns c.args.model.now c.args.ty.now

pub returns-clause-named : goal.returns-clause-named
returns-clause-named c = piece_names c.args.model.now c.args.ty.now
