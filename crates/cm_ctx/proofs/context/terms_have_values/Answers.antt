use Rattle.cm_ctx.proofs.Good.{made_good}
use Rattle.cm_ctx.proofs.context.terms_have_values.Goals as goal

pub returns-clause-typed : goal.returns-clause-typed
returns-clause-typed c = (made_good c.args.model.now c.well_typed.ensures.well_typed c.args.ty.now c.requires).typed

pub returns-clause-free : goal.returns-clause-free
returns-clause-free c = (made_good c.args.model.now c.well_typed.ensures.well_typed c.args.ty.now c.requires).free
