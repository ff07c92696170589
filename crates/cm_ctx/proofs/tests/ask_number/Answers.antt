use Rattle.cm_ctx.proofs.Examples.{nothing_asked, number_more}
use Rattle.cm_ctx.proofs.tests.ask_number.Goals as goal

pub fresh_of-requires-clause-new : goal.fresh_of-requires-clause-new
fresh_of-requires-clause-new c = nothing_asked c.args.ctx.now.pieces _ c.requires

pub returns : goal.returns
returns c = number_more c.args.model.now 0 _ _ c.args.ctx.now c.fresh_of.new.self c.in_ok-term.ensures.counts
