use Rattle.std.proofs.Common.{subst}
use Rattle.cm_model.specs.declared.ty.Ty.{Ty}
use Rattle.cm_ctx.specs.Making.{piece_of, counted}
use Rattle.cm_ctx.specs.Contexts.{counts_of}
use Rattle.cm_ctx.proofs.Examples.{nothing_asked, option_more}
use Rattle.cm_ctx.proofs.tests.ask_option.Goals as goal

pub fresh_of-requires-clause-new : goal.fresh_of-requires-clause-new
fresh_of-requires-clause-new c = nothing_asked c.args.ctx.now.pieces _ c.requires.none

pub returns : goal.returns
returns c = option_more c.args.model.now c.requires.option.0 _ _ c.args.ctx.now c.fresh_of.new.self
    (rw (c.requires.option.1) at c.in_ok-term.ensures.counts)
