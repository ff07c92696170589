use Rattle.cm_ctx.proofs.tests.ask_place.Goals as goal

pub outcomes-requires : goal.outcomes-requires
outcomes-requires c = c.place-question.ensures.well c.args.ctx.now c.requires.there
