use Rattle.std.proofs.Common.{◌≡◌}
use Rattle.cm_ctx.proofs.tests.put_inside.Goals as goal

pub outcomes-mask-requires : goal.outcomes-mask-requires
outcomes-mask-requires g c = c.place-question.ensures.well c.args.ctx.now c.requires.there

pub add-requires-clause-well : goal.add-requires-clause-well
add-requires-clause-well g c = c.place-question.ensures.well c.args.ctx.now c.requires.there

pub add-requires-clause-may : goal.add-requires-clause-may
add-requires-clause-may g c = (c.outcomes-mask.ensures.exact 1).0 (c.has-may.ensures.has.0 c.if-may.true)

pub add-requires-clause-spare : goal.add-requires-clause-spare
add-requires-clause-spare g c = c.place-question.ensures.spare c.args.ctx.now
