use Rattle.std.proofs.Common.{◌≡◌}
use Rattle.cm_ctx.proofs.Spare.{room}
use Rattle.bench_ctx.proofs.rounds.tell.Goals as goal

pub add-requires-clause-may : goal.add-requires-clause-may
add-requires-clause-may g c = (c.outcomes-mask.ensures.exact _).0 (c.has-may.ensures.has.0 c.if-may.true)

pub add-requires-clause-spare : goal.add-requires-clause-spare
add-requires-clause-spare g c = room c.args.ctx.now c.requires.spare c.args.question.now
