use Rattle.std.proofs.Common.{◌≡◌}
use Rattle.cm_ctx.proofs.tests.decide_option.Goals as goal

pub add-requires-clause-may : goal.add-requires-clause-may
add-requires-clause-may g c = (c.outcomes-mask.ensures.exact c.args.outcome).0 (c.has-may.ensures.has.0 c.if-may.true)
