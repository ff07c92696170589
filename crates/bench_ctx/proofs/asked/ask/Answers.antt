use Rattle.std.proofs.lemmas.Bool.{iff_false}
use Rattle.bench_ctx.proofs.asked.ask.Goals as goal

pub fresh_of-requires-clause-new : goal.fresh_of-requires-clause-new
fresh_of-requires-clause-new c = λ p among is. iff_false c.has.ensures.asked c.if-has.false (p, among, is)
