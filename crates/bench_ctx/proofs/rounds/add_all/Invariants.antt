use Rattle.std.proofs.Common.{IsTrue}
use Rattle.bench_ctx.proofs.rounds.add_all.Given as goal

abbrev pub invariant-rounds : goal.invariant-rounds
invariant-rounds g l = IsTrue l.ctx.classes.spare
