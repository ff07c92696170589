use Rattle.std.proofs.Common.{◌≡◌, ◌+◌, length}
use Rattle.bench_decide.proofs.order.run.Given as goal

abbrev pub invariant-rounds : goal.invariant-rounds
invariant-rounds l = length l.bounds ≡ l.variables + 1
