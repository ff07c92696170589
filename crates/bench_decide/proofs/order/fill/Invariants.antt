use Rattle.std.proofs.Common.{◌≡◌, ◌+◌, length}
use Rattle.bench_decide.proofs.order.fill.Given as goal

abbrev pub invariant-fresh : goal.invariant-fresh
invariant-fresh l = length l.bounds ≡ l.counter + 1
