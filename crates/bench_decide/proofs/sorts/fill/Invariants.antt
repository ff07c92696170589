use Rattle.bench_decide.specs.OneSort.{IsOneSort}
use Rattle.bench_decide.proofs.sorts.fill.Given as goal

abbrev pub invariant-fresh : goal.invariant-fresh
invariant-fresh l = IsOneSort l.counter l.classes.sorts
