use Rattle.std.proofs.Common.{IsTrue}
use Rattle.bench_decide.specs.OneSort.{IsOneSort}
use Rattle.bench_decide.proofs.sorts.run.Given as goal

abbrev pub invariant-rounds : goal.invariant-rounds
invariant-rounds l = record { one_sort : IsOneSort l.variables l.classes.sorts; spare : IsTrue l.classes.spare }
