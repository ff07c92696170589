use Rattle.cm_judge.proofs.Listed.{ListedFrom}
use Rattle.cm_judge.proofs.table.free_listed.Given as goal

abbrev pub invariant-loop-k : goal.invariant-loop-k
invariant-loop-k l = ListedFrom l.slots l.used l.k-index
