use Rattle.cm_judge.proofs.Listed.{FoundAt}
use Rattle.cm_judge.proofs.merge.conflict_listed.Given as goal

abbrev pub invariant-loop-k : goal.invariant-loop-k
invariant-loop-k l = FoundAt l.records l.used l.k-index l.lines.items
