use Rattle.std.proofs.Common.{drop}
use Rattle.cm_judge.proofs.Merges.{IsJoined}
use Rattle.cm_judge.proofs.merge.joined.Given as goal

abbrev pub invariant-loop-record : goal.invariant-loop-record
invariant-loop-record l = IsJoined l.sorted l.all.items l.last (drop l.record-index l.others)
