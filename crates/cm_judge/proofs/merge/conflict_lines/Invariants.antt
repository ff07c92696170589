use Rattle.std.proofs.Common.{take}
use Rattle.cm_judge.specs.inner.Table.{AreFound}
use Rattle.cm_judge.proofs.merge.conflict_lines.Given as goal

abbrev pub invariant-loop-record : goal.invariant-loop-record
invariant-loop-record l = AreFound l.records (take l.record-index l.records) l.lines.items
