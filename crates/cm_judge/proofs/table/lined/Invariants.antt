use Rattle.std.proofs.Common.{take}
use Rattle.cm_judge.specs.inner.Table.{SameRecords}
use Rattle.cm_judge.proofs.table.lined.Given as goal

abbrev pub invariant-loop-slot : goal.invariant-loop-slot
invariant-loop-slot l = SameRecords (take l.slot-index l.slots) l.records.items
