use Rattle.std.proofs.Common.{take}
use Rattle.cm_judge.specs.inner.Table.{EachIsFound, SameRecords}
use Rattle.cm_judge.proofs.grow.grown.Given as goal

abbrev pub invariant-loop-slot : goal.invariant-loop-slot
invariant-loop-slot l = record {
  same : SameRecords (take l.slot-index l.slots) l.new.items;
  found : EachIsFound l.new.items;
}
