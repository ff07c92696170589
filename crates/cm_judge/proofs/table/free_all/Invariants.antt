use Rattle.std.proofs.Common.{◌≢◌, ℕ, ◌%◌, ◌<◌, get_or}
use Rattle.cm_judge.specs.declared.slots.Record.{Record}
use Rattle.cm_judge.proofs.table.free_all.Given as goal

abbrev pub invariant-loop-slot : goal.invariant-loop-slot
invariant-loop-slot l = (k : ℕ) (d : Record) → k < l.slot-index → (get_or l.slots k d).line % 64 ≢ 0
