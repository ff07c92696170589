use Rattle.std.proofs.lemmas.Bool.{iff_false}
use Rattle.cm_judge.proofs.Same.{Same-push, Same-skip}
use Rattle.cm_judge.proofs.table.lined.Goals as goal
use Rattle.cm_judge.proofs.table.lined.Goals.{then-has_line+in_ok-push, else-has_line}

pub loop-slot-preserved : goal.loop-slot-preserved
loop-slot-preserved c =
    let i = c.loop-slot.slot-index in
    elim c.if-has_line.branch [
      | then-has_line+in_ok-push w ↦ rw (w.records-is, w.in_ok-push.ensures.items)
          (Same-push c.args.slots.now c.loop-slot.records.items i _ c.loop-slot-test.true c.loop-slot.invariant)
      | else-has_line w ↦ rw w.records-is
          (Same-skip c.args.slots.now c.loop-slot.records.items i _ c.loop-slot-test.true
          (iff_false c.has_line.ensures w.if-has_line.false) c.loop-slot.invariant)
    ]
