use Rattle.std.proofs.lemmas.Bool.{iff_false}
use Rattle.cm_judge.proofs.Found.{found_filled}
use Rattle.cm_judge.proofs.Same.{Same-put, Same-skip}
use Rattle.cm_judge.proofs.grow.grown.Goals as goal
use Rattle.cm_judge.proofs.grow.grown.Goals.{then-has_line+in-Free, else-has_line}

pub loop-slot-preserved : goal.loop-slot-preserved
loop-slot-preserved c =
    let i = c.loop-slot.slot-index in
    elim c.if-has_line.branch [
      | then-has_line+in-Free w ↦
          let free = rw w.as_slice.ensures.value at w.in-Free.ensures in
          rw w.new-is record {
            same = Same-put c.args.slots.now c.loop-slot.new.items i w.in-Free.k _ _ c.loop-slot-test.true
                free.in_table (free.free w.index_mut.result.now) c.loop-slot.invariant.same;
            found = found_filled c.loop-slot.new.items w.in-Free.k _ free c.loop-slot.invariant.found;
          }
      | else-has_line w ↦ rw w.new-is record {
        same = Same-skip c.args.slots.now c.loop-slot.new.items i _ c.loop-slot-test.true
            (iff_false c.has_line.ensures w.if-has_line.false) c.loop-slot.invariant.same;
        found = c.loop-slot.invariant.found;
      }
    ]
