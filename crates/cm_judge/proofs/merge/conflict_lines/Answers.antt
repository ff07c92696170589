use Rattle.std.proofs.Common.{List, subst}
use Rattle.std.proofs.lemmas.List.{take_all}
use Rattle.cm_judge.specs.declared.slots.Record.{Record}
use Rattle.cm_judge.specs.inner.Table.{AreFound}
use Rattle.cm_judge.proofs.Merges.{found_calm, found_more_at}
use Rattle.cm_judge.proofs.merge.conflict_lines.Goals as goal
use Rattle.cm_judge.proofs.merge.conflict_lines.Goals.{then-is_conflict+in_ok-push, else-is_conflict}

pub loop-record-preserved : goal.loop-record-preserved
loop-record-preserved c =
    let records = c.args.records.now in
    let lines = c.loop-record.lines.items in
    let i = c.loop-record.record-index in
    elim c.if-is_conflict.branch [
      | then-is_conflict+in_ok-push w ↦
          let yes = c.is_conflict.ensures.yes w.if-is_conflict.true in
          rw (w.lines-is, w.in_ok-push.ensures.items)
          (found_more_at records lines i _ c.loop-record-test.true c.requires yes.0 yes.1 c.loop-record.invariant)
      | else-is_conflict w ↦ rw w.lines-is
          (found_calm records lines i _ c.loop-record-test.true c.requires
          (c.is_conflict.ensures.no w.if-is_conflict.false) c.loop-record.invariant)
    ]

pub returns : goal.returns
returns c entries stands =
    let records = c.args.records.now in
    c.ordered.ensures records entries
    (subst (λ (l : List Record). AreFound records l c.loop-record.lines.items)
    (take_all c.loop-record.record-index records c.loop-record-test.false) c.loop-record.invariant) stands
