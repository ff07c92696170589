use Rattle.cm_judge.proofs.Listed.{found_listed, found_push, found_skip}
use Rattle.cm_judge.proofs.merge.conflict_listed.Goals as goal
use Rattle.cm_judge.proofs.merge.conflict_listed.Goals.{then-is_conflict+in_ok-push, else-is_conflict}

pub loop-k-preserved : goal.loop-k-preserved
loop-k-preserved c =
    let records = c.args.records.now in
    let used = c.args.used.now in
    let lines = c.loop-k.lines.items in
    let i = c.loop-k.k-index in
    elim c.if-is_conflict.branch [
      | then-is_conflict+in_ok-push w ↦
          let yes = c.is_conflict.ensures.yes w.if-is_conflict.true in
          rw (w.lines-is, w.in_ok-push.ensures.items)
          (found_push records used lines i _ c.requires.listed.within c.loop-k-test.true c.requires.one_each yes.0
          yes.1 c.loop-k.invariant)
      | else-is_conflict w ↦ rw w.lines-is
          (found_skip records used lines i _ c.requires.listed.within c.loop-k-test.true c.requires.one_each
          (c.is_conflict.ensures.no w.if-is_conflict.false) c.loop-k.invariant)
    ]

pub returns : goal.returns
returns c entries stands =
    c.ordered.ensures c.args.records.now entries
    (found_listed c.args.records.now c.args.used.now c.loop-k.lines.items c.loop-k.k-index c.requires.listed
    c.loop-k-test.false c.loop-k.invariant) stands
