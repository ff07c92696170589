use Rattle.cm_judge.proofs.judge.Judge.take_conflicts.Goals as goal

pub returns-clause-lines : goal.returns-clause-lines
returns-clause-lines c entries stands =
    rw c.from_vec.ensures (c.in_ok-lines.ensures entries (rw (c.as_slice.ensures.value, c.self.view_is) stands))
