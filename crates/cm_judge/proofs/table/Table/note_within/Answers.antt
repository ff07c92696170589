use Rattle.cm_judge.proofs.Keeps.{noted_filled, noted_held}
use Rattle.cm_judge.proofs.table.Table.note_within.Goals as goal

pub returns-in-Held-clause-noted : goal.returns-in-Held-clause-noted
returns-in-Held-clause-noted c _ rest =
    let holds = rw (← c.self.view_is) at c.in-Held.ensures in
    rw (← c.self.view_is)
    (noted_held c.self.inside.slots.items rest c.in-Held.k c.args.line c.index_mut.result.now c.args.e.now
    c.add.new.self holds c.index_mut.ensures.value c.requires.covered c.requires.judged c.add.ensures.small
    c.add.ensures.own c.add.ensures.others)

pub returns-else-self-most-clause-noted : goal.returns-else-self-most-clause-noted
returns-else-self-most-clause-noted c _ rest =
    let filled = c.fill.ensures.filled in
    rw filled.1 (noted_filled c.args.self.now rest c.in-Free.k c.args.line filled.0 c.args.e.now c.in-Free.ensures
    c.requires.covered filled.2)
