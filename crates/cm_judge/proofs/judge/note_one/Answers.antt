use Rattle.std.proofs.Common.{arith, ◌++◌}
use Rattle.cm_judge.proofs.Notes.{noted_one}
use Rattle.cm_judge.proofs.judge.note_one.Goals as goal

pub note-requires-clause-covered : goal.note-requires-clause-covered
note-requires-clause-covered c =
    (c.requires.lines c.args.lines.first).1 (0, omega (arith, c.if-lines-ne1.false), omega arith)

pub returns-clause-noted : goal.returns-clause-noted
returns-clause-noted c is spill =
    noted_one (c.args.table.now ++ spill)
    (c.note.new.self ++ spill) c.args.e.now c.args.lines c.if-lines-ne1.false c.requires.lines
    (c.note.ensures.noted is spill)
