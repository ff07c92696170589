use Rattle.cm_judge.proofs.Covered.{covered, covers}
use Rattle.cm_judge.proofs.line.lines_of.Goals as goal

pub returns : goal.returns
returns c line = rw c.from.ensures
    (covered c.args.e.now line c.requires, λ k. covers c.args.e.now line k.0 c.requires k.1 k.2)
