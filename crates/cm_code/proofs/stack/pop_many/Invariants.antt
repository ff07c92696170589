-- The values that were taken.
use Rattle.std.proofs.Common.{◌≡◌, List, [], reverse}
use Rattle.cm_code.specs.Code.{many}
use Rattle.cm_code.proofs.stack.pop_many.Given as goal

abbrev pub invariant-takes : goal.invariant-takes
invariant-takes g l = (k : List g.row.T-Value.Denot → List g.row.T.Denot → g.T.Operand.Doing)
    → many g.row.T-Value.Denot g.row.T.Denot g.T.Operand.Doing g.T.Operand.rules
    l.left (reverse l.ops) (reverse l.back) k
    ≡ many g.row.T-Value.Denot g.row.T.Denot g.T.Operand.Doing g.T.Operand.rules l.fn.n (reverse l.fn.ops) [] k

abbrev pub decreases-takes : goal.decreases-takes
decreases-takes g l = l.left
