-- What is left of the run is the same at each step, and there is less to do.
use Rattle.std.proofs.Common.{◌≡◌, ◌≤◌}
use Rattle.cm_code.specs.Machine.{with_body, script}
use Rattle.cm_code.specs.Steps.{steps_left}
use Rattle.cm_code.proofs.machine.go.Given as goal

abbrev pub invariant-steps : goal.invariant-steps
invariant-steps g l =
    (script g.row.T-Value.Denot g.row.T.Denot g.T.Operand.Doing g.T.Operand.rules (with_body l.funs l.body) l.fn.m
    ≡ script g.row.T-Value.Denot g.row.T.Denot g.T.Operand.Doing g.T.Operand.rules (with_body l.funs l.body) l.m)
    × (steps_left (with_body l.funs l.body) l.m ≤ steps_left (with_body l.funs l.body) l.fn.m)

abbrev pub decreases-steps : goal.decreases-steps
decreases-steps g l = steps_left (with_body l.funs l.body) l.m
