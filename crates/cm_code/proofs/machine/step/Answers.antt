-- One instruction.
use Rattle.std.proofs.Common.{◌∙◌, sym}
use Rattle.cm_code.specs.Machine.{with_body}
use Rattle.cm_code.proofs.Going.{stepping, nothing, stepped_steps}
use Rattle.cm_code.proofs.machine.step.Goals as goal

pub returns-in_ok-e-in-Some-clause-means : goal.returns-in_ok-e-in-Some-clause-means
returns-in_ok-e-in-Some-clause-means g c =
    stepping _ _ _ g.T.Operand.rules (with_body c.args.funs.now c.args.body.now) c.args.m.now
    c.in-Some.i c.in_ok-d-in-Some.d c.operate.new.ops c.operate.new.locals c.jump.new.at
    (sym c.in-Some.ensures) c.in_ok-d-in-Some.ensures c.in_ok-jump-in-Some.ensures
    ∙ c.in_ok-e-in-Some.ensures.means c.args.body.now

pub returns-in_ok-e-in-Some-clause-left : goal.returns-in_ok-e-in-Some-clause-left
returns-in_ok-e-in-Some-clause-left g c =
    stepped_steps (with_body c.args.funs.now c.args.body.now) c.args.m.now
    c.in-Some.i c.operate.new.ops c.operate.new.locals c.jump.new.at
    c.in_ok-e-in-Some.e _
    (sym c.in-Some.ensures) c.in_ok-jump-in-Some.ensures (c.in_ok-e-in-Some.ensures.left c.args.body.now)

pub returns-in-None-clause-means : goal.returns-in-None-clause-means
returns-in-None-clause-means g c =
    nothing _ _ _ g.T.Operand.rules (with_body c.args.funs.now c.args.body.now) c.args.m.now (sym c.in-None.ensures)
