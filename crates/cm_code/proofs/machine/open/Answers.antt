-- A jump where there is no payload.
use Rattle.std.proofs.Common.{◌∙◌, ap}
use Rattle.cm_code.specs.Machine.{opened_in}
use Rattle.cm_code.proofs.Going.{over_there, jumped_steps}
use Rattle.cm_code.proofs.machine.open.Goals as goal

pub returns-in_ok-jump-in-None-clause-means : goal.returns-in_ok-jump-in-None-clause-means
returns-in_ok-jump-in-None-clause-means g c = λ codes.
    ap (λ o. opened_in _ _ _ g.T.Operand.rules codes c.args.m.now c.args.over o) c.in-None.is
    ∙ over_there _ _ _ g.T.Operand.rules codes c.args.m.now c.args.over c.jump.new.at c.in_ok-jump-in-None.ensures

pub returns-in_ok-jump-in-None-clause-left : goal.returns-in_ok-jump-in-None-clause-left
returns-in_ok-jump-in-None-clause-left g c = λ codes.
    jumped_steps codes c.args.m.now c.args.over c.jump.new.at c.in_ok-jump-in-None.ensures
