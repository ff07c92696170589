-- A jump.
use Rattle.std.proofs.Common.{◌∙◌, ap}
use Rattle.cm_code.specs.Machine.{with_body, did_in}
use Rattle.cm_code.proofs.Going.{over_there, jumped_within}
use Rattle.cm_code.proofs.machine.follow.Goals as goal

pub returns-in_ok-jump-in-Over-clause-means : goal.returns-in_ok-jump-in-Over-clause-means
returns-in_ok-jump-in-Over-clause-means g c = λ body.
    ap (λ d. did_in _ _ _ g.T.Operand.rules (with_body c.args.funs.now body) d c.args.m.now) c.in-Over.is
    ∙ over_there _ _ _ g.T.Operand.rules (with_body c.args.funs.now body) c.args.m.now
    c.in-Over.n c.jump.new.at c.in_ok-jump-in-Over.ensures

pub returns-in_ok-jump-in-Over-clause-left : goal.returns-in_ok-jump-in-Over-clause-left
returns-in_ok-jump-in-Over-clause-left g c = λ body.
    jumped_within (with_body c.args.funs.now body) c.args.m.now c.in-Over.n c.jump.new.at c.in_ok-jump-in-Over.ensures
