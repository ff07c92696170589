-- Jumps where a bool leads away.
use Rattle.std.proofs.Common.{◌∙◌, ap}
use Rattle.cm_code.specs.Machine.{told}
use Rattle.cm_code.proofs.Going.{led_away, led_true, jumped_steps}
use Rattle.cm_code.proofs.machine.tell.Goals as goal

pub returns-in_ok-jump-in-Unless-clause-means : goal.returns-in_ok-jump-in-Unless-clause-means
returns-in_ok-jump-in-Unless-clause-means g c = λ codes.
    ap (λ t. told _ _ _ g.T.Operand.rules codes c.args.m.now t c.args.b) c.in-Unless.is
    ∙ led_away _ _ _ g.T.Operand.rules codes c.args.m.now
    c.in-Unless.n c.jump.new.at c.args.b c.if-not-b.true c.in_ok-jump-in-Unless.ensures

pub returns-in_ok-jump-in-Unless-clause-left : goal.returns-in_ok-jump-in-Unless-clause-left
returns-in_ok-jump-in-Unless-clause-left g c = λ codes.
    jumped_steps codes c.args.m.now c.in-Unless.n c.jump.new.at c.in_ok-jump-in-Unless.ensures

pub returns-in_ok-jump-in-When-clause-means : goal.returns-in_ok-jump-in-When-clause-means
returns-in_ok-jump-in-When-clause-means g c = λ codes.
    ap (λ t. told _ _ _ g.T.Operand.rules codes c.args.m.now t c.args.b) c.in-When.is
    ∙ led_true _ _ _ g.T.Operand.rules codes c.args.m.now
    c.in-When.n c.jump-then-b.new.at c.args.b c.if-b.true c.in_ok-jump-in-When.ensures

pub returns-in_ok-jump-in-When-clause-left : goal.returns-in_ok-jump-in-When-clause-left
returns-in_ok-jump-in-When-clause-left g c = λ codes.
    jumped_steps codes c.args.m.now c.in-When.n c.jump-then-b.new.at c.in_ok-jump-in-When.ensures
