use Rattle.std.proofs.Common.{sym, ◌∙◌}
use Rattle.cm_name.proofs.Paths.{no_more, at_end}
use Rattle.cm_name.proofs.order.path_before.Goals as goal

pub returns-in_default : goal.returns-in_default
returns-in_default c =
    sym (no_more c.args.x.now c.args.y.now c.steps.i c.steps-test.true c.in_default.ensures.lookup.0)
    ∙ c.steps.invariant

pub returns : goal.returns
returns c =
    sym (at_end c.args.x.now c.args.y.now c.steps.i c.steps-test.false c.steps.auto.i-end) ∙ c.steps.invariant
