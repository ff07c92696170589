use Rattle.std.proofs.Common.{◌∙◌, sym, ap, subst}
use Rattle.cm_exec.specs.Running.{telling, at_phase, told_after, IsAskedWith}
use Rattle.cm_exec.proofs.Going.{touch_told}
use Rattle.cm_exec.proofs.run.Run.answer.Goals as goal

pub returns-in-Touches-clause-answered : goal.returns-in-Touches-clause-answered
returns-in-Touches-clause-answered c = λ m ps cells asked.
    let q = subst (λ ph. IsAskedWith ph c.args.self.now.decider cells) c.in-Touches.is asked in
    ap (λ r. telling m ps r cells) (c.tell_touch.ensures.told c.in-Touches.field-0 c.in-Touches.is)
    ∙ touch_told m ps c.args.self.now cells c.in-Touches.field-0 q.0 c.args.outcome q.1
    ∙ sym (ap (λ ph. told_after (at_phase m ps c.args.self.now ph cells) c.args.outcome) c.in-Touches.is)
