-- A read, and then the machine.
use Rattle.std.proofs.Common.{sym, ap, ◌∙◌}
use Rattle.cm_code.specs.Machine.{handed}
use Rattle.cm_eval.specs.Ended.{stopped}
use Rattle.cm_eval.specs.inner.Going.{goes_on, ended_by}
use Rattle.cm_value.specs.declared.value.Value.{Value}
use Rattle.cm_eval.specs.declared.operand.Operand.{Operand}
use Rattle.cm_eval.specs.Evaluation.{Doing}
use Rattle.cm_eval.specs.Values.{values}
use Rattle.cm_eval.proofs.drive.read_on.Goals as goal

pub returns-in_ok-hand-in-Some-clause-means : goal.returns-in_ok-hand-in-Some-clause-means
returns-in_ok-hand-in-Some-clause-means c = λ t codes is.
    (c.in_ok-v.ensures.gives t is).on (handed Value Operand Doing values codes c.args.m.now)
    ∙ ap (λ o. ended_by o (λ v. goes_on t c.args.state.now c.read.new.log (handed Value Operand Doing
    values codes c.args.m.now v))
    (stopped c.read.new.log)) c.in-Some.is
    ∙ ap (goes_on t c.args.state.now c.read.new.log) (c.in_ok-hand-in-Some.ensures.means codes)

pub returns-in-None-clause-means : goal.returns-in-None-clause-means
returns-in-None-clause-means c = λ t codes is.
    (c.in_ok-v.ensures.gives t is).on (handed Value Operand Doing values codes c.args.m.now)
    ∙ ap (λ o. ended_by o (λ v. goes_on t c.args.state.now c.read.new.log (handed Value Operand Doing
    values codes c.args.m.now v))
    (stopped c.read.new.log)) c.in-None.is
