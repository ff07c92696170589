-- How a run ended.
use Rattle.std.proofs.Common.{ap, ◌∙◌}
use Rattle.cm_code.specs.Machine.{with_body, script}
use Rattle.cm_eval.specs.Ended.{touched_of}
use Rattle.cm_eval.specs.inner.Going.{turned_by, goes_on}
use Rattle.cm_value.specs.declared.value.Value.{Value}
use Rattle.cm_eval.specs.declared.operand.Operand.{Operand}
use Rattle.cm_eval.specs.Evaluation.{Doing}
use Rattle.cm_eval.specs.Values.{values}
use Rattle.cm_eval.proofs.Running.{body_by_code}
use Rattle.cm_eval.proofs.drive.run_body.Goals as goal

pub returns-in-Ended : goal.returns-in-Ended
returns-in-Ended c = record {
  ran = λ t stmts is same.
      ap (goes_on t c.args.state.now c.args.log.now) (body_by_code t c.args.code.now c.args.body.now
      stmts c.args.args is same)
      ∙ c.turns.invariant t is ∙ c.in_ok-turn.ensures.means t is
      ∙ ap (λ r. turned_by r c.turn.new.state (touched_of c.turn.new.log) c.turn.new.log.steps
      (goes_on t c.turn.new.state c.turn.new.log
      (script Value Operand Doing values (with_body c.args.code.now.funs c.args.body.now) c.turn.new.m))) c.in-Ended.is;
}

pub returns-in-Blocked : goal.returns-in-Blocked
returns-in-Blocked c = record {
  ran = λ t stmts is same.
      ap (goes_on t c.args.state.now c.args.log.now) (body_by_code t c.args.code.now c.args.body.now
      stmts c.args.args is same)
      ∙ c.turns.invariant t is ∙ c.in_ok-turn.ensures.means t is
      ∙ ap (λ r. turned_by r c.turn.new.state (touched_of c.turn.new.log) c.turn.new.log.steps
      (goes_on t c.turn.new.state c.turn.new.log
      (script Value Operand Doing values (with_body c.args.code.now.funs c.args.body.now) c.turn.new.m)))
      c.in-Blocked.is;
}
