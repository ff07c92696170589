-- How an invariant's run ended.
use Rattle.std.proofs.Common.{◌≡◌, [], ap, ◌∙◌}
use Rattle.cm_value.specs.declared.value.Value.TheVariants as value
use Rattle.cm_eval.specs.Run.{logged, run}
use Rattle.cm_eval.specs.Run.{Stopped}
use Rattle.cm_code.specs.Machine.{with_body, script}
use Rattle.cm_eval.specs.inner.Going.{turned_by}
use Rattle.cm_value.specs.declared.value.Value.{Value}
use Rattle.cm_eval.specs.declared.operand.Operand.{Operand}
use Rattle.cm_eval.specs.Evaluation.{Doing}
use Rattle.cm_eval.specs.Values.{values}
use Rattle.cm_eval.proofs.Running.{invariant_by_code}
use Rattle.cm_eval.proofs.drive.run_invariant.Goals as goal

pub returns-in-Ended : goal.returns-in-Ended
returns-in-Ended c = record {
  ran = λ ints e is s t. (
    c.in-Ended.field-0,
    ap (λ d. logged c.args.steps.now (run ints [] s t d)) (invariant_by_code ints e c.args.value.now c.args.code.now is)
        ∙ c.turns.invariant ints s t ∙ c.in_ok-turn_invariant.ensures.means ints s t
        ∙ ap (λ r. turned_by r s t c.turn_invariant.new.steps (logged c.turn_invariant.new.steps
        (run ints [] s t (script Value Operand Doing values (with_body [] c.args.code.now) c.turn_invariant.new.m))))
        c.in-Ended.is,
  );
}

pub returns-in-Blocked : goal.returns-in-Blocked
returns-in-Blocked c = record {
  ran = λ ints e is s t. (
    value.None,
    ap (λ d. logged c.args.steps.now (run ints [] s t d)) (invariant_by_code ints e c.args.value.now c.args.code.now is)
        ∙ c.turns.invariant ints s t ∙ c.in_ok-turn_invariant.ensures.means ints s t
        ∙ ap (λ r. turned_by r s t c.turn_invariant.new.steps (logged c.turn_invariant.new.steps
        (run ints [] s t (script Value Operand Doing values (with_body [] c.args.code.now) c.turn_invariant.new.m))))
        c.in-Blocked.is,
  );
}
