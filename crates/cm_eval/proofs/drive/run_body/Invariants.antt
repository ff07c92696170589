-- What is left of the run, and that there is less to do.
use Rattle.std.proofs.Common.{◌≡◌, List, []}
use Rattle.cm_model.specs.Tables.{Tables}
use Rattle.cm_value.specs.declared.value.Value.{Value}
use Rattle.cm_code.specs.Code.{code_meaning, codes_from}
use Rattle.cm_code.specs.Machine.{with_body, script}
use Rattle.cm_code.specs.Steps.{steps_left}
use Rattle.cm_eval.specs.declared.operand.Operand.{Operand}
use Rattle.cm_eval.specs.Script.{Replies}
use Rattle.cm_eval.specs.Evaluation.{Doing}
use Rattle.cm_eval.specs.Values.{values}
use Rattle.cm_eval.specs.Compiled.{IsCodeOf}
use Rattle.cm_eval.specs.inner.Going.{goes_on}
use Rattle.cm_eval.proofs.drive.run_body.Given as goal

abbrev pub invariant-turns : goal.invariant-turns
invariant-turns l = (t : Tables) → IsCodeOf t l.code →
    goes_on t l.fn.state l.fn.log
    (code_meaning Value Operand Doing values (codes_from Value Operand Doing values [] l.code.funs) l.body
    l.fn.args Replies)
    ≡ goes_on t l.state l.log (script Value Operand Doing values (with_body l.code.funs l.body) l.m)

abbrev pub decreases-turns : goal.decreases-turns
decreases-turns l = steps_left (with_body l.code.funs l.body) l.m
