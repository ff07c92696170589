-- What is left of the invariant's run, and that there is less to do.
use Rattle.std.proofs.Common.{◌≡◌, List, [], ◌∷◌}
use Rattle.cm_model.specs.declared.ty.IntDecl.{IntDecl}
use Rattle.cm_value.specs.declared.value.Value.{Value}
use Rattle.cm_code.specs.Code.{code_meaning}
use Rattle.cm_code.specs.Machine.{with_body, script}
use Rattle.cm_code.specs.Steps.{steps_left}
use Rattle.cm_eval.specs.declared.operand.Operand.{Operand}
use Rattle.cm_eval.specs.Script.{Replies}
use Rattle.cm_eval.specs.State.{Store, Touched}
use Rattle.cm_eval.specs.Evaluation.{Doing}
use Rattle.cm_eval.specs.Values.{values}
use Rattle.cm_eval.specs.Run.{logged, run}
use Rattle.cm_eval.proofs.drive.run_invariant.Given as goal

abbrev pub invariant-turns : goal.invariant-turns
invariant-turns l = (ints : List IntDecl) (s : Store) (t : Touched) →
    logged l.fn.steps (run ints [] s t (code_meaning Value Operand Doing values [] l.code (l.fn.value ∷ []) Replies))
    ≡ logged l.steps (run ints [] s t (script Value Operand Doing values (with_body [] l.code) l.m))

abbrev pub decreases-turns : goal.decreases-turns
decreases-turns l = steps_left (with_body [] l.code) l.m
