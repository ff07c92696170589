-- What was decided, and then the machine.
use Rattle.cm_value.specs.declared.value.Value.{Value}
use Rattle.cm_code.specs.Machine.{told}
use Rattle.cm_eval.specs.declared.operand.Operand.{Operand}
use Rattle.cm_eval.specs.Evaluation.{Doing, inspects}
use Rattle.cm_eval.specs.Values.{values}
use Rattle.cm_eval.proofs.Running.{decided_turn}
use Rattle.cm_eval.proofs.drive.inspect_on.Goals as goal

pub returns-in-Some-clause-means : goal.returns-in-Some-clause-means
returns-in-Some-clause-means c = λ codes.
    decided_turn (inspects c.args.o) c.in_ok-b.field-0 c.in-Some.b (told Value Operand Doing values codes
    c.args.m.now c.args.wanted) _ _
    c.args.steps.now c.inspect.new.steps c.in_ok-b.ensures.decided c.in-Some.is
    (c.in_ok-r-in-Some.ensures.means codes c.inspect.new.steps)
