use Rattle.cm_world.proofs.Fields.{Keeps}
use Rattle.cm_world.proofs.path.+inspect.Given as goal

abbrev pub invariant-inspect_fields-loop-i : goal.invariant-inspect_fields-loop-i
invariant-inspect_fields-loop-i l = Keeps l.left l.right l.i l.fn.steps l.steps
