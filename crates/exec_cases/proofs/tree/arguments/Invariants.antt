use Rattle.cm_exec.specs.Running.{IsRoomy}
use Rattle.exec_cases.proofs.tree.arguments.Given as goal

abbrev pub invariant-params : goal.invariant-params
invariant-params l = IsRoomy l.facts.pieces 0
