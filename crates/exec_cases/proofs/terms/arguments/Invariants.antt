use Rattle.std.proofs.Common.{◌≡◌}
use Rattle.cm_exec.specs.Running.{IsRoomy}
use Rattle.exec_cases.proofs.terms.arguments.Given as goal

abbrev pub invariant-params : goal.invariant-params
invariant-params l = IsRoomy l.terms.facts.pieces 0 × (l.terms.cells ≡ l.fn.terms.cells)
