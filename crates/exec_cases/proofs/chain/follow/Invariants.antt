use Rattle.std.proofs.Common.{length}
use Rattle.cm_exec.specs.Running.{IsRoomy}
use Rattle.exec_cases.proofs.chain.follow.Given as goal

abbrev pub invariant-turns : goal.invariant-turns
invariant-turns l = IsRoomy l.terms.facts.pieces (length l.terms.cells.places)
