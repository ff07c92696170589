use Rattle.std.proofs.Common.{◌≡◌, take}
use Rattle.cm_eval.proofs.state.copy_exceptions.Given as goal

abbrev pub invariant-loop-exception : goal.invariant-loop-exception
invariant-loop-exception l = l.copies ≡ take l.exception-index l.exceptions
