use Rattle.std.proofs.Common.{option_copied}
use Rattle.cm_eval.specs.Evaluation.{named}
use Rattle.cm_eval.proofs.Places.{Apart}
use Rattle.cm_eval.proofs.state.find.Given as goal

abbrev pub invariant-loop-i : goal.invariant-loop-i
invariant-loop-i l = Apart l.exceptions (named l.state (option_copied l.key)) l.i
