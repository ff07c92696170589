use Rattle.std.proofs.Common.{◌≡◌, take}
use Rattle.cm_exec.proofs.forks.copied_operands.Given as goal

abbrev pub invariant-loop-operand : goal.invariant-loop-operand
invariant-loop-operand l = l.copy.items ≡ take l.operand-index l.operands
