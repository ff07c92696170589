use Rattle.std.proofs.Common.{◌≤◌}
use Rattle.cm_judge.proofs.table.new_lines.Given as goal

-- of each item so far one line at most was counted
abbrev pub invariant-loop-item : goal.invariant-loop-item
invariant-loop-item l = l.new ≤ l.item-index
