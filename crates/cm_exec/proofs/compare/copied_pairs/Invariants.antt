use Rattle.std.proofs.Common.{◌≡◌, take}
use Rattle.cm_exec.proofs.compare.copied_pairs.Given as goal

abbrev pub invariant-loop-sides : goal.invariant-loop-sides
invariant-loop-sides l = l.copy.items ≡ take l.sides-index l.pairs
