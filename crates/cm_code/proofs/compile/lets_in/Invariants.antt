-- The locals that were counted.
use Rattle.std.proofs.Common.{◌≡◌, ◌+◌, ◌≤◌, drop}
use Rattle.cm_code.specs.inner.Writing.{block_piece}
use Rattle.cm_code.proofs.compile.lets_in.Given as goal

abbrev pub invariant-loop-s : goal.invariant-loop-s
invariant-loop-s l =
    (l.lets + (block_piece l.ints (drop l.s-index l.block)).lets ≡ (block_piece l.ints l.fn.block).lets)
    × (l.lets ≤ l.s-index)
