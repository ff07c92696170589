use Rattle.std.proofs.Common.{◌≡◌, ◌<◌, ℕ, cond, length, max, nat_lt}
use Rattle.cm_order.specs.inner.Shells.{entry, lowered}
use Rattle.cm_order.proofs.shells.relax.Given as goal

abbrev pub invariant-shells : goal.invariant-shells
invariant-shells l = (i j : ℕ) → i < length l.column → j < length l.column
    → entry l.cells i j ≡ cond (nat_lt (max i j) l.m) (lowered (entry l.initial.cells) l.column l.row i j)
    (entry l.initial.cells i j)
