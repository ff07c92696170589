use Rattle.std.proofs.Common.{◌≡◌, ◌+◌, ℕ, length}
use Rattle.cm_order.specs.inner.Shells.{number_at}
use Rattle.cm_order.proofs.shells.append_zeros.Given as goal

abbrev pub invariant-zeros : goal.invariant-zeros
invariant-zeros l = record {
  long : length l.entries.items ≡ length l.initial.entries.items + l.counter;
  same : (p : ℕ) → number_at l.entries.items p ≡ number_at l.initial.entries.items p;
}
