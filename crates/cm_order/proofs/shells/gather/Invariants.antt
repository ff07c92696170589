use Rattle.std.proofs.Common.{◌≡◌, ◌<◌, ◌+ℤ◌, ℕ}
use Rattle.cm_order.specs.inner.Shells.{entry, number_at}
use Rattle.cm_order.proofs.shells.gather.Given as goal

abbrev pub invariant-lines : goal.invariant-lines
invariant-lines l = record {
  column : (k : ℕ) → k < l.k → number_at l.column k ≡ entry l.cells k l.x +ℤ l.most;
  row : (k : ℕ) → k < l.k → number_at l.row k ≡ entry l.cells l.y k;
}
