use Rattle.std.proofs.Common.{◌≡◌, ℕ}
use Rattle.cm_order.specs.inner.Shells.{number_at, relaxed}
use Rattle.cm_order.proofs.shells.relax_run.Given as goal

abbrev pub invariant-run : goal.invariant-run
invariant-run l = (p : ℕ) → number_at l.cells p ≡ relaxed l.initial.cells l.start l.others l.by l.k p
