-- No outcome below was found.
use Rattle.std.proofs.Common.{◌≤◌, ◌<◌, ℕ}
use Rattle.cm_ctx.specs.Masks.{Has}
use Rattle.cm_forks.proofs.outcome.least.Given as goal

abbrev pub invariant-loop-outcome : goal.invariant-loop-outcome
invariant-loop-outcome l = (x : ℕ) → l.from ≤ x → x < l.outcome → Has l.bits x → ⊥
