use Rattle.std.proofs.Common.{ℕ, ◌<◌, get_or}
use Rattle.cm_eval.specs.declared.state.Except.{Except}
use Rattle.cm_world.specs.inner.Ran.{Agree}
use Rattle.cm_world.proofs.states.agree_at.Given as goal

abbrev pub invariant-exceptions : goal.invariant-exceptions
invariant-exceptions l = (k : ℕ) (d : Except) → k < l.i → Agree l.model l.left l.right (get_or l.at.exceptions k d).cell
