use Rattle.std.proofs.Common.{◌≡◌, ◌-◌, ◌+◌, ℕ, length, slice_index_or}
use Rattle.cm_ctx.proofs.asked.with_root.Given as goal

abbrev pub decreases-zeros : goal.decreases-zeros
decreases-zeros l = (l.place + 1) - length l.grown.items

abbrev pub invariant-zeros : goal.invariant-zeros
invariant-zeros l = (n : ℕ) → slice_index_or l.grown.items n 0 ≡ slice_index_or l.roots n 0
