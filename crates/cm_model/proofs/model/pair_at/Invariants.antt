use Rattle.std.proofs.Common.{◌≡◌, ℕ, ◌-◌, ◌<◌, ◌≤◌, slice_get}
use Rattle.cm_model.specs.Pairs.{pairs_from, pairs_of}
use Rattle.cm_model.proofs.Pairs.{triangle}
use Rattle.cm_model.proofs.model.pair_at.Given as goal

abbrev pub invariant-rows : goal.invariant-rows
invariant-rows l =
    (slice_get (pairs_from l.a (l.calls - l.a)) l.left ≡ slice_get (pairs_of l.fn.calls) l.fn.k)
    × (l.left < triangle (l.calls - l.a)) × (l.a ≤ l.calls)

abbrev pub decreases-rows : goal.decreases-rows
decreases-rows l = l.left
