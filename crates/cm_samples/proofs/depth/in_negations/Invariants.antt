use Rattle.std.proofs.Common.{◌≡◌, ◌-◌, ◌≤◌}
use Rattle.cm_samples.specs.Depth.{negations}
use Rattle.cm_samples.proofs.depth.in_negations.Given as goal

abbrev pub invariant-negations : goal.invariant-negations
invariant-negations l = (l.n ≤ 62) × (l.whole ≡ negations l.n l.fn.e)

abbrev pub decreases-negations : goal.decreases-negations
decreases-negations l = 62 - l.n
