use Rattle.std.proofs.Common.{◌≡◌, ◌-◌, ◌≤◌}
use Rattle.cm_samples.specs.Depth.{firsts, deep_fun}
use Rattle.cm_samples.proofs.depth.functions.Given as goal

abbrev pub invariant-functions : goal.invariant-functions
invariant-functions l = (l.n ≤ 64) × (l.funs ≡ firsts deep_fun l.n)

abbrev pub decreases-functions : goal.decreases-functions
decreases-functions l = 64 - l.n
