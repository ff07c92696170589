use Rattle.std.proofs.Common.{◌≡◌, ◌+◌}
use Rattle.cm_world.specs.OpenPrefix.{IsOpenPrefix}
use Rattle.cm_forks.specs.Counts.{AtLeast}
use Rattle.cm_analyze.specs.inner.SoFar.{AreSoFar, IsOf}
use Rattle.cm_analyze.proofs.report.report_of.Given as goal

-- what the walk has given so far, and how many additions it made
abbrev pub invariant-loop-paths : goal.invariant-loop-paths
invariant-loop-paths o l =
    AreSoFar l.walk l.cases
    × (l.walk.given ≡ l.paths)
    × IsOf l.walk l.subject.model.now l.subject.pair l.limit
    × (l.steps + l.fn.walk.added ≡ l.fn.steps + l.walk.added)
    × (AtLeast (IsOpenPrefix l.subject.model.now l.subject.pair) l.fn.walk.added
    → AtLeast (IsOpenPrefix l.subject.model.now l.subject.pair) l.walk.added)
