use Rattle.std.proofs.Common.{◌≡◌, List}
use Rattle.cm_term.specs.declared.question.Equal.{Equal}
use Rattle.cm_term.specs.declared.term.Term.{Term}
use Rattle.cm_exec.specs.Comparing.{Awaits, Heads, asking, meeting_weight}
use Rattle.cm_exec.specs.Settling.{Settling, needing}
use Rattle.cm_exec.proofs.comparison.Comparison.collect.Given as goal

abbrev pub invariant-meets : goal.invariant-meets
invariant-meets l =
    ((ps : List Term) (k : List Equal → Settling) →
    needing l.fn.needed (asking ps l.fn.self) k ≡ needing l.needed (asking ps l.self) k)
    × ((ps : List Term) → Heads l.met (asking ps l.self)) × Awaits l.met l.self.stage

abbrev pub decreases-meets : goal.decreases-meets
decreases-meets l = meeting_weight l.met l.self.frames
