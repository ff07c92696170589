use Rattle.std.proofs.Common.{◌≡◌, ◌≤◌, ◌+◌, List, reverse}
use Rattle.cm_term.specs.declared.term.Term.{Term}
use Rattle.cm_exec.specs.Comparing.{next_of, next_weight, frames_weight}
use Rattle.cm_exec.proofs.comparison.settle.Given as goal

abbrev pub invariant-steps : goal.invariant-steps
invariant-steps l =
    ((ps : List Term) → next_of ps l.fn.frames l.fn.first ≡ next_of ps l.frames l.next)
    × (next_weight l.next + frames_weight (reverse l.frames)
    ≤ next_weight l.fn.first + frames_weight (reverse l.fn.frames))

abbrev pub decreases-steps : goal.decreases-steps
decreases-steps l = next_weight l.next + frames_weight (reverse l.frames)
