-- What a comparison of pairs in its midst still asks.
use Rattle.std.specs.Prelude.{◌≡◌, ◌<◌, ℕ, ◌+◌, ◌*◌, List, length, drop, Option, Some, None}
use Rattle.cm_term.specs.declared.question.Equal.{Equal}
use Rattle.cm_term.specs.declared.term.Term.{Term}
use Rattle.cm_exec.specs.declared.comparison.Sides.{Sides}
use Rattle.cm_exec.specs.declared.compare.Compare.{Compare}
use Rattle.cm_exec.specs.declared.compare.Progress.{Progress}
use Rattle.cm_exec.specs.declared.compare.Progress.TheVariants as progress
use Rattle.cm_exec.specs.declared.compare.Next.{Next}
use Rattle.cm_exec.specs.declared.compare.Next.TheVariants as next
use Rattle.cm_exec.specs.Asking.{Asking, Stops, Says, Inspects, Meets}
use Rattle.cm_exec.specs.Settling.{Settling, Asks, Unequal, Needs, needing, settling_from, settling_after}
use Rattle.cm_exec.specs.declared.comparison.Met.{Met}
use Rattle.cm_exec.specs.Comparing.{asking, IsWaiting, Heads}
use Rattle.cm_exec.specs.Comparing as comparing

module _ (ps : List Term) where
  -- with these equalities needed so far
  abbrev pub at_progress : Progress → List Equal → List Sides → Settling
  at_progress progress.Between es left = settling_from ps es left
  at_progress (progress.Within c) es left = needing es (asking ps c) (λ fs. settling_from ps fs left)
  at_progress progress.Unequal es left = Unequal

  abbrev pub settling : Compare → Settling
  settling c = at_progress c.progress c.needed (drop c.at c.pairs)

-- what a comparison of pairs has come to
abbrev pub Comes : Next → Settling → Type 0
Comes (next.Question q) s = s ≡ Asks q (settling_after s)
Comes next.Unequal s = s ≡ Unequal
Comes (next.Needs es) s = s ≡ Needs es

abbrev pub IsInspecting : Asking → Type 0
IsInspecting (Inspects q f) = Unit {0}
IsInspecting Stops = ⊥
IsInspecting (Says b) = ⊥
IsInspecting (Meets e f) = ⊥

-- something was asked
abbrev pub IsAsking : Progress → Type 0
IsAsking (progress.Within c) = IsWaiting c.stage × ((ps : List Term) → IsInspecting (asking ps c))
IsAsking progress.Between = ⊥
IsAsking progress.Unequal = ⊥

abbrev pub Awaits : Next → Progress → Type 0
Awaits (next.Question q) p = IsAsking p
Awaits next.Unequal p = Unit {0}
Awaits (next.Needs es) p = Unit {0}

-- where it has come to something
abbrev pub ComesIf : Option Next → Settling → Type 0
ComesIf (Some n) s = Comes n s
ComesIf None s = Unit {0}

abbrev pub AwaitsIf : Option Next → Progress → Type 0
AwaitsIf (Some n) p = Awaits n p
AwaitsIf None p = Unit {0}

-- a comparison met this in the pair that it is in
abbrev pub IsWithin : Met → Progress → Type 0
IsWithin m (progress.Within c) = ((ps : List Term) → Heads m (asking ps c)) × comparing.Awaits m c.stage
IsWithin m progress.Between = ⊥
IsWithin m progress.Unequal = ⊥

-- how much is left: each pair counts twice
abbrev pub progress_left : Progress → ℕ
progress_left progress.Between = 0
progress_left (progress.Within c) = 1
progress_left progress.Unequal = 0

abbrev pub left_in : Compare → ℕ
left_in c = 2 * length (drop c.at c.pairs) + progress_left c.progress

abbrev pub LeftIf : Option Next → ℕ → ℕ → Type 0
LeftIf (Some n) before later = Unit {0}
LeftIf None before later = later < before
