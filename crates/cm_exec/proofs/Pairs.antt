-- Pairs of terms, one after another.
use Rattle.std.proofs.Common.{◌≡◌, ℕ, ◌+◌, List, drop, slice_get, Some, None, refl, sym, ap}
use Rattle.std.proofs.Common.{◌∙◌}
use Rattle.cm_term.specs.declared.question.Equal.{Equal}
use Rattle.cm_term.specs.declared.term.Term.{Term}
use Rattle.cm_exec.specs.declared.comparison.Sides.{Sides}
use Rattle.cm_exec.specs.declared.comparison.Comparison.{Comparison}
use Rattle.cm_exec.specs.Asking.{Asking, Stops, Says, Inspects, Meets, asks_of}
use Rattle.cm_exec.specs.Settling.{Settling, Needs, needing, settling_from, settling_after}
use Rattle.cm_exec.specs.Comparing.{answered, asking}
use Rattle.cm_exec.specs.Pairing.{IsInspecting}
use Rattle.cm_exec.proofs.Records.{drop_there, drop_missing}

module _ (ps : List Term) where
  -- the next pair is begun
  pub begun : (es : List Equal) (pairs : List Sides) (i : ℕ) (s : Sides) (x : Comparison) → slice_get pairs i ≡ Some s
      → asking ps x ≡ asks_of ps s.left s.right
      → settling_from ps es (drop i pairs)
      ≡ needing es (asking ps x) (λ fs. settling_from ps fs (drop (i + 1) pairs))
  begun es pairs i s x at same = ap (settling_from ps es) (drop_there i pairs s at)
      ∙ sym (ap (λ a. needing es a (λ fs. settling_from ps fs (drop (i + 1) pairs))) same)

  -- there is none
  pub ended : (es : List Equal) (pairs : List Sides) (i : ℕ) → slice_get pairs i ≡ None
      → settling_from ps es (drop i pairs) ≡ Needs es
  ended es pairs i at = ap (settling_from ps es) (drop_missing i pairs at)

-- what comes after an outcome
pub needed_after : (es : List Equal) (a : Asking) (k : List Equal → Settling) (d : ℕ) → IsInspecting a
    → needing es (answered a d) k ≡ settling_after (needing es a k) d
needed_after es (Inspects q f) k d is = refl
needed_after es Stops k d is = absurd is
needed_after es (Says b) k d is = absurd is
needed_after es (Meets e f) k d is = absurd is
