-- A report grows with what a walk gives.
use Rattle.std.proofs.Common.{◌≡◌, ◌+◌, ◌++◌, ◌∷◌, [], List, ℕ, Some, sym, ap, ◌∙◌, subst, length}
use Rattle.std.proofs.lemmas.List.{length-append}
use Rattle.cm_model.specs.Tables.{Tables}
use Rattle.cm_model.specs.declared.pair.Pair.{Pair}
use Rattle.cm_world.specs.Over.{IsPath, IsOver}
use Rattle.cm_cond.specs.declared.report.Case.{Case}
use Rattle.cm_forks.specs.Paths.{IsNext, IsPast}
use Rattle.cm_walk.specs.Walking.{Walking}
use Rattle.cm_case.specs.Right.{CommutesOn, IsRightCase}
use Rattle.cm_case.specs.Report.{AreThePaths, AreTheCases}
use Rattle.cm_case.specs.Growing.{Going, last_of}
use Rattle.cm_case.proofs.Reports.{last_is, going_with, going_without, all_paths}
use Rattle.cm_analyze.specs.inner.SoFar.{AreSoFar}

-- of a walk before and after it gave a path
module _ (w v : Walking) (cases : List Case) where
  next_is : (path : List ℕ) (paths : List (List ℕ)) → last_of paths ≡ w.last
      → IsNext (IsPath w.model w.pair_of) w.last path → IsNext (IsPath w.model w.pair_of) (last_of paths) path
  next_is path paths last next = subst (λ o. IsNext (IsPath w.model w.pair_of) o path) (sym last) next

  moved : (paths : List (List ℕ)) (path : List ℕ) (now : List Case) → v.model ≡ w.model → v.pair_of ≡ w.pair_of
      → Going w.model w.pair_of (paths ++ path ∷ []) now → Going v.model v.pair_of (paths ++ path ∷ []) now
  moved paths path now m p h =
      subst (λ q. Going v.model q (paths ++ path ∷ []) now) (sym p)
      (subst (λ t. Going t w.pair_of (paths ++ path ∷ []) now) (sym m) h)

  pub more_with : (c : Case) (path : List ℕ) → AreSoFar w cases → v.model ≡ w.model → v.pair_of ≡ w.pair_of
      → IsNext (IsPath w.model w.pair_of) w.last path → v.last ≡ Some path → v.given ≡ w.given + 1
      → IsRightCase w.model w.pair_of path c → AreSoFar v (cases ++ c ∷ [])
  more_with c path so m p next last given right = record {
    paths = so.paths ++ path ∷ [];
    going = moved so.paths path (cases ++ c ∷ []) m p
        (going_with w.model w.pair_of so.paths cases path c so.going (next_is path so.paths so.last next) right);
    last = last_is so.paths path ∙ sym last;
    given = length-append so.paths (path ∷ []) ∙ ap (λ n. n + 1) so.given ∙ sym given;
  }

  pub more_without : (path : List ℕ) → AreSoFar w cases → v.model ≡ w.model → v.pair_of ≡ w.pair_of
      → IsNext (IsPath w.model w.pair_of) w.last path → v.last ≡ Some path → v.given ≡ w.given + 1
      → (CommutesOn w.model w.pair_of path → ⊥) → AreSoFar v cases
  more_without path so m p next last given never = record {
    paths = so.paths ++ path ∷ [];
    going = moved so.paths path cases m p
        (going_without w.model w.pair_of so.paths cases path so.going (next_is path so.paths so.last next) never);
    last = last_is so.paths path ∙ sym last;
    given = length-append so.paths (path ∷ []) ∙ ap (λ n. n + 1) so.given ∙ sym given;
  }

-- and at the end
pub at_end : (w : Walking) (cases : List Case) → AreSoFar w cases → (IsOver w.model w.pair_of w.limit → ⊥)
    → IsPast (IsPath w.model w.pair_of) w.last
    → (IsOver w.model w.pair_of w.limit → ⊥) × (paths : List (List ℕ)) × AreThePaths w.model w.pair_of paths
    × (length paths ≡ w.given) × AreTheCases w.model w.pair_of paths cases
at_end w cases so not_over past = (
  not_over,
  so.paths,
  all_paths w.model w.pair_of so.paths cases so.going
      (subst (IsPast (IsPath w.model w.pair_of)) (sym so.last) past),
  so.given,
  so.going.cases_are,
)

-- what is so of the pair is so of the walk's
module _ (w : Walking) (t : Tables) (p : Pair) (path : List ℕ) where
  pub case_of_walk : (c : Case) → w.model ≡ t → w.pair_of ≡ p → IsRightCase t p path c
      → IsRightCase w.model w.pair_of path c
  case_of_walk c m q h = subst (λ s. IsRightCase w.model s path c) (sym q) (subst (λ s. IsRightCase s p path c) (sym m) h)

  pub none_of_walk : w.model ≡ t → w.pair_of ≡ p → (CommutesOn t p path → ⊥) → CommutesOn w.model w.pair_of path → ⊥
  none_of_walk m q h =
      subst (λ s. CommutesOn w.model s path → ⊥) (sym q) (subst (λ s. CommutesOn s p path → ⊥) (sym m) h)
