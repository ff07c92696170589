-- A report while it is made, path after path.
use Rattle.std.specs.Prelude.{◌≡◌, ◌⊎◌, ℕ, List, [], ◌∷◌, slice_get, Option, Some, None}
use Rattle.std.specs.List.{AllByRecursion}
use Rattle.cm_model.specs.Tables.{Tables}
use Rattle.cm_model.specs.declared.pair.Pair.{Pair}
use Rattle.cm_world.specs.Over.{IsPath}
use Rattle.cm_forks.specs.Paths.{After}
use Rattle.cm_cond.specs.declared.report.Case.{Case}
use Rattle.cm_case.specs.Report.{Ascend, AreTheCases}

-- the last of some paths
abbrev pub last_of : List (List ℕ) → Option (List ℕ)
last_of [] = None
last_of (p ∷ []) = Some p
last_of (p ∷ q ∷ more) = last_of (q ∷ more)

-- these are the first paths of the pair, and these their cases
pub record Going (t : Tables) (p : Pair) (paths : List (List ℕ)) (cases : List Case) : Type 0 where
  pub are : AllByRecursion (IsPath t p) paths
  pub ascend : Ascend paths
  pub others : (path : List ℕ) → IsPath t p path
      → ((i : ℕ) × (slice_get paths i ≡ Some path)) ⊎ After (last_of paths) path
  pub cases_are : AreTheCases t p paths cases
