-- When the report of a pair is right.
use Rattle.std.specs.Prelude.{◌≡◌, ◌⊎◌, ℕ, List, [], ◌∷◌, length, slice_get, Some, IsTrue}
use Rattle.std.specs.List.{AllByRecursion}
use Rattle.cm_model.specs.Tables.{Tables}
use Rattle.cm_model.specs.declared.pair.Pair.{Pair}
use Rattle.cm_world.specs.Lexicographic.{comes_before}
use Rattle.cm_world.specs.Over.{IsPath, IsOver, IsOverBy}
use Rattle.cm_cond.specs.declared.report.Case.{Case}
use Rattle.cm_cond.specs.declared.report.PairReport.{PairReport}
use Rattle.cm_cond.specs.declared.report.PairReport.TheVariants as report
use Rattle.cm_case.specs.Right.{CommutesOn, IsRightCase}

-- in lexicographic order, each once
abbrev pub Ascend : List (List ℕ) → Type 0
Ascend [] = Unit {0}
Ascend (p ∷ []) = Unit {0}
Ascend (p ∷ q ∷ more) = IsTrue (comes_before p q) × Ascend (q ∷ more)

module _ (t : Tables) (p : Pair) where
  -- all paths of the pair's worlds
  pub record AreThePaths (paths : List (List ℕ)) : Type 0 where
    pub are : AllByRecursion (IsPath t p) paths
    pub ascend : Ascend paths
    pub all : (path : List ℕ) → IsPath t p path → (i : ℕ) × (slice_get paths i ≡ Some path)

  -- in order a right case for each of the paths that a commuting world has
  abbrev pub AreTheCases : List (List ℕ) → List Case → Type 0
  AreTheCases [] [] = Unit {0}
  AreTheCases [] (c ∷ cases) = ⊥
  AreTheCases (path ∷ paths) cases =
      ((c : Case) × (more : List Case) × (cases ≡ c ∷ more) × IsRightCase t p path c × AreTheCases paths more)
      ⊎ ((CommutesOn t p path → ⊥) × AreTheCases paths cases)

  -- over exactly where the pair passes a limit, and by one that it passes; else the number of its paths, and the cases
  abbrev pub IsRightReport : ℕ → PairReport → Type 0
  IsRightReport limit (report.Over x) = IsOverBy t p limit x
  IsRightReport limit (report.Cases n condition) =
      (IsOver t p limit → ⊥) × (paths : List (List ℕ)) × AreThePaths paths × (length paths ≡ n)
      × AreTheCases paths condition.cases
