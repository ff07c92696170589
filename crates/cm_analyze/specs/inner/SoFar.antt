-- What a walk has given so far, and its cases.
use Rattle.std.specs.Prelude.{◌≡◌, ℕ, List, length}
use Rattle.cm_model.specs.Tables.{Tables}
use Rattle.cm_model.specs.declared.pair.Pair.{Pair}
use Rattle.cm_cond.specs.declared.report.Case.{Case}
use Rattle.cm_walk.specs.Walking.{Walking}
use Rattle.cm_case.specs.Growing.{Going, last_of}

-- the paths that it gave are the first ones, and these are their cases
pub record AreSoFar (w : Walking) (cases : List Case) : Type 0 where
  pub paths : List (List ℕ)
  pub going : Going w.model w.pair_of paths cases
  pub last : last_of paths ≡ w.last
  pub given : length paths ≡ w.given

-- whose paths it gives, and how many at most
pub record IsOf (w : Walking) (t : Tables) (p : Pair) (limit : ℕ) : Type 0 where
  pub model : w.model ≡ t
  pub pair_of : w.pair_of ≡ p
  pub limit_is : w.limit ≡ limit
