-- Where the paths of a pair part.
use Rattle.std.specs.Prelude.{◌≡◌, ℕ, List, [], ◌∷◌, ◌++◌}
use Rattle.cm_model.specs.Tables.{Tables}
use Rattle.cm_model.specs.declared.pair.Pair.{Pair}
use Rattle.cm_world.specs.Over.{IsPath}

-- some path of the pair begins with these decisions
pub record BeginsAPath (t : Tables) (p : Pair) (decisions : List ℕ) : Type 0 where
  pub rest : List ℕ
  pub path : IsPath t p (decisions ++ rest)

-- some path begins with the list, and some path with another number in place of its last decision
pub record IsOpenPrefix (t : Tables) (p : Pair) (decisions : List ℕ) : Type 0 where
  pub before : List ℕ
  pub last : ℕ
  pub other : ℕ
  pub is : decisions ≡ before ++ last ∷ []
  pub differ : other ≡ last → ⊥
  pub begins : BeginsAPath t p decisions
  pub parts : BeginsAPath t p (before ++ other ∷ [])
