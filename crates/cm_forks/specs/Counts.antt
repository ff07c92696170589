-- Where paths part, and how many there are.
use Rattle.std.specs.Prelude.{◌≡◌, ◌<◌, ℕ, List, [], ◌∷◌, ◌++◌, length, get_or}
use Rattle.cm_world.specs.Over.{AreDistinct}
use Rattle.cm_forks.specs.Paths.{Path, Begins}

-- some path begins with the list, and some path with another number in place of its last decision
pub record IsOpen (P : Path → Type 0) (decisions : Path) : Type 0 where
  pub before : Path
  pub last : ℕ
  pub other : ℕ
  pub is : decisions ≡ before ++ last ∷ []
  pub differ : other ≡ last → ⊥
  pub begins : Begins P decisions
  pub parts : Begins P (before ++ other ∷ [])

-- so many different lists are such
pub record AtLeast (Q : Path → Type 0) (many : ℕ) : Type 0 where
  pub lists : List Path
  pub distinct : AreDistinct lists
  pub are : (i : ℕ) → i < length lists → Q (get_or lists i [])
  pub count : length lists ≡ many
