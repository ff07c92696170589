-- When a pair passes the limits.
use Rattle.std.specs.Prelude.{◌≡◌, ℕ, ◌<◌, List, [], length, get_or}
use Rattle.cm_model.specs.Limits.{decision_limit, cell_limit}
use Rattle.cm_model.specs.Tables.{Tables}
use Rattle.cm_model.specs.declared.pair.Pair.{Pair}
use Rattle.cm_model.specs.declared.pair.Over.{Over}
use Rattle.cm_model.specs.declared.pair.Over.TheVariants as over
use Rattle.cm_world.specs.declared.world.World.{World}
use Rattle.cm_world.specs.World.{IsWorldOf}
use Rattle.cm_world.specs.Order.{touched_cells}
use Rattle.cm_world.specs.Path.{path_of_world}

-- a path of the pair: one that a world has
pub record IsPath (t : Tables) (p : Pair) (path : List ℕ) : Type 0 where
  pub world : World
  pub is_world : IsWorldOf t p world
  pub has : path_of_world t p world ≡ path

abbrev pub AreDistinct : {X : Type 0} → List X → Type 0
AreDistinct {X} xs = (i j : ℕ) (d : X) → i < j → j < length xs → get_or xs i d ≡ get_or xs j d → ⊥

-- more different paths than so many
pub record TooManyPaths (t : Tables) (p : Pair) (most : ℕ) : Type 0 where
  pub paths : List (List ℕ)
  pub distinct : AreDistinct paths
  pub are : (i : ℕ) → i < length paths → IsPath t p (get_or paths i [])
  pub many : most < length paths

-- a path of too many decisions
pub record TooLongAPath (t : Tables) (p : Pair) : Type 0 where
  pub world : World
  pub is_world : IsWorldOf t p world
  pub long : decision_limit < length (path_of_world t p world)

-- a path that touches too many cells
pub record TooManyCells (t : Tables) (p : Pair) : Type 0 where
  pub world : World
  pub is_world : IsWorldOf t p world
  pub many : cell_limit < length (touched_cells t p world)

-- the pair passes this limit
abbrev pub IsOverBy : Tables → Pair → ℕ → Over → Type 0
IsOverBy t p most over.Paths = TooManyPaths t p most
IsOverBy t p most over.Long = TooLongAPath t p
IsOverBy t p most over.Cells = TooManyCells t p

-- the pair passes one of the limits
abbrev pub IsOver : Tables → Pair → ℕ → Type 0
IsOver t p most = (x : Over) × IsOverBy t p most x
