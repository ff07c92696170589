-- What is said of the paths of a pair.
use Rattle.std.specs.Prelude.{◌≡◌, ◌≤◌, ℕ, List, length}
use Rattle.cm_model.specs.Limits.{cell_limit}
use Rattle.cm_model.specs.Tables.{Tables}
use Rattle.cm_model.specs.declared.pair.Pair.{Pair}
use Rattle.cm_world.specs.declared.world.World.{World}
use Rattle.cm_world.specs.World.{IsWorldOf}
use Rattle.cm_world.specs.Order.{touched_cells}
use Rattle.cm_world.specs.Path.{path_of_world}

-- no world with the path touches more cells than a path may
abbrev pub TouchesFew : Tables → Pair → List ℕ → Type 0
TouchesFew t p path =
    (w : World) → IsWorldOf t p w → path_of_world t p w ≡ path → length (touched_cells t p w) ≤ cell_limit
