-- What comes of valuing the cells of a case.
use Rattle.std.specs.Prelude.{◌≡◌, Bool, true, false, List, Option, Some, None}
use Rattle.std.specs.List.{list_all}
use Rattle.cm_model.specs.Tables.{Tables}
use Rattle.cm_value.specs.declared.value.Value.{Value}
use Rattle.cm_world.specs.declared.world.World.{World}
use Rattle.cm_cond.specs.declared.cell.CellTerm.{CellTerm}
use Rattle.cm_cond.specs.Keys.{cells_on, initial_values}
use Rattle.cm_cond.specs.Holding.{has_value}

-- the initial values, where each key has a value
abbrev pub AreInitial : Tables → World → List CellTerm → Option (List (Option Value)) → Type 0
AreInitial t w cs (Some vs) = (list_all has_value (cells_on t w cs) ≡ true) × (vs ≡ initial_values t w cs)
AreInitial t w cs None = list_all has_value (cells_on t w cs) ≡ false
