-- Where a cell's exception stands in a list.
use Rattle.std.specs.Prelude.{◌≡◌, ℕ, ◌<◌, List, [], ◌∷◌, Option, Some, None, ◌++◌, length, slice_set, get_or}
use Rattle.cm_value.specs.declared.value.Value.{Value}
use Rattle.cm_eval.specs.declared.log.CellName.{CellName}
use Rattle.cm_eval.specs.declared.state.Except.{Except}
use Rattle.cm_eval.specs.State.{exception_of, exceptions_with}

-- the first exception for the cell
abbrev pub Finds : List Except → CellName → Option ℕ → Type 0
Finds es c (Some i) = (i < length es) × ((d : Except) → exception_of es c ≡ Some (get_or es i d).value)
    × ((v : Value) → exceptions_with es c v ≡ slice_set es i (record { cell = c; value = v }))
Finds es c None = (exception_of es c ≡ None)
    × ((v : Value) → exceptions_with es c v ≡ es ++ record { cell = c; value = v } ∷ [])
