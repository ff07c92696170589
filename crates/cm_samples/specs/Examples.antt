-- For examples: no cell was touched, or one, which was written or not; pairs, and their worlds.
use Rattle.std.specs.Prelude.{ℕ, Bool, List, [], ◌∷◌}
use Rattle.cm_model.specs.declared.pair.Pair.{Pair}
use Rattle.cm_value.specs.declared.value.Value.{Value}
use Rattle.cm_eval.specs.declared.log.CellName.{CellName}
use Rattle.cm_eval.specs.State.{Store, Touched}
use Rattle.cm_world.specs.declared.world.World.{World}

abbrev pub untouched : Touched
untouched = record { cells = []; written = [] }

abbrev pub touches : CellName → Bool → Touched
touches c written = record { cells = c ∷ []; written = written ∷ [] }

abbrev pub pair : ℕ → ℕ → Pair
pair a b = record { a = a; b = b }

-- an initial state, and the arguments of each of the two calls
abbrev pub world : Store → List Value → List Value → World
world init a b = record { init = init; a = record { vals = a }; b = record { vals = b } }
