-- The twin of a world that names the touched cells alone.
use Rattle.std.specs.Prelude.{◌≡◌, List, [], ◌∷◌, map, slice_get}
use Rattle.cm_model.specs.Tables.{Tables}
use Rattle.cm_model.specs.declared.pair.Pair.{Pair}
use Rattle.cm_value.specs.Least.{least_of}
use Rattle.cm_eval.specs.declared.log.CellName.{CellName}
use Rattle.cm_eval.specs.declared.state.Except.{Except}
use Rattle.cm_eval.specs.State.{Store, store}
use Rattle.cm_world.specs.declared.world.World.{World}
use Rattle.cm_world.specs.Order.{touched_cells}
use Rattle.cm_world.specs.Shape.{Mark, Element, Presence, Number}
use Rattle.cm_story.specs.Following.{looks}
use Rattle.cm_twin.specs.Names.{Names, named, cell_named, value_type}
use Rattle.cm_twin.specs.Twins.{arguments_named}

-- the old name of the new name of each element in these is the element: no two of them get one name
abbrev pub AreUndone : Names → List Mark → Type 0
AreUndone names [] = Unit {0}
AreUndone names (Element s n ∷ ms) = (names.back s (names.there s n) ≡ n) × AreUndone names ms
AreUndone names (Presence d ∷ ms) = AreUndone names ms
AreUndone names (Number n ∷ ms) = AreUndone names ms

-- a cell of a state, under the new names
abbrev pub entry : Tables → Names → Store → CellName → Except
entry t names s c =
    record { cell = cell_named t names.there c; value = named t names.there (looks s c) (value_type t c.state) }

-- the second world is the first under the new names where that one touches its state, and has least values elsewhere
pub record IsOwnTwin (t : Tables) (p : Pair) (names : Names) (w u : World) : Type 0 where
  pub defaults : u.init.defaults ≡ map (λ d. least_of t d.value) t.states
  pub exceptions : u.init.exceptions ≡ map (entry t names w.init) (touched_cells t p w)
  pub a : u.a.vals ≡ arguments_named t names.there (slice_get t.calls p.a) w.a.vals
  pub b : u.b.vals ≡ arguments_named t names.there (slice_get t.calls p.b) w.b.vals

-- it is there
abbrev pub own_twin_of : Tables → Pair → Names → World → World
own_twin_of t p names w = record {
  init = store (map (λ d. least_of t d.value) t.states) (map (entry t names w.init) (touched_cells t p w));
  a = record { vals = arguments_named t names.there (slice_get t.calls p.a) w.a.vals };
  b = record { vals = arguments_named t names.there (slice_get t.calls p.b) w.b.vals };
}
