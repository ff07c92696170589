-- The world that one sees through a look-up: the cells that the story touches hold what it says, and all others the
-- least values of their types.
use Rattle.std.specs.Prelude.{◌≡◌, ◌↔◌, List, [], ◌∷◌, map, IsTrue}
use Rattle.cm_model.specs.Tables.{Tables}
use Rattle.cm_model.specs.declared.pair.Pair.{Pair}
use Rattle.cm_value.specs.declared.value.Value.{Value}
use Rattle.cm_value.specs.Least.{least_of}
use Rattle.cm_eval.specs.declared.log.CellName.{CellName}
use Rattle.cm_eval.specs.declared.state.Except.{Except}
use Rattle.cm_eval.specs.State.{Store, store}
use Rattle.cm_world.specs.declared.world.World.{World}
use Rattle.cm_world.specs.World.{IsWorldOf}
use Rattle.cm_world.specs.Order.{touched_cells}
use Rattle.cm_world.specs.Path.{path_of_world}
use Rattle.cm_world.specs.Commuting.{Commutes}
use Rattle.cm_story.specs.Story.{story_of}
use Rattle.cm_story.specs.Following.{Look, path_in, cells_in, end_in}

-- these cells with the values that they are looked up to have
abbrev pub seen_exceptions : Look → List CellName → List Except
seen_exceptions o [] = []
seen_exceptions o (c ∷ cs) = record { cell = c; value = o c } ∷ seen_exceptions o cs

abbrev pub seen_store : Tables → Look → List CellName → Store
seen_store t o cs = store (map (λ d. least_of t d.value) t.states) (seen_exceptions o cs)

-- with these arguments
abbrev pub seen_world : Tables → Pair → List Value → List Value → Look → World
seen_world t p a b o = record {
  init = seen_store t o (cells_in o (story_of t p a b));
  a = record { vals = a };
  b = record { vals = b };
}

-- a world of the pair that does what the story tells, with the touched cells alone as exceptions
pub record IsSeen (t : Tables) (p : Pair) (a b : List Value) (o : Look) (w : World) : Type 0 where
  pub is_world : IsWorldOf t p w
  pub path : path_of_world t p w ≡ path_in o (story_of t p a b)
  pub touches : touched_cells t p w ≡ cells_in o (story_of t p a b)
  pub commutes : Commutes t p w ↔ IsTrue (end_in o (story_of t p a b))
  pub exceptions : map (λ e. e.cell) w.init.exceptions ≡ touched_cells t p w
  pub defaults : w.init.defaults ≡ map (λ d. least_of t d.value) t.states
