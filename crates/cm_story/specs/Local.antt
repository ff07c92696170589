-- What a world does depends on its arguments and on what the cells that it touches held at first, and on no more.
use Rattle.std.specs.Prelude.{◌≡◌, ◌↔◌, List, [], ◌∷◌}
use Rattle.cm_model.specs.Tables.{Tables}
use Rattle.cm_model.specs.declared.pair.Pair.{Pair}
use Rattle.cm_eval.specs.declared.log.CellName.{CellName}
use Rattle.cm_eval.specs.State.{Store, look_up}
use Rattle.cm_world.specs.declared.world.World.{World}
use Rattle.cm_world.specs.Order.{touched_cells}
use Rattle.cm_world.specs.Path.{path_of_world}
use Rattle.cm_world.specs.Commuting.{Commutes}

-- two states have the same values in these cells
abbrev pub SameAt : Store → Store → List CellName → Type 0
SameAt s u [] = Unit {0}
SameAt s u (c ∷ cs) = (look_up s c ≡ look_up u c) × SameAt s u cs

-- two worlds with the same arguments, whose states are the same in the cells that the first one touches
pub record LookSame (t : Tables) (p : Pair) (w u : World) : Type 0 where
  pub a : w.a.vals ≡ u.a.vals
  pub b : w.b.vals ≡ u.b.vals
  pub cells : SameAt w.init u.init (touched_cells t p w)

-- two worlds decide the same, touch the same cells, and both commute or neither does
pub record DoSame (t : Tables) (p : Pair) (w u : World) : Type 0 where
  pub path : path_of_world t p w ≡ path_of_world t p u
  pub touches : touched_cells t p w ≡ touched_cells t p u
  pub commutes : Commutes t p w ↔ Commutes t p u
