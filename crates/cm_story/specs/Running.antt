-- What a function says of a world's two orders.
use Rattle.std.specs.Prelude.{◌≡◌, ◌↔◌, IsTrue}
use Rattle.cm_model.specs.Tables.{Tables}
use Rattle.cm_model.specs.declared.pair.Pair.{Pair}
use Rattle.cm_world.specs.declared.world.World.{World}
use Rattle.cm_world.specs.Order.{both_orders, touched_cells}
use Rattle.cm_world.specs.Path.{path_of_world}
use Rattle.cm_world.specs.Commuting.{Commutes}
use Rattle.cm_story.specs.declared.laws.Ran.{Ran}
use Rattle.cm_story.specs.Story.{Story, story_of}
use Rattle.cm_story.specs.Following.{path_in, cells_in, end_in, looks}
use Rattle.cm_story.specs.Touches.{Apart, AreCells, AllMeet, BothReply}

-- the world's path, and whether it commutes
pub record IsRunOf (t : Tables) (p : Pair) (w : World) (r : Ran) : Type 0 where
  pub path : r.path ≡ path_of_world t p w
  pub commutes : IsTrue r.commutes ↔ Commutes t p w

-- the story of the world's arguments
abbrev pub story_in : Tables → Pair → World → Story
story_in t p w = story_of t p w.a.vals w.b.vals

-- what the story tells where new cells have the values of the world's state
pub record IsTold (t : Tables) (p : Pair) (w : World) (r : Ran) : Type 0 where
  pub path : r.path ≡ path_in (looks w.init) (story_in t p w)
  pub commutes : r.commutes ≡ end_in (looks w.init) (story_in t p w)

-- what is so of the cells that a world touches
pub record IsTouched (t : Tables) (p : Pair) (w : World) : Type 0 where
  pub told : touched_cells t p w ≡ cells_in (looks w.init) (story_in t p w)
  pub apart : Apart (touched_cells t p w)
  pub cells : AreCells t (touched_cells t p w)
  -- where neither order is blocked
  pub met : BothReply (both_orders t p w) → AllMeet t (looks w.init) (touched_cells t p w)
