-- When a world commutes.
use Rattle.std.specs.Prelude.{◌≡◌}
use Rattle.cm_model.specs.Tables.{Tables}
use Rattle.cm_model.specs.declared.pair.Pair.{Pair}
use Rattle.cm_eval.specs.declared.log.CellName.{CellName}
use Rattle.cm_eval.specs.State.{Store, look_up}
use Rattle.cm_world.specs.declared.order.Outcomes.{Outcomes}
use Rattle.cm_world.specs.declared.world.World.{World}
use Rattle.cm_world.specs.World.{IsCellOf}
use Rattle.cm_world.specs.Order.{BothEnd, BothReplied, OneBlocked, both_orders}

-- each cell of the model has the same value in both
abbrev pub SameState : Tables → Store → Store → Type 0
SameState t s u = (c : CellName) → IsCellOf t c → look_up s c ≡ look_up u c

-- the replies of a, those of b, and the states
abbrev pub AreEqual : Tables → Outcomes → Type 0
AreEqual t o = (o.a_in_ab ≡ o.a_in_ba) × (o.b_in_ab ≡ o.b_in_ba) × SameState t o.after_ab o.after_ba

abbrev pub EndsEqual : Tables → BothEnd → Type 0
EndsEqual t (BothReplied o touched log) = AreEqual t o
EndsEqual t (OneBlocked touched log) = ⊥

-- neither order is blocked, each call replies the same in both, and both leave equal states
abbrev pub Commutes : Tables → Pair → World → Type 0
Commutes t p w = EndsEqual t (both_orders t p w)
