-- Both orders of a pair of calls.
use Rattle.std.specs.Prelude.{ℕ, List, []}
use Rattle.cm_model.specs.Tables.{Tables}
use Rattle.cm_model.specs.declared.pair.Pair.{Pair}
use Rattle.cm_value.specs.declared.value.Value.{Value}
use Rattle.cm_eval.specs.declared.log.CellName.{CellName}
use Rattle.cm_eval.specs.State.{Store, Touched}
use Rattle.cm_eval.specs.Run.{End, Ended, Stopped, evaluation_of}
use Rattle.cm_world.specs.declared.order.Outcomes.{Outcomes}
use Rattle.cm_world.specs.declared.world.World.{World}

-- a call by its number, with its arguments
pub record Invocation : Type 0 where
  pub call : ℕ
  pub args : List Value

abbrev pub invocation : ℕ → List Value → Invocation
invocation n vs = record { call = n; args = vs }

-- how an order ended: with the reply of the first call, that of the second and the final state, or blocked;
-- and with the cells touched and the decisions so far
pub data OrderEnd : Type 0 where
  Replied : Value → Value → Store → Touched → List ℕ → OrderEnd
  Blocked : Touched → List ℕ → OrderEnd

abbrev pub second_ended : Value → End → OrderEnd
second_ended v (Ended w s t log) = Replied v w s t log
second_ended v (Stopped t log) = Blocked t log

-- the second call, on what the first left
abbrev pub second_after : (Store → Touched → List ℕ → End) → End → OrderEnd
second_after second (Ended v s t log) = second_ended v (second s t log)
second_after second (Stopped t log) = Blocked t log

-- one call on a state, and the other on the state that it leaves; the log goes on
abbrev pub run_of_order : Tables → Invocation → Invocation → Store → Touched → List ℕ → OrderEnd
run_of_order t x y s touched log = second_after (evaluation_of t y.call y.args)
    (evaluation_of t x.call x.args s touched log)

-- how both orders ended: with what they left, or one of them blocked; and with the cells touched and the decisions
pub data BothEnd : Type 0 where
  BothReplied : Outcomes → Touched → List ℕ → BothEnd
  OneBlocked : Touched → List ℕ → BothEnd

abbrev pub nothing_touched : Touched
nothing_touched = record { cells = []; written = [] }

abbrev pub call_a : Pair → World → Invocation
call_a p w = invocation p.a w.a.vals

abbrev pub call_b : Pair → World → Invocation
call_b p w = invocation p.b w.b.vals

-- each call's reply in ab and in ba, and the final state of each order
abbrev pub outcomes : Value → Value → Store → Value → Value → Store → Outcomes
outcomes v w s x y u = record { a_in_ab = v; b_in_ab = w; after_ab = s; b_in_ba = x; a_in_ba = y; after_ba = u }

abbrev pub ba_ended : Value → Value → Store → OrderEnd → BothEnd
ba_ended v w s (Replied x y u touched log) = BothReplied (outcomes v w s x y u) touched log
ba_ended v w s (Blocked touched log) = OneBlocked touched log

-- the order ba on the same initial state, with the log of ab going on
abbrev pub ba_after : Tables → Pair → World → OrderEnd → BothEnd
ba_after t p w (Replied x y s touched log) = ba_ended x y s (run_of_order t (call_b p w) (call_a p w)
    w.init touched log)
ba_after t p w (Blocked touched log) = OneBlocked touched log

abbrev pub run_of_ab : Tables → Pair → World → OrderEnd
run_of_ab t p w = run_of_order t (call_a p w) (call_b p w) w.init nothing_touched []

abbrev pub both_orders : Tables → Pair → World → BothEnd
both_orders t p w = ba_after t p w (run_of_ab t p w)

abbrev pub cells_in : BothEnd → List CellName
cells_in (BothReplied o touched log) = touched.cells
cells_in (OneBlocked touched log) = touched.cells

-- the distinct cells that the world touches, in the order of first touch
abbrev pub touched_cells : Tables → Pair → World → List CellName
touched_cells t p w = cells_in (both_orders t p w)
