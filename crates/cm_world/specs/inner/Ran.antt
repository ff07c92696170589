-- What the crate's functions give, as the definitions have it, and what they say of themselves.
use Rattle.std.specs.Prelude.{◌≡◌, ℕ, ◌<◌, Bool, List, [], ◌∷◌, ◌++◌, map, length, get_or, if◌then◌else◌}
use Rattle.cm_model.specs.Tables.{Tables}
use Rattle.cm_value.specs.declared.value.Value.{Value}
use Rattle.cm_eval.specs.declared.log.Log.{Log}
use Rattle.cm_eval.specs.declared.log.CellName.{CellName}
use Rattle.cm_eval.specs.declared.state.Except.{Except}
use Rattle.cm_eval.specs.State.{Store, look_up}
use Rattle.cm_eval.specs.Ended.{touched_of}
use Rattle.cm_world.specs.declared.order.OneOrder.{OneOrder}
use Rattle.cm_world.specs.declared.order.OneOrder.TheVariants as one
use Rattle.cm_world.specs.declared.order.BothOrders.{BothOrders}
use Rattle.cm_world.specs.declared.order.BothOrders.TheVariants as both
use Rattle.cm_world.specs.Order.{OrderEnd, Replied, Blocked, BothEnd, BothReplied, OneBlocked}
use Rattle.cm_world.specs.World.{IsCellOf}
use Rattle.cm_world.specs.Path.{inspection_logged, fields_logged}

abbrev pub order_end : OneOrder → Log → OrderEnd
order_end (one.Replied v w s) l = Replied v w s (touched_of l) l.steps
order_end one.Blocked l = Blocked (touched_of l) l.steps

abbrev pub both_end : BothOrders → Log → BothEnd
both_end (both.Replied o) l = BothReplied o (touched_of l) l.steps
both_end both.Blocked l = OneBlocked (touched_of l) l.steps

-- the decisions of an inspection, after those before it: whether it goes on, and with what
abbrev pub Inspection : (List ℕ → List ℕ) → Bool → List ℕ → List ℕ → Type 0
Inspection m on log after = (rest : List ℕ) → log ++ m rest ≡ (if on then after ++ rest else after)

abbrev pub Inspects : Value → Value → Bool → List ℕ → List ℕ → Type 0
Inspects v w = Inspection (inspection_logged v w)

abbrev pub InspectsAll : List Value → List Value → Bool → List ℕ → List ℕ → Type 0
InspectsAll vs ws = Inspection (fields_logged (map inspection_logged vs) ws)

-- a cell of the model has the same value in both
abbrev pub Agree : Tables → Store → Store → CellName → Type 0
Agree t s u c = IsCellOf t c → look_up s c ≡ look_up u c

-- the same of each cell of these exceptions
abbrev pub AllAgree : Tables → Store → Store → List Except → Type 0
AllAgree t s u es = (i : ℕ) (d : Except) → i < length es → Agree t s u (get_or es i d).cell

-- the states of these cells are among the first n
abbrev pub AreDeclared : ℕ → List CellName → Type 0
AreDeclared n [] = Unit {0}
AreDeclared n (c ∷ cs) = (c.state < n) × AreDeclared n cs
