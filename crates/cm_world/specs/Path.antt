-- The path of a world: the decisions of both orders and of the last comparison.
use Rattle.std.specs.Prelude.{ℕ, ◌==◌, Bool, true, false, List, [], ◌∷◌, ◌++◌, Option, Some, None, if◌then◌else◌}
use Rattle.cm_model.specs.Tables.{Tables}
use Rattle.cm_model.specs.declared.pair.Pair.{Pair}
use Rattle.cm_value.specs.declared.value.Value.{Value}
use Rattle.cm_value.specs.declared.value.Value.TheOpen.{Value-F}
use Rattle.cm_value.specs.declared.value.Value.TheFolds.{fold-Value}
use Rattle.cm_eval.specs.declared.log.CellName.{CellName}
use Rattle.cm_eval.specs.State.{Store, Touched, look_up}
use Rattle.cm_eval.specs.Comparison.{variant, tag_of, parts_of, option_of, presence}
use Rattle.cm_world.specs.declared.order.Outcomes.{Outcomes}
use Rattle.cm_world.specs.declared.world.World.{World}
use Rattle.cm_world.specs.Order.{BothEnd, BothReplied, OneBlocked, both_orders}

-- two values of ab and of ba inspected before something else: the variants and options there, left and then right,
-- until two numbers differ. What is done at a decision, and where two differ, is the reader's. Two values that are
-- of no one type have nothing to inspect, and a number past the limit is no variant
abbrev pub Inspecting : Type 0 → Type 0
Inspecting X = Value → X → X

module _ (X : Type 0) (stop : X) (decide : ℕ → (ℕ → X) → X) where
  -- two numbers, and what comes after where they are equal
  abbrev pub both_inspected : ℕ → ℕ → X → X
  both_inspected m n rest = decide m (λ d. decide n (λ e. if d == e then rest else stop))

  abbrev pub variants_inspected : Option ℕ → Option ℕ → X → X
  variants_inspected (Some m) (Some n) rest = both_inspected m n rest
  variants_inspected (Some m) None rest = rest
  variants_inspected None n rest = rest

  -- field by field
  abbrev pub fields_inspected : List (Inspecting X) → List Value → X → X
  fields_inspected [] vs rest = rest
  fields_inspected (m ∷ ms) [] rest = rest
  fields_inspected (m ∷ ms) (v ∷ vs) rest = m v (fields_inspected ms vs rest)

  abbrev pub record_inspected : List (Inspecting X) → Option (List Value) → X → X
  record_inspected ms (Some vs) rest = fields_inspected ms vs rest
  record_inspected ms None rest = rest

  abbrev pub none_inspected : Option (Option Value) → X → X
  none_inspected (Some o) rest = both_inspected 0 (presence o) rest
  none_inspected None rest = rest

  abbrev pub payload_inspected : Inspecting X → Option Value → X → X
  payload_inspected m (Some v) rest = m v rest
  payload_inspected m None rest = rest

  abbrev pub some_inspected : Inspecting X → Option (Option Value) → X → X
  some_inspected m (Some o) rest = both_inspected 1 (presence o) (payload_inspected m o rest)
  some_inspected m None rest = rest

  abbrev pub inspecting_step : Value-F (Inspecting X) → Inspecting X
  inspecting_step (Value-F.Elem m) y rest = rest
  inspecting_step (Value-F.Int m) y rest = rest
  inspecting_step (Value-F.Tag m) y rest = variants_inspected (variant m) (tag_of y) rest
  inspecting_step (Value-F.Rec ms) y rest = record_inspected ms (parts_of y) rest
  inspecting_step Value-F.None y rest = none_inspected (option_of y) rest
  inspecting_step (Value-F.Some m) y rest = some_inspected m (option_of y) rest

  abbrev pub inspecting : Value → Inspecting X
  inspecting = fold-Value (Inspecting X) inspecting_step

-- for a path a decision is logged
abbrev pub logs : ℕ → (ℕ → List ℕ) → List ℕ
logs d more = d ∷ more d

abbrev pub variants_logged : Option ℕ → Option ℕ → List ℕ → List ℕ
variants_logged = variants_inspected (List ℕ) [] logs

abbrev pub fields_logged : List (Inspecting (List ℕ)) → List Value → List ℕ → List ℕ
fields_logged = fields_inspected (List ℕ) [] logs

abbrev pub inspection_logged : Value → Inspecting (List ℕ)
inspection_logged = inspecting (List ℕ) [] logs

abbrev pub cell_inspected : Option Value → Option Value → List ℕ → List ℕ
cell_inspected (Some v) (Some w) rest = inspection_logged v w rest
cell_inspected (Some v) None rest = rest
cell_inspected None w rest = rest

-- the final values of the cells that were written, in the order of first touch
abbrev pub cells_inspected : Store → Store → List CellName → List Bool → List ℕ
cells_inspected s u [] written = []
cells_inspected s u (c ∷ cs) [] = []
cells_inspected s u (c ∷ cs) (true ∷ ws) = cell_inspected (look_up s c) (look_up u c) (cells_inspected s u cs ws)
cells_inspected s u (c ∷ cs) (false ∷ ws) = cells_inspected s u cs ws

-- the replies of a, those of b, and then the written cells
abbrev pub last_comparison : Outcomes → Touched → List ℕ
last_comparison o t =
    inspection_logged o.a_in_ab o.a_in_ba
    (inspection_logged o.b_in_ab o.b_in_ba (cells_inspected o.after_ab o.after_ba t.cells t.written))

-- a blocked run ends the path
abbrev pub path_in : BothEnd → List ℕ
path_in (BothReplied o touched log) = log ++ last_comparison o touched
path_in (OneBlocked touched log) = log

abbrev pub path_of_world : Tables → Pair → World → List ℕ
path_of_world t p w = path_in (both_orders t p w)
