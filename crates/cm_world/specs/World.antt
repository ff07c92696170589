-- Worlds of a pair of calls: a state and the arguments of each of the two. Elements are any natural numbers.
use Rattle.std.specs.Prelude.{◌≡◌, ℕ, Bool, true, false, not, ◌&&◌, List, [], ◌∷◌, map, slice_get, Option, Some, None}
use Rattle.std.specs.Prelude.{IsTrue}
use Rattle.std.specs.List.{list_all}
use Rattle.cm_model.specs.Tables.{Tables}
use Rattle.cm_model.specs.declared.ty.Ty.{Ty}
use Rattle.cm_model.specs.declared.body.StateDecl.{StateDecl}
use Rattle.cm_model.specs.declared.body.Call.{Call}
use Rattle.cm_model.specs.declared.pair.Pair.{Pair}
use Rattle.cm_value.specs.declared.value.Value.{Value}
use Rattle.cm_value.specs.Membership.{is_value_of, are_values_of}
use Rattle.cm_eval.specs.declared.log.CellName.{CellName}
use Rattle.cm_eval.specs.declared.state.Except.{Except}
use Rattle.cm_eval.specs.State.{Store, look_up, exception_of}
use Rattle.cm_eval.specs.Invariant.{MeetsInvariant}
use Rattle.cm_world.specs.declared.world.World.{World}

-- a key of the key type, and none where there is no key type
abbrev pub fits_key : Tables → Option Ty → Option Value → Bool
fits_key t None None = true
fits_key t None (Some v) = false
fits_key t (Some ty) None = false
fits_key t (Some ty) (Some v) = is_value_of t ty v

abbrev pub is_cell_in : Tables → Option StateDecl → CellName → Bool
is_cell_in t (Some d) c = fits_key t d.key c.key
is_cell_in t None c = false

-- a declared state, with a key exactly where it is a map
abbrev pub is_cell : Tables → CellName → Bool
is_cell t c = is_cell_in t (slice_get t.states c.state) c

abbrev pub IsCellOf : Tables → CellName → Type 0
IsCellOf t c = IsTrue (is_cell t c)

abbrev pub is_value_in : Tables → Option StateDecl → Value → Bool
is_value_in t (Some d) v = is_value_of t d.value v
is_value_in t None v = false

-- a cell of the model with a value of its state's value type
abbrev pub is_exception : Tables → Except → Bool
is_exception t e = is_cell t e.cell && is_value_in t (slice_get t.states e.cell.state) e.value

abbrev pub is_there : Option Value → Bool
is_there (Some v) = true
is_there None = false

-- no cell is named twice
abbrev pub are_apart : List Except → Bool
are_apart [] = true
are_apart (e ∷ es) = not (is_there (exception_of es e.cell)) && are_apart es

pub record IsStateOf (t : Tables) (s : Store) : Type 0 where
  -- a value of the value type for each declared state
  pub defaults : IsTrue (are_values_of t (map (λ d. d.value) t.states) s.defaults)
  pub exceptions : IsTrue (list_all (is_exception t) s.exceptions)
  pub apart : IsTrue (are_apart s.exceptions)

abbrev pub are_arguments_in : Tables → Option Call → List Value → Bool
are_arguments_in t (Some d) vs = are_values_of t (map (λ p. p.ty) d.params) vs
are_arguments_in t None vs = false

-- a value for each parameter of the call with this number, internal ones included
abbrev pub are_arguments : Tables → ℕ → List Value → Bool
are_arguments t call vs = are_arguments_in t (slice_get t.calls call) vs

pub record IsWorldOf (t : Tables) (p : Pair) (w : World) : Type 0 where
  pub init : IsStateOf t w.init
  pub a : IsTrue (are_arguments t p.a w.a.vals)
  pub b : IsTrue (are_arguments t p.b w.b.vals)

-- each invariant is true of the values of all cells of its state
abbrev pub IsSound : Tables → World → Type 0
IsSound t w = (c : CellName) → IsCellOf t c → (v : Value) → look_up w.init c ≡ Some v → MeetsInvariant t c.state v
