-- A state: a default for each declared state, and the cells whose values are others. And the cells that were
-- touched.
use Rattle.std.specs.Prelude.{ℕ, ◌==◌, Bool, true, false, ◌&&◌, List, [], ◌∷◌, ◌++◌, map, slice_get, slice_set, Option}
use Rattle.std.specs.Prelude.{Some, None, if◌then◌else◌}
use Rattle.std.specs.Ordering.{int_eq}
use Rattle.cm_model.specs.Tables.{Tables}
use Rattle.cm_value.specs.Least.{least_of}
use Rattle.cm_value.specs.declared.value.Value.{Value, out-Value}
use Rattle.cm_value.specs.declared.value.Value.TheOpen.{Value-F}
use Rattle.cm_value.specs.declared.value.Value.TheFolds.{fold-Value}
use Rattle.cm_eval.specs.declared.log.CellName.{CellName}
use Rattle.cm_eval.specs.declared.state.Except.{Except}

pub record Store : Type 0 where
  pub defaults : List Value
  pub exceptions : List Except

abbrev pub all_same : List (Value → Bool) → List Value → Bool
all_same [] [] = true
all_same [] (v ∷ vs) = false
all_same (m ∷ ms) [] = false
all_same (m ∷ ms) (v ∷ vs) = m v && all_same ms vs

abbrev pub same_form : Value-F (Value → Bool) → Value-F Value → Bool
same_form (Value-F.Elem m) (Value-F.Elem n) = m == n
same_form (Value-F.Int m) (Value-F.Int n) = int_eq m n
same_form (Value-F.Tag m) (Value-F.Tag n) = m == n
same_form (Value-F.Rec ms) (Value-F.Rec vs) = all_same ms vs
same_form Value-F.None Value-F.None = true
same_form (Value-F.Some m) (Value-F.Some v) = m v
same_form _ _ = false

-- whether two values are one
abbrev pub same_value : Value → Value → Bool
same_value = fold-Value (Value → Bool) (λ x v. same_form x (out-Value v))

abbrev pub same_key : Option Value → Option Value → Bool
same_key None None = true
same_key None (Some v) = false
same_key (Some v) None = false
same_key (Some v) (Some w) = same_value v w

abbrev pub same_cell : CellName → CellName → Bool
same_cell c d = (c.state == d.state) && same_key c.key d.key

-- the value of the exception for the cell, if there is one
abbrev pub exception_of : List Except → CellName → Option Value
exception_of [] c = None
exception_of (e ∷ es) c = if same_cell e.cell c then Some e.value else exception_of es c

abbrev pub or_default : Option Value → Option Value → Option Value
or_default (Some v) d = Some v
or_default None d = d

-- the value of a cell: its exception's, or else the default of its state, if the state is there
abbrev pub look_up : Store → CellName → Option Value
look_up s c = or_default (exception_of s.exceptions c) (slice_get s.defaults c.state)

abbrev pub exceptions_with : List Except → CellName → Value → List Except
exceptions_with [] c v = record { cell = c; value = v } ∷ []
exceptions_with (e ∷ es) c v = if same_cell e.cell c then record e { value = v } ∷ es else e ∷ exceptions_with es c v

-- the state with another value in a cell: a named cell keeps its place, another one comes last
abbrev pub put : Store → CellName → Value → Store
put s c v = record s { exceptions = exceptions_with s.exceptions c v }

-- the distinct cells touched so far, in the order of first touch, and which of them were written
pub record Touched : Type 0 where
  pub cells : List CellName
  pub written : List Bool

-- with a new cell
abbrev pub with_cell : Touched → CellName → Touched
with_cell t c = record { cells = t.cells ++ c ∷ []; written = t.written ++ false ∷ [] }

-- with a cell marked as written
abbrev pub marked : Touched → ℕ → Touched
marked t i = record t { written = slice_set t.written i true }

abbrev pub store : List Value → List Except → Store
store ds es = record { defaults = ds; exceptions = es }

-- each state has the least value of its type as default, and no cell is another
abbrev pub least_store : Tables → Store
least_store t = store (map (λ d. least_of t d.value) t.states) []
