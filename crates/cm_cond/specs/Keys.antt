-- The values of keys and of cells on a world.
use Rattle.std.specs.Prelude.{ℕ, ℤ, pos, Bool, List, [], ◌∷◌, ◌++◌, map, slice_get, Option, Some, None, if◌then◌else◌}
use Rattle.cm_model.specs.Tables.{Tables}
use Rattle.cm_model.specs.declared.ty.Ty.{Ty, out-Ty}
use Rattle.cm_model.specs.declared.ty.Ty.TheOpen.{Ty-F}
use Rattle.cm_model.specs.declared.ty.RecDecl.{RecDecl}
use Rattle.cm_model.specs.declared.body.StateDecl.{StateDecl}
use Rattle.cm_value.specs.declared.value.Value.{Value}
use Rattle.cm_value.specs.declared.value.Value.TheVariants as value
use Rattle.cm_value.specs.Membership.{is_number_of, field_types}
use Rattle.cm_eval.specs.declared.log.CellName.{CellName}
use Rattle.cm_eval.specs.Evaluation.{named}
use Rattle.cm_eval.specs.State.{look_up}
use Rattle.cm_term.specs.declared.symbol.Sym.{Sym}
use Rattle.cm_term.specs.Symbols.{Roots, symbol_value}
use Rattle.cm_world.specs.declared.world.World.{World}
use Rattle.cm_cond.specs.declared.cell.KeyTerm.{KeyTerm}
use Rattle.cm_cond.specs.declared.cell.KeyTerm.TheOpen.{KeyTerm-F}
use Rattle.cm_cond.specs.declared.cell.KeyTerm.TheFolds.{fold-KeyTerm}
use Rattle.cm_cond.specs.declared.cell.CellTerm.{CellTerm}
use Rattle.cm_cond.specs.Values.{roots_on, number_of, raised}

-- the value of a key as one of a type, if it has one
abbrev pub KeyValue : Type 0
KeyValue = Ty → Option Value

abbrev pub number_or_zero : Roots → Option Sym → Option ℤ
number_or_zero r (Some x) = number_of r x
number_or_zero r None = Some (pos 0)

-- a number outside the type is no value
abbrev pub number_value : Tables → Ty → Option ℤ → Option Value
number_value t ty (Some n) = if is_number_of t (out-Ty ty) n then Some (value.Int n) else None
number_value t ty None = None

abbrev pub and_then : {X Y : Type 0} → Option X → (X → Option Y) → Option Y
and_then (Some x) f = f x
and_then None f = None

-- the values of all fields, behind those that are there already
abbrev pub fields_after : List Value → List KeyValue → List Ty → Option (List Value)
fields_after done [] [] = Some done
fields_after done [] (ty ∷ tys) = None
fields_after done (k ∷ ks) [] = None
fields_after done (k ∷ ks) (ty ∷ tys) = and_then (k ty) (λ v. fields_after (done ++ v ∷ []) ks tys)

abbrev pub record_in : Option RecDecl → List KeyValue → Option Value
record_in (Some d) ks = and_then (fields_after [] ks (field_types d)) (λ vs. Some (value.Rec vs))
record_in None ks = None

abbrev pub record_value : Tables → Ty-F Ty → List KeyValue → Option Value
record_value t (Ty-F.Rec r) ks = record_in (slice_get t.records r) ks
record_value t _ ks = None

abbrev pub key_step : Tables → Roots → KeyTerm-F KeyValue → KeyValue
key_step t r (KeyTerm-F.Elem x) ty = symbol_value r x
key_step t r (KeyTerm-F.Num x plus) ty = number_value t ty (raised (number_or_zero r x) plus)
key_step t r (KeyTerm-F.TagOf x) ty = symbol_value r x
key_step t r (KeyTerm-F.Tag n) ty = Some (value.Tag n)
key_step t r (KeyTerm-F.Rec ks) ty = record_value t (out-Ty ty) ks

abbrev pub key_value : Tables → Roots → KeyTerm → KeyValue
key_value t r = fold-KeyTerm KeyValue (key_step t r)

-- the cell of a state with this key type, where its key has a value
abbrev pub cell_by : Tables → Roots → ℕ → Option Ty → Option KeyTerm → Option CellName
cell_by t r s None None = Some (named s None)
cell_by t r s None (Some k) = None
cell_by t r s (Some ty) None = None
cell_by t r s (Some ty) (Some k) = and_then (key_value t r k ty) (λ v. Some (named s (Some v)))

abbrev pub cell_in : Tables → Roots → Option StateDecl → CellTerm → Option CellName
cell_in t r (Some d) c = cell_by t r c.state d.key c.key
cell_in t r None c = None

-- the cell that is meant, where its key has a value
abbrev pub cell_on : Tables → Roots → CellTerm → Option CellName
cell_on t r c = cell_in t r (slice_get t.states c.state) c

-- what it holds in the initial state
abbrev pub initial_value : World → Option CellName → Option Value
initial_value w (Some c) = look_up w.init c
initial_value w None = None

-- the cells in their order, each by the initial values of the ones before it
abbrev pub cells_after : Tables → World → List (Option Value) → List CellTerm → List (Option CellName)
cells_after t w done [] = []
cells_after t w done (c ∷ cs) =
    cell_on t (roots_on w done) c ∷ cells_after t w (done ++ initial_value w (cell_on t (roots_on w done) c) ∷ []) cs

abbrev pub cells_on : Tables → World → List CellTerm → List (Option CellName)
cells_on t w cs = cells_after t w [] cs

abbrev pub initial_values : Tables → World → List CellTerm → List (Option Value)
initial_values t w cs = map (initial_value w) (cells_on t w cs)
