-- The types of symbols.
use Rattle.std.specs.Prelude.{ℕ, List, [], ◌∷◌, slice_get, Option, Some, None}
use Rattle.cm_model.specs.Tables.{Tables}
use Rattle.cm_model.specs.declared.ty.Ty.{Ty, out-Ty}
use Rattle.cm_model.specs.declared.ty.Ty.TheOpen.{Ty-F}
use Rattle.cm_model.specs.declared.ty.Part.{Part}
use Rattle.cm_model.specs.declared.ty.RecDecl.{RecDecl}
use Rattle.cm_model.specs.declared.body.Call.{Call}
use Rattle.cm_model.specs.declared.body.StateDecl.{StateDecl}
use Rattle.cm_model.specs.declared.pair.Pair.{Pair}
use Rattle.cm_term.specs.declared.symbol.Step.{Step}
use Rattle.cm_term.specs.declared.symbol.Step.TheVariants as step
use Rattle.cm_term.specs.declared.symbol.Root.{Root}
use Rattle.cm_term.specs.declared.symbol.Root.TheVariants as root
use Rattle.cm_term.specs.declared.symbol.Sym.{Sym}
use Rattle.cm_cond.specs.declared.cell.CellTerm.{CellTerm}

abbrev pub parameter_in : Option Call → ℕ → Option Part
parameter_in (Some d) i = slice_get d.params i
parameter_in None i = None

-- a parameter of a call, both by their numbers
abbrev pub parameter : Tables → ℕ → ℕ → Option Part
parameter t call i = parameter_in (slice_get t.calls call) i

abbrev pub declared_field : Option RecDecl → ℕ → Option Part
declared_field (Some d) i = slice_get d.fields i
declared_field None i = None

-- a field of a record by its number
abbrev pub field : Tables → Ty-F Ty → ℕ → Option Part
field t (Ty-F.Rec r) i = declared_field (slice_get t.records r) i
field t _ i = None

abbrev pub type_of_part : Option Part → Option Ty
type_of_part (Some p) = Some p.ty
type_of_part None = None

abbrev pub payload_type : Ty-F Ty → Option Ty
payload_type (Ty-F.Option ty) = Some ty
payload_type _ = None

-- the type of the part that a step leads to
abbrev pub type_in : Tables → Step → Ty → Option Ty
type_in t (step.Field i) ty = type_of_part (field t (out-Ty ty) i)
type_in t step.Payload ty = payload_type (out-Ty ty)

abbrev pub type_along : Tables → List Step → Option Ty → Option Ty
type_along t [] o = o
type_along t (s ∷ ss) (Some ty) = type_along t ss (type_in t s ty)
type_along t (s ∷ ss) None = None

abbrev pub value_type : Option StateDecl → Option Ty
value_type (Some d) = Some d.value
value_type None = None

abbrev pub cell_type : Tables → Option CellTerm → Option Ty
cell_type t (Some c) = value_type (slice_get t.states c.state)
cell_type t None = None

-- among these cells
abbrev pub root_type : Tables → Pair → List CellTerm → Root → Option Ty
root_type t p cells (root.A i) = type_of_part (parameter t p.a i)
root_type t p cells (root.B i) = type_of_part (parameter t p.b i)
root_type t p cells (root.Cell i) = cell_type t (slice_get cells i)

-- the type of a symbol of the pair's arguments and of these cells, if there is such a symbol
abbrev pub symbol_type : Tables → Pair → List CellTerm → Sym → Option Ty
symbol_type t p cells x = type_along t x.path (root_type t p cells x.root)
