-- The text of a symbol.
use Rattle.std.specs.Prelude.{ℕ, ℤ, List, [], ◌∷◌, ◌++◌, codes, decimal, slice_get, Option, Some, None}
use Rattle.cm_model.specs.Tables.{Tables}
use Rattle.cm_model.specs.declared.ty.Ty.{Ty, out-Ty}
use Rattle.cm_model.specs.declared.ty.Part.{Part}
use Rattle.cm_model.specs.declared.pair.Pair.{Pair}
use Rattle.cm_term.specs.declared.symbol.Step.{Step}
use Rattle.cm_term.specs.declared.symbol.Step.TheVariants as step
use Rattle.cm_term.specs.declared.symbol.Root.{Root}
use Rattle.cm_term.specs.declared.symbol.Root.TheVariants as root
use Rattle.cm_term.specs.declared.symbol.Sym.{Sym}
use Rattle.cm_cond.specs.declared.cell.CellTerm.{CellTerm}
use Rattle.cm_cond.specs.Typing.{parameter, field, type_in, root_type}

-- what is not there has no name
abbrev pub part_name : Option Part → List ℕ
part_name (Some p) = p.name
part_name None = []

abbrev pub field_name : Tables → Option Ty → ℕ → List ℕ
field_name t (Some ty) i = part_name (field t (out-Ty ty) i)
field_name t None i = []

abbrev pub step_text : Tables → Option Ty → Step → List ℕ
step_text t o (step.Field i) = codes "." ++ field_name t o i
step_text t o step.Payload = codes ".some"

abbrev pub type_after : Tables → Option Ty → Step → Option Ty
type_after t (Some ty) s = type_in t s ty
type_after t None s = None

-- the steps into a value of a type
abbrev pub path_text : Tables → Option Ty → List Step → List ℕ
path_text t o [] = []
path_text t o (s ∷ ss) = step_text t o s ++ path_text t (type_after t o s) ss

abbrev pub root_text : Tables → Pair → Root → List ℕ
root_text t p (root.A i) = codes "a." ++ part_name (parameter t p.a i)
root_text t p (root.B i) = codes "b." ++ part_name (parameter t p.b i)
root_text t p (root.Cell i) = codes "c" ++ decimal i

-- a symbol of the pair's arguments and of these cells
abbrev pub text_of_symbol : Tables → Pair → List CellTerm → Sym → List ℕ
text_of_symbol t p cells x = root_text t p x.root ++ path_text t (root_type t p cells x.root) x.path
