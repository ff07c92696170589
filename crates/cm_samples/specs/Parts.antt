-- Pieces that the models have in common.
use Rattle.std.specs.Prelude.{ℕ, List, [], ◌∷◌, codes, Option, Some, None}
use Rattle.cm_model.specs.declared.ty.Ty.{Ty}
use Rattle.cm_model.specs.declared.ty.Ty.TheVariants as ty
use Rattle.cm_model.specs.declared.ty.Part.{Part}
use Rattle.cm_model.specs.declared.ty.EnumDecl.{EnumDecl}
use Rattle.cm_model.specs.declared.body.Op.TheVariants as op
use Rattle.cm_model.specs.declared.body.Expr.{Expr}
use Rattle.cm_model.specs.declared.body.Expr.TheVariants as expr
use Rattle.cm_model.specs.declared.body.Stmt.{Stmt}
use Rattle.cm_model.specs.declared.body.Stmt.TheVariants as stmt
use Rattle.cm_model.specs.declared.body.StateDecl.{StateDecl}
use Rattle.cm_model.specs.declared.body.Call.{Call}

-- the enum that each model begins with
abbrev pub bool_enum : EnumDecl
bool_enum = record { name = codes "bool"; variants = codes "false" ∷ codes "true" ∷ [] }

abbrev pub bool : Ty
bool = ty.Enum 0

-- the numeral-free expression `true`
abbrev pub truth : Expr
truth = expr.Tag 0 1

-- a state of one cell
abbrev pub cell : List ℕ → Ty → Option Expr → StateDecl
cell n t inv = record { name = n; key = None; value = t; inv = inv }

-- a map from a type to another
abbrev pub map_from : List ℕ → Ty → Ty → Option Expr → StateDecl
map_from n k t inv = record { name = n; key = Some k; value = t; inv = inv }

abbrev pub part : List ℕ → Ty → Part
part n t = record { name = n; ty = t }

-- a function or call of which so many parameters come from outside
abbrev pub routine : List ℕ → List Part → ℕ → Ty → List Stmt → Call
routine n ps outer reply body = record { name = n; params = ps; outer = outer; reply = reply; body = body }

-- state on: bool; state out: bool;
abbrev pub on_and_out : List StateDecl
on_and_out = cell (codes "on") bool None ∷ cell (codes "out") bool None ∷ []

-- whether states 0 and 1 are equal, in a call same() -> bool
abbrev pub same_call : Call
same_call = routine (codes "same") [] 0 bool (stmt.Return (expr.Compare op.Eq (expr.Cell 0 None) (expr.Cell 1 None))
    ∷ [])
