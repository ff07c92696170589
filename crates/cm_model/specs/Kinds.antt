-- What an expression gives: a number, or a value of a type. No kind where it is not well typed.
use Rattle.std.specs.Prelude.{ℕ, ◌==◌, ltb, leb, Bool, true, false, not, ◌&&◌, ◌||◌, if◌then◌else◌, List, [], ◌∷◌}
use Rattle.std.specs.Prelude.{length, slice_get, Option, Some, None, option_map}
use Rattle.std.specs.List.{list_all}
use Rattle.cm_model.specs.Limits.{is_number}
use Rattle.cm_model.specs.Tables.{Tables}
use Rattle.cm_model.specs.Types.{is_type_in_use, same_ty}
use Rattle.cm_model.specs.declared.ty.Ty.{Ty, out-Ty}
use Rattle.cm_model.specs.declared.ty.Ty.TheVariants as ty
use Rattle.cm_model.specs.declared.ty.Ty.TheOpen.{Ty-F}
use Rattle.cm_model.specs.declared.ty.Part.{Part}
use Rattle.cm_model.specs.declared.body.Op.{Op}
use Rattle.cm_model.specs.declared.body.Op.TheVariants as op
use Rattle.cm_model.specs.declared.body.Expr.{Expr}
use Rattle.cm_model.specs.declared.body.Expr.TheOpen.{Expr-F, SetField-F}
use Rattle.cm_model.specs.declared.body.Expr.TheFolds.{fold-Expr}

-- goes on with what is there
abbrev pub given : {X Y : Type 0} → Option X → (X → Option Y) → Option Y
given (Some x) k = k x
given None k = None

pub data Kind : Type 0 where
  Number : Kind
  Of : Ty → Kind

-- where an expression stands: the tables, how many functions stand before it, the types of the locals
pub record Scope : Type 0 where
  pub tables : Tables
  pub funs : ℕ
  pub locals : List Ty

abbrev pub scope : Tables → ℕ → List Ty → Scope
scope t n types = record { tables = t; funs = n; locals = types }

abbrev pub bool_ty : Ty
bool_ty = ty.Enum 0

abbrev pub is_bool : Option Kind → Bool
is_bool (Some (Of t)) = same_ty t bool_ty
is_bool (Some Number) = false
is_bool None = false

-- an integer expression: a number, or a value of an integer type
abbrev pub is_integer_ty : Ty-F Ty → Bool
is_integer_ty (Ty-F.Int i) = true
is_integer_ty _ = false

abbrev pub is_integer : Option Kind → Bool
is_integer (Some Number) = true
is_integer (Some (Of t)) = is_integer_ty (out-Ty t)
is_integer None = false

-- a value of this type
abbrev pub is_of : Ty → Option Kind → Bool
is_of t (Some (Of u)) = same_ty u t
is_of t (Some Number) = false
is_of t None = false

abbrev pub type_in : Kind → Option Ty
type_in (Of t) = Some t
type_in Number = None

-- the type of a value
abbrev pub type_of : Option Kind → Option Ty
type_of k = given k type_in

abbrev pub if_so : {X : Type 0} → Bool → X → Option X
if_so b x = if b then Some x else None

-- values of these types, one for one
abbrev pub are_of : List Part → List (Option Kind) → Bool
are_of [] [] = true
are_of [] (k ∷ ks) = false
are_of (p ∷ ps) [] = false
are_of (p ∷ ps) (k ∷ ks) = is_of p.ty k && are_of ps ks

abbrev pub fields_in : Tables → Ty-F Ty → Option (List Part)
fields_in t (Ty-F.Rec r) = option_map (λ d. d.fields) (slice_get t.records r)
fields_in t _ = None

-- the fields of a record type
abbrev pub fields_of : Tables → Ty → Option (List Part)
fields_of t r = fields_in t (out-Ty r)

abbrev pub field_of : Tables → Ty → ℕ → Option Ty
field_of t r i = given (fields_of t r) (λ fields. option_map (λ p. p.ty) (slice_get fields i))

-- the type at the end of a path of fields
abbrev pub type_at : Tables → Ty → List ℕ → Option Ty
type_at t r [] = Some r
type_at t r (i ∷ is) = given (field_of t r i) (λ u. type_at t u is)

-- a field that is set, by its number, and the kind of its new value
abbrev pub Set : Type 0
Set = ℕ × Option Kind

abbrev pub is_named : ℕ → List Set → Bool
is_named i [] = false
is_named i (s ∷ ss) = (s.0 == i) || is_named i ss

-- each field once, each to a value of its type
abbrev pub are_sets : Tables → Ty → List Set → Bool
are_sets t r [] = true
are_sets t r (s ∷ ss) = is_set (field_of t r s.0) && (not (is_named s.0 ss) && are_sets t r ss)
  where
    is_set : Option Ty → Bool
    is_set (Some u) = is_of u s.1
    is_set None = false

abbrev pub payload_in : Ty-F Ty → Option Ty
payload_in (Ty-F.Option inner) = Some inner
payload_in _ = None

-- the type of the payload of an option
abbrev pub payload_of : Ty → Option Ty
payload_of t = payload_in (out-Ty t)

abbrev pub is_key : Option Ty → Option (Option Kind) → Bool
is_key None None = true
is_key None (Some k) = false
is_key (Some t) None = false
is_key (Some t) (Some k) = is_of t k

abbrev pub same_type : Option Ty → Option Ty → Bool
same_type (Some t) (Some u) = same_ty t u
same_type _ _ = false

-- two values of one type, or two integer expressions; only these have an order
abbrev pub are_comparable : Op → Option Kind → Option Kind → Bool
are_comparable op.Eq left right = (is_integer left && is_integer right) || same_type (type_of left) (type_of right)
are_comparable op.Ne left right = (is_integer left && is_integer right) || same_type (type_of left) (type_of right)
are_comparable _ left right = is_integer left && is_integer right

-- an option with this payload: it is a type in use too
abbrev pub option_kind : Tables → Ty → Option Kind
option_kind t payload = if_so (is_type_in_use t (ty.Option payload)) (Of (ty.Option payload))

abbrev pub kind_step : Scope → Expr-F (Option Kind) Set → Option Kind
kind_step s (Expr-F.Num n) = if_so (is_number n) Number
kind_step s (Expr-F.Tag e i) = given (slice_get s.tables.enums e) (λ d. if_so (ltb i (length d.variants))
    (Of (ty.Enum e)))
kind_step s (Expr-F.Local i) = option_map Of (slice_get s.locals i)
kind_step s (Expr-F.Cell state key) = given (slice_get s.tables.states state)
    (λ d. if_so (is_key d.key key) (Of d.value))
kind_step s (Expr-F.Fields e path) = given (type_of e) (λ t. if ltb 0 (length path) then option_map Of
    (type_at s.tables t path) else None)
kind_step s (Expr-F.With e sets) = given (type_of e) (λ t. if_so (ltb 0 (length sets) && are_sets s.tables t sets)
    (Of t))
kind_step s (Expr-F.Make r parts) = given (slice_get s.tables.records r) (λ d. if_so (are_of d.fields parts)
    (Of (ty.Rec r)))
kind_step s (Expr-F.NoneOf t) = option_kind s.tables t
kind_step s (Expr-F.SomeOf e) = given (type_of e) (option_kind s.tables)
kind_step s (Expr-F.Shift e by) = if_so (is_integer e && is_number by) Number
kind_step s (Expr-F.Into i e) = if_so (ltb i (length s.tables.ints) && is_integer e) (Of (ty.Int i))
kind_step s (Expr-F.Compare o left right) = if_so (are_comparable o left right) (Of bool_ty)
kind_step s (Expr-F.All es) = if_so (leb 2 (length es) && list_all is_bool es) (Of bool_ty)
kind_step s (Expr-F.Any es) = if_so (leb 2 (length es) && list_all is_bool es) (Of bool_ty)
kind_step s (Expr-F.Not e) = if_so (is_bool e) (Of bool_ty)
kind_step s (Expr-F.Apply f args) = if ltb f s.funs then given (slice_get s.tables.funs f)
    (λ d. if_so (are_of d.params args) (Of d.reply)) else None

abbrev pub set_step : SetField-F (Option Kind) Set → Set
set_step x = (x.field, x.value)

abbrev pub kind_of : Scope → Expr → Option Kind
kind_of s = fold-Expr (Option Kind) Set (kind_step s) set_step
