-- The exchange of two elements of a sort wherever they stand.
use Rattle.std.specs.Prelude.{ℕ, ◌==◌, Bool, false, not, ◌&&◌, ◌||◌, IsTrue, List, [], ◌∷◌, slice_get, Option, Some}
use Rattle.std.specs.Prelude.{None, if◌then◌else◌}
use Rattle.cm_model.specs.Tables.{Tables}
use Rattle.cm_model.specs.declared.ty.Ty.{Ty, out-Ty}
use Rattle.cm_model.specs.declared.ty.Ty.TheOpen.{Ty-F}
use Rattle.cm_model.specs.declared.ty.RecDecl.{RecDecl}
use Rattle.cm_value.specs.Membership.{field_types}
use Rattle.cm_value.specs.declared.value.Swap.{Swap}
use Rattle.cm_value.specs.declared.value.Value.{Value}
use Rattle.cm_value.specs.declared.value.Value.TheVariants as value
use Rattle.cm_value.specs.declared.value.Value.TheOpen.{Value-F}
use Rattle.cm_value.specs.declared.value.Value.TheFolds.{fold-Value}

-- x for y and y for x
abbrev pub swapped : ℕ → ℕ → ℕ → ℕ
swapped x y n = if n == x then y else if n == y then x else n

-- what becomes of a value by its type, or where it has none
abbrev pub Relabel : Type 0
Relabel = Option Ty → Value

abbrev pub is_sort_form : ℕ → Ty-F Ty → Bool
is_sort_form s (Ty-F.Sort r) = r == s
is_sort_form s _ = false

abbrev pub is_of_sort : ℕ → Option Ty → Bool
is_of_sort s (Some ty) = is_sort_form s (out-Ty ty)
is_of_sort s None = false

abbrev pub types_in : Option RecDecl → List Ty
types_in (Some d) = field_types d
types_in None = []

abbrev pub types_form : Tables → Ty-F Ty → List Ty
types_form t (Ty-F.Rec r) = types_in (slice_get t.records r)
types_form t _ = []

-- the types of the fields
abbrev pub types_of_fields : Tables → Option Ty → List Ty
types_of_fields t (Some ty) = types_form t (out-Ty ty)
types_of_fields t None = []

abbrev pub payload_form : Ty-F Ty → Option Ty
payload_form (Ty-F.Option payload) = Some payload
payload_form _ = None

-- the type of the payload
abbrev pub type_of_payload : Option Ty → Option Ty
type_of_payload (Some ty) = payload_form (out-Ty ty)
type_of_payload None = None

-- each by its type
abbrev pub each_relabelled : List Relabel → List Ty → List Value
each_relabelled [] tys = []
each_relabelled (m ∷ ms) [] = m None ∷ each_relabelled ms []
each_relabelled (m ∷ ms) (ty ∷ tys) = m (Some ty) ∷ each_relabelled ms tys

abbrev pub relabel_step : Tables → Swap → Value-F Relabel → Relabel
relabel_step t by (Value-F.Elem n) ty = value.Elem (if is_of_sort by.sort ty then swapped by.x by.y n else n)
relabel_step t by (Value-F.Int n) ty = value.Int n
relabel_step t by (Value-F.Tag n) ty = value.Tag n
relabel_step t by (Value-F.Rec ms) ty = value.Rec (each_relabelled ms (types_of_fields t ty))
relabel_step t by Value-F.None ty = value.None
relabel_step t by (Value-F.Some m) ty = value.Some (m (type_of_payload ty))

abbrev pub relabel_of : Tables → Swap → Value → Relabel
relabel_of t by = fold-Value Relabel (relabel_step t by)

-- the value with the two elements exchanged
abbrev pub relabelled : Tables → Swap → Ty → Value → Value
relabelled t by ty v = relabel_of t by v (Some ty)

-- whether the element stands in a value, by its type
abbrev pub Stands : Type 0
Stands = Option Ty → Bool

abbrev pub stands_in_one : List Stands → List Ty → Bool
stands_in_one [] tys = false
stands_in_one (m ∷ ms) [] = m None || stands_in_one ms []
stands_in_one (m ∷ ms) (ty ∷ tys) = m (Some ty) || stands_in_one ms tys

abbrev pub stands_step : Tables → ℕ → ℕ → Value-F Stands → Stands
stands_step t sort x (Value-F.Elem n) ty = is_of_sort sort ty && (n == x)
stands_step t sort x (Value-F.Int n) ty = false
stands_step t sort x (Value-F.Tag n) ty = false
stands_step t sort x (Value-F.Rec ms) ty = stands_in_one ms (types_of_fields t ty)
stands_step t sort x Value-F.None ty = false
stands_step t sort x (Value-F.Some m) ty = m (type_of_payload ty)

abbrev pub stands_of : Tables → ℕ → ℕ → Value → Stands
stands_of t sort x = fold-Value Stands (stands_step t sort x)

-- the element x of the sort stands nowhere in the value
abbrev pub lacks : Tables → ℕ → ℕ → Ty → Value → Bool
lacks t sort x ty v = not (stands_of t sort x v (Some ty))

abbrev pub LacksBoth : Tables → Swap → Ty → Value → Type 0
LacksBoth t by ty v = IsTrue (lacks t by.sort by.x ty v) × IsTrue (lacks t by.sort by.y ty v)
