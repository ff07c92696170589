-- When a value is a value of a type.
use Rattle.std.specs.Prelude.{ℕ, ℤ, ltb, int_le, Bool, true, false, ◌&&◌, List, [], ◌∷◌, map, length, slice_get, Option}
use Rattle.std.specs.Prelude.{Some, None, IsTrue}
use Rattle.cm_model.specs.Tables.{Tables}
use Rattle.cm_model.specs.declared.ty.Ty.{Ty, out-Ty}
use Rattle.cm_model.specs.declared.ty.Ty.TheOpen.{Ty-F}
use Rattle.cm_model.specs.declared.ty.IntDecl.{IntDecl}
use Rattle.cm_model.specs.declared.ty.EnumDecl.{EnumDecl}
use Rattle.cm_model.specs.declared.ty.RecDecl.{RecDecl}
use Rattle.cm_value.specs.declared.value.Value.{Value}
use Rattle.cm_value.specs.declared.value.Value.TheOpen.{Value-F}
use Rattle.cm_value.specs.declared.value.Value.TheFolds.{fold-Value}

-- the types of which a value is
abbrev pub Member : Type 0
Member = Ty → Bool

-- an element of a sort that is declared
abbrev pub is_sort : Tables → Ty-F Ty → Bool
is_sort t (Ty-F.Sort s) = ltb s (length t.sorts)
is_sort t _ = false

abbrev pub is_within : Option IntDecl → ℤ → Bool
is_within (Some d) n = int_le d.lo n && int_le n d.hi
is_within None n = false

-- a number from the lowest to the highest
abbrev pub is_number_of : Tables → Ty-F Ty → ℤ → Bool
is_number_of t (Ty-F.Int i) n = is_within (slice_get t.ints i) n
is_number_of t _ n = false

abbrev pub has_variant : Option EnumDecl → ℕ → Bool
has_variant (Some d) n = ltb n (length d.variants)
has_variant None n = false

-- the number of a variant
abbrev pub is_variant_of : Tables → Ty-F Ty → ℕ → Bool
is_variant_of t (Ty-F.Enum e) n = has_variant (slice_get t.enums e) n
is_variant_of t _ n = false

-- one value for each type
abbrev pub are_members : List Member → List Ty → Bool
are_members [] [] = true
are_members [] (ty ∷ tys) = false
are_members (m ∷ ms) [] = false
are_members (m ∷ ms) (ty ∷ tys) = m ty && are_members ms tys

abbrev pub field_types : RecDecl → List Ty
field_types d = map (λ p. p.ty) d.fields

abbrev pub has_fields : Option RecDecl → List Member → Bool
has_fields (Some d) ms = are_members ms (field_types d)
has_fields None ms = false

-- one value for each field
abbrev pub is_record_of : Tables → Ty-F Ty → List Member → Bool
is_record_of t (Ty-F.Rec r) ms = has_fields (slice_get t.records r) ms
is_record_of t _ ms = false

abbrev pub is_none_of : Ty-F Ty → Bool
is_none_of (Ty-F.Option payload) = true
is_none_of _ = false

-- some value of the payload's type
abbrev pub is_some_of : Ty-F Ty → Member → Bool
is_some_of (Ty-F.Option payload) m = m payload
is_some_of _ m = false

abbrev pub member_step : Tables → Value-F Member → Member
member_step t (Value-F.Elem n) ty = is_sort t (out-Ty ty)
member_step t (Value-F.Int n) ty = is_number_of t (out-Ty ty) n
member_step t (Value-F.Tag n) ty = is_variant_of t (out-Ty ty) n
member_step t (Value-F.Rec ms) ty = is_record_of t (out-Ty ty) ms
member_step t Value-F.None ty = is_none_of (out-Ty ty)
member_step t (Value-F.Some m) ty = is_some_of (out-Ty ty) m

abbrev pub member_of : Tables → Value → Member
member_of t = fold-Value Member (member_step t)

-- whether a value is one of a type
abbrev pub is_value_of : Tables → Ty → Value → Bool
is_value_of t ty v = member_of t v ty

abbrev pub IsValueOf : Tables → Ty → Value → Type 0
IsValueOf t ty v = IsTrue (is_value_of t ty v)

-- whether values, as arguments or fields, are of these types, one for one
abbrev pub are_values_of : Tables → List Ty → List Value → Bool
are_values_of t tys vs = are_members (map (member_of t) vs) tys
