-- The types that tables declare, and what can be counted in them.
use Rattle.std.specs.Prelude.{ℕ, ◌+◌, ◌==◌, ltb, leb, Bool, true, false, ◌&&◌, ◌||◌, List, [], ◌∷◌, ◌++◌, map, length}
use Rattle.std.specs.Prelude.{sum, take, slice_get, Option, Some, None, IsTrue}
use Rattle.std.specs.List.{list_all}
use Rattle.cm_model.specs.Limits.{width_limit, integer_limit}
use Rattle.cm_model.specs.Tables.{Tables}
use Rattle.cm_model.specs.declared.ty.Ty.{Ty, out-Ty}
use Rattle.cm_model.specs.declared.ty.Ty.TheOpen.{Ty-F}
use Rattle.cm_model.specs.declared.ty.Ty.TheFolds.{fold-Ty}
use Rattle.cm_model.specs.declared.ty.RecDecl.{RecDecl}

abbrev pub or_else : {X : Type 0} → X → Option X → X
or_else x (Some y) = y
or_else x None = x

-- a number for each record, from those of the records before it
abbrev pub record_values : {X : Type 0} → (List X → RecDecl → X) → List X → List RecDecl → List X
record_values f before [] = before
record_values f before (r ∷ rs) = record_values f (before ++ f before r ∷ []) rs

abbrev pub ty_step : Tables → ℕ → Ty-F Bool → Bool
ty_step t n (Ty-F.Sort s) = ltb s (length t.sorts)
ty_step t n (Ty-F.Int i) = ltb i (length t.ints)
ty_step t n (Ty-F.Enum e) = ltb e (length t.enums)
ty_step t n (Ty-F.Rec r) = ltb r n
ty_step t n (Ty-F.Option inner) = inner

-- a declared type, whose records are among the first n
abbrev pub is_type_before : Tables → ℕ → Ty → Bool
is_type_before t n = fold-Ty Bool (ty_step t n)

-- a declared type
abbrev pub IsType : Tables → Ty → Type 0
IsType t ty = IsTrue (is_type_before t (length t.records) ty)

abbrev pub width_step : List ℕ → Ty-F ℕ → ℕ
width_step records (Ty-F.Sort s) = 1
width_step records (Ty-F.Int i) = 1
width_step records (Ty-F.Enum e) = 1
width_step records (Ty-F.Rec r) = or_else 0 (slice_get records r)
width_step records (Ty-F.Option inner) = 1 + inner

-- how many parts a value of a type has, where records have these
abbrev pub width_in : List ℕ → Ty → ℕ
width_in records = fold-Ty ℕ (width_step records)

abbrev pub widths : List RecDecl → List ℕ
widths = record_values (λ records r. 1 + sum (map (λ p. width_in records p.ty) r.fields)) []

abbrev pub width_of : Tables → Ty → ℕ
width_of t = width_in (widths t.records)

abbrev pub integers_step : List ℕ → Ty-F ℕ → ℕ
integers_step records (Ty-F.Sort s) = 0
integers_step records (Ty-F.Int i) = 1
integers_step records (Ty-F.Enum e) = 0
integers_step records (Ty-F.Rec r) = or_else 0 (slice_get records r)
integers_step records (Ty-F.Option inner) = inner

-- how many integers a value of a type has at most, where records have these
abbrev pub integers_in : List ℕ → Ty → ℕ
integers_in records = fold-Ty ℕ (integers_step records)

abbrev pub record_integers : List RecDecl → List ℕ
record_integers = record_values (λ records r. sum (map (λ p. integers_in records p.ty) r.fields)) []

abbrev pub integers_of : Tables → Ty → ℕ
integers_of t = integers_in (record_integers t.records)

abbrev pub any_of : List Bool → Bool
any_of [] = false
any_of (b ∷ bs) = b || any_of bs

abbrev pub option_step : List Bool → Ty-F Bool → Bool
option_step records (Ty-F.Sort s) = false
option_step records (Ty-F.Int i) = false
option_step records (Ty-F.Enum e) = false
option_step records (Ty-F.Rec r) = or_else false (slice_get records r)
option_step records (Ty-F.Option inner) = true

-- whether a type holds an option, where the records that do are these
abbrev pub holds_option_in : List Bool → Ty → Bool
holds_option_in records = fold-Ty Bool (option_step records)

abbrev pub record_options : List RecDecl → List Bool
record_options = record_values (λ records r. any_of (map (λ p. holds_option_in records p.ty) r.fields)) []

abbrev pub holds_option : Tables → Ty → Bool
holds_option t = holds_option_in (record_options t.records)

-- a type in use: declared, and neither too wide nor with too many integers. Such are the types that a text
-- names, its records, and the types of its expressions; so no value is deeper than the limit on widths
abbrev pub is_type_in_use : Tables → Ty → Bool
is_type_in_use t ty = is_type_before t (length t.records) ty && (leb (width_of t ty) width_limit
    && leb (integers_of t ty) integer_limit)

abbrev pub same_step : Ty-F (Ty → Bool) → Ty-F Ty → Bool
same_step (Ty-F.Sort s) (Ty-F.Sort r) = s == r
same_step (Ty-F.Int s) (Ty-F.Int r) = s == r
same_step (Ty-F.Enum s) (Ty-F.Enum r) = s == r
same_step (Ty-F.Rec s) (Ty-F.Rec r) = s == r
same_step (Ty-F.Option inner) (Ty-F.Option other) = inner other
same_step _ _ = false

-- whether two types are one
abbrev pub same_ty : Ty → Ty → Bool
same_ty = fold-Ty (Ty → Bool) (λ x other. same_step x (out-Ty other))
