-- Types and kinds while a tree is checked, each absent where a rule took it. A rule that needs an absent one holds.
use Rattle.std.specs.Prelude.{ℕ, zero, suc, ◌+◌, ◌-◌, ◌==◌, nat_lt, leb, Bool, true, false, not, ◌&&◌, ◌||◌, List, []}
use Rattle.std.specs.Prelude.{◌∷◌, map, sum, Option, Some, None}
use Rattle.std.specs.List.{list_any}
use Rattle.std.specs.Option.{option_map}
use Rattle.cm_model.specs.Limits.{width_limit, integer_limit, parameters_width_limit, parameters_integer_limit}
use Rattle.cm_model.specs.declared.place.Place.{Place}
use Rattle.cm_model.specs.declared.ty.Ty.{Ty}
use Rattle.cm_model.specs.declared.ty.Ty.TheVariants as ty
use Rattle.cm_typing.specs.declared.flat.Base.{Base}
use Rattle.cm_typing.specs.declared.flat.Base.TheVariants.{Sort, Int, Enum, Record}
use Rattle.cm_typing.specs.declared.flat.Flat.{Flat}
use Rattle.cm_typing.specs.declared.flat.Kind.{Kind}
use Rattle.cm_typing.specs.declared.flat.Kind.TheVariants.{Number, Of}
use Rattle.cm_typing.specs.Told.{Told, fine, given, rule, refused}
use Rattle.cm_typing.specs.Rules as rules

-- a type of width 1 with so many integers
abbrev pub plain : Base → ℕ → Flat
plain b n = record { base = b; options = 0; width = 1; integers = n; optional = false }

abbrev pub sort_flat : ℕ → Flat
sort_flat s = plain (Sort s) 0

abbrev pub int_flat : ℕ → Flat
int_flat i = plain (Int i) 1

abbrev pub enum_flat : ℕ → Flat
enum_flat e = plain (Enum e) 0

-- enum 0
abbrev pub bool_flat : Flat
bool_flat = enum_flat 0

abbrev pub width_of : Flat → ℕ
width_of t = t.width + t.options

abbrev pub holds_option : Flat → Bool
holds_option t = t.optional || nat_lt 0 t.options

abbrev pub same_base : Base → Base → Bool
same_base (Sort m) (Sort n) = m == n
same_base (Int m) (Int n) = m == n
same_base (Enum m) (Enum n) = m == n
same_base (Record m) (Record n) = m == n
same_base _ _ = false

-- one type; what is measured of a base goes with it
abbrev pub same_flat : Flat → Flat → Bool
same_flat t u = same_base t.base u.base && (t.options == u.options)

abbrev pub is_int_base : Base → Bool
is_int_base (Int i) = true
is_int_base _ = false

abbrev pub is_integer_flat : Flat → Bool
is_integer_flat t = is_int_base t.base && (t.options == 0)

abbrev pub kind_of : Option Flat → Option Kind
kind_of None = None
kind_of (Some t) = Some (Of t)

-- the type of a value
abbrev pub value_of : Option Kind → Option Flat
value_of (Some (Of t)) = Some t
value_of _ = None

abbrev pub bool_kind : Option Kind
bool_kind = Some (Of bool_flat)

-- a value, where the kind is there
abbrev pub is_value : Option Kind → Bool
is_value None = true
is_value (Some Number) = false
is_value (Some (Of t)) = true

-- of the wanted type, where both are there; that a number is no value is a rule of its own
abbrev pub agree : Option Flat → Option Kind → Bool
agree None k = true
agree (Some t) None = true
agree (Some t) (Some Number) = true
agree (Some t) (Some (Of u)) = same_flat t u

abbrev pub is_bool : Option Kind → Bool
is_bool None = true
is_bool (Some Number) = false
is_bool (Some (Of t)) = same_flat bool_flat t

-- an integer expression: a number, or a value of an integer type
abbrev pub is_integer : Option Kind → Bool
is_integer None = true
is_integer (Some Number) = true
is_integer (Some (Of t)) = is_integer_flat t

abbrev pub are_equal_flats : Flat → Flat → Bool
are_equal_flats t u = same_flat t u || (is_integer_flat t && is_integer_flat u)

-- two values of one type, or two integer expressions
abbrev pub are_equal_kinds : Option Kind → Option Kind → Bool
are_equal_kinds None k = true
are_equal_kinds (Some Number) k = is_integer k
are_equal_kinds (Some (Of t)) None = true
are_equal_kinds (Some (Of t)) (Some Number) = is_integer_flat t
are_equal_kinds (Some (Of t)) (Some (Of u)) = are_equal_flats t u

-- a value of the wanted type
abbrev pub wanted : Option Flat → Place → Option Kind → Told (Unit {0})
wanted want at k = given (rule (is_value k) rules.number at) (λ u. rule (agree want k) rules.types at)

-- what a type in use may be
abbrev pub is_small : ℕ → ℕ → Bool
is_small width integers = leb width width_limit && leb integers integer_limit

abbrev pub option_flat : Flat → Flat
option_flat t = record t { options = t.options + 1 }

-- the option of a type
abbrev pub option_of : Place → Option Flat → Told (Option Flat)
option_of at None = fine None
option_of at (Some t) = given (rule (is_small (width_of t + 1) t.integers) rules.wide at) (λ u.
    fine (Some (option_flat t)))

-- the payload of an option
abbrev pub payload_of : Place → Option Kind → Told (Option Flat)
payload_of at None = fine None
payload_of at (Some Number) = refused None rules.option at
payload_of at (Some (Of t)) = given (rule (nat_lt 0 t.options) rules.option at) (λ u.
    fine (Some (record t { options = t.options - 1 })))

-- no option in a key
abbrev pub is_key : Option Flat → Bool
is_key None = true
is_key (Some t) = not (holds_option t)

-- Several types together

abbrev pub width_in : Option Flat → ℕ
width_in None = 0
width_in (Some t) = width_of t

abbrev pub integers_in : Option Flat → ℕ
integers_in None = 0
integers_in (Some t) = t.integers

abbrev pub option_in : Option Flat → Bool
option_in None = false
option_in (Some t) = holds_option t

abbrev pub any_option : List (Option Flat) → Bool
any_option types = list_any option_in types

abbrev pub widths_of : List (Option Flat) → ℕ
widths_of types = sum (map width_in types)

abbrev pub integers_of : List (Option Flat) → ℕ
integers_of types = sum (map integers_in types)

abbrev pub are_parameters : List (Option Flat) → Bool
are_parameters types = leb (widths_of types) parameters_width_limit && leb (integers_of types) parameters_integer_limit

abbrev pub record_flat : ℕ → List (Option Flat) → Flat
record_flat r types =
    record {
      base = Record r;
      options = 0;
      width = widths_of types + 1;
      integers = integers_of types;
      optional =
          any_option types;
    }

-- a record with fields of these types
abbrev pub record_of : Place → ℕ → List (Option Flat) → Told (Option Flat)
record_of at r types = given (rule (is_small (widths_of types + 1) (integers_of types)) rules.wide at) (λ u.
    fine (Some (record_flat r types)))

-- Types of tables

abbrev pub innermost : Base → Ty
innermost (Sort n) = ty.Sort n
innermost (Int n) = ty.Int n
innermost (Enum n) = ty.Enum n
innermost (Record n) = ty.Rec n

-- so many options around a type
abbrev pub around : ℕ → Ty → Ty
around zero t = t
around (suc n) t = ty.Option (around n t)

abbrev pub ty_of_flat : Flat → Ty
ty_of_flat t = around t.options (innermost t.base)

-- what a table has of a type; an absent one counts for nothing
abbrev pub ty_of : Option Flat → Ty
ty_of None = ty.Enum 0
ty_of (Some t) = ty_of_flat t
