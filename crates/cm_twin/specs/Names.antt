-- Values whose elements have other names, sort by sort.
use Rattle.std.specs.Prelude.{◌≡◌, ℕ, ◌==◌, if◌then◌else◌, slice_get, Option, Some, None, option_map}
use Rattle.cm_model.specs.Tables.{Tables}
use Rattle.cm_model.specs.Kinds.{given}
use Rattle.cm_model.specs.declared.ty.Ty.{Ty, out-Ty}
use Rattle.cm_model.specs.declared.ty.Ty.TheOpen.{Ty-F}
use Rattle.cm_value.specs.declared.value.Swap.{Swap}
use Rattle.cm_value.specs.declared.value.Value.{Value}
use Rattle.cm_value.specs.declared.value.Value.TheVariants as value
use Rattle.cm_value.specs.declared.value.Value.TheOpen.{Value-F}
use Rattle.cm_value.specs.declared.value.Value.TheFolds.{fold-Value}
use Rattle.cm_value.specs.Relabelling.{Relabel, each_relabelled, types_of_fields, type_of_payload, swapped}
use Rattle.cm_eval.specs.declared.log.CellName.{CellName}

-- of a sort, another name for each element
abbrev pub Naming : Type 0
Naming = ℕ → ℕ → ℕ

-- new names, and the old ones for the new
pub record Names : Type 0 where
  pub there : Naming
  pub back : Naming

abbrev pub name_form : Naming → Ty-F Ty → ℕ → ℕ
name_form f (Ty-F.Sort s) n = f s n
name_form f _ n = n

-- what is of no type keeps its name
abbrev pub name_in : Naming → Option Ty → ℕ → ℕ
name_in f (Some ty) n = name_form f (out-Ty ty) n
name_in f None n = n

abbrev pub named_step : Tables → Naming → Value-F Relabel → Relabel
named_step t f (Value-F.Elem n) ty = value.Elem (name_in f ty n)
named_step t f (Value-F.Int n) ty = value.Int n
named_step t f (Value-F.Tag n) ty = value.Tag n
named_step t f (Value-F.Rec ms) ty = value.Rec (each_relabelled ms (types_of_fields t ty))
named_step t f Value-F.None ty = value.None
named_step t f (Value-F.Some m) ty = value.Some (m (type_of_payload ty))

-- a value with other names, by its type or where it has none
abbrev pub named : Tables → Naming → Value → Relabel
named t f = fold-Value Relabel (named_step t f)

-- two values that differ in names alone: the second is the first with the new names, and the first the second with
-- the old ones
abbrev pub AreTwins : Tables → Names → Option Ty → Value → Value → Type 0
AreTwins t names ty v w = (named t names.there v ty ≡ w) × (named t names.back w ty ≡ v)

-- the type of a state's values, and of its keys
abbrev pub value_type : Tables → ℕ → Option Ty
value_type t s = option_map (λ d. d.value) (slice_get t.states s)

abbrev pub key_type : Tables → ℕ → Option Ty
key_type t s = given (slice_get t.states s) (λ d. d.key)

abbrev pub cell_named : Tables → Naming → CellName → CellName
cell_named t f c = record { state = c.state; key = option_map (λ v. named t f v (key_type t c.state)) c.key }

-- two cells that differ in the names of their key alone
abbrev pub AreTwinCells : Tables → Names → CellName → CellName → Type 0
AreTwinCells t names c d = (cell_named t names.there c ≡ d) × (cell_named t names.back d ≡ c)

-- of one sort, x for y and y for x
abbrev pub exchange : Swap → Naming
exchange by s n = if s == by.sort then swapped by.x by.y n else n

abbrev pub exchanged : Swap → Names
exchanged by = record { there = exchange by; back = exchange by }
