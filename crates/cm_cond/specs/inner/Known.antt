-- What keys are valued by, and what comes of it.
use Rattle.std.specs.Prelude.{◌≡◌, ◌<◌, ℕ, ℤ, int_le, Bool, true, false, ◌&&◌, List, map, length, Option, Some, None, if◌then◌else◌}
use Rattle.cm_model.specs.Tables.{Tables}
use Rattle.cm_model.specs.declared.ty.IntDecl.{IntDecl}
use Rattle.cm_value.specs.declared.value.Value.{Value}
use Rattle.cm_value.specs.declared.value.Value.TheVariants as value
use Rattle.cm_value.specs.Membership.{is_within}
use Rattle.cm_eval.specs.declared.log.CellName.{CellName}
use Rattle.cm_eval.specs.Evaluation.{named}
use Rattle.cm_eval.specs.State.{look_up}
use Rattle.cm_term.specs.Symbols.{Roots}
use Rattle.cm_world.specs.declared.world.World.{World}
use Rattle.cm_cond.specs.declared.key.Known.{Known}
use Rattle.cm_cond.specs.declared.cell.KeyTerm.{KeyTerm}
use Rattle.cm_cond.specs.Values.{roots_on}
use Rattle.cm_cond.specs.Keys.{KeyValue, key_value, and_then}

abbrev pub roots_of : Known → Roots
roots_of k = roots_on k.world.now k.cells.now

abbrev pub key_values : Known → List KeyTerm → List KeyValue
key_values k = map (key_value k.model.now (roots_of k))

abbrev pub value_from : ℤ → ℤ → ℤ → Option Value
value_from lo hi n = if int_le lo n && int_le n hi then Some (value.Int n) else None

-- the number as a value of an integer type
abbrev pub value_within : Option IntDecl → ℤ → Option Value
value_within o n = if is_within o n then Some (value.Int n) else None

abbrev pub record_of : Option (List Value) → Option Value
record_of o = and_then o (λ vs. Some (value.Rec vs))

abbrev pub keyed : ℕ → Option Value → Option CellName
keyed s o = and_then o (λ v. Some (named s (Some v)))

abbrev pub IsOfState : ℕ → Option CellName → Type 0
IsOfState s (Some c) = c.state ≡ s
IsOfState s None = Unit {0}

-- of a state that the model declares
abbrev pub IsDeclared : Tables → Option CellName → Type 0
IsDeclared t (Some c) = c.state < length t.states
IsDeclared t None = Unit {0}

-- there exactly where the cell is, and what it holds in the initial state
abbrev pub IsCellValue : World → Option CellName → Option Value → Type 0
IsCellValue w (Some c) o = (v : Value) × (o ≡ Some v) × (look_up w.init c ≡ Some v)
IsCellValue w None o = o ≡ None
