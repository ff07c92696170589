-- The value of a symbol on arguments and on the initial values of cells.
use Rattle.std.specs.Prelude.{ℕ, List, [], ◌∷◌, slice_get, Option, Some, None}
use Rattle.cm_value.specs.declared.value.Value.{Value, out-Value}
use Rattle.cm_value.specs.declared.value.Value.TheOpen.{Value-F}
use Rattle.cm_term.specs.declared.symbol.Step.{Step}
use Rattle.cm_term.specs.declared.symbol.Step.TheVariants as step
use Rattle.cm_term.specs.declared.symbol.Root.{Root}
use Rattle.cm_term.specs.declared.symbol.Root.TheVariants as root
use Rattle.cm_term.specs.declared.symbol.Sym.{Sym}

-- how many steps of a path stand in place
abbrev pub steps_in_place : ℕ
steps_in_place = 8

abbrev pub field_in : ℕ → Value-F Value → Option Value
field_in i (Value-F.Rec vs) = slice_get vs i
field_in i _ = None

abbrev pub payload_in : Value-F Value → Option Value
payload_in (Value-F.Some v) = Some v
payload_in _ = None

-- the part of a value, if it is there: the payload of a none is not
abbrev pub part_in : Step → Value → Option Value
part_in (step.Field i) v = field_in i (out-Value v)
part_in step.Payload v = payload_in (out-Value v)

-- the value at the end of a path
abbrev pub followed : List Step → Option Value → Option Value
followed [] o = o
followed (s ∷ ss) (Some v) = followed ss (part_in s v)
followed (s ∷ ss) None = None

-- the value that there is, if any
abbrev pub joined : Option (Option Value) → Option Value
joined (Some o) = o
joined None = None

-- the arguments of a, those of b, and the initial value of each cell whose key has a value
pub record Roots : Type 0 where
  pub a : List Value
  pub b : List Value
  pub cells : List (Option Value)

abbrev pub root_value : Roots → Root → Option Value
root_value r (root.A i) = slice_get r.a i
root_value r (root.B i) = slice_get r.b i
root_value r (root.Cell i) = joined (slice_get r.cells i)

-- the value of a symbol, if it has one
abbrev pub symbol_value : Roots → Sym → Option Value
symbol_value r s = followed s.path (root_value r s.root)
