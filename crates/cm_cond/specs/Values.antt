-- What symbols name on a world.
use Rattle.std.specs.Prelude.{ℕ, ℤ, ◌+ℤ◌, Bool, true, false, List, Option, Some, None}
use Rattle.cm_value.specs.declared.value.Value.{Value, out-Value}
use Rattle.cm_value.specs.declared.value.Value.TheOpen.{Value-F}
use Rattle.cm_term.specs.declared.symbol.Sym.{Sym}
use Rattle.cm_term.specs.Symbols.{Roots, symbol_value}
use Rattle.cm_world.specs.declared.world.World.{World}

-- a world's arguments, and the initial values of cells whose keys have values
abbrev pub roots_on : World → List (Option Value) → Roots
roots_on w cells = record { a = w.a.vals; b = w.b.vals; cells = cells }

abbrev pub element_in : Value-F Value → Option ℕ
element_in (Value-F.Elem n) = Some n
element_in _ = None

abbrev pub number_in : Value-F Value → Option ℤ
number_in (Value-F.Int n) = Some n
number_in _ = None

abbrev pub variant_in : Value-F Value → Option ℕ
variant_in (Value-F.Tag n) = Some n
variant_in _ = None

-- whether an option has a payload
abbrev pub presence_in : Value-F Value → Option Bool
presence_in Value-F.None = Some false
presence_in (Value-F.Some v) = Some true
presence_in _ = None

abbrev pub read : {X : Type 0} → (Value-F Value → Option X) → Option Value → Option X
read f (Some v) = f (out-Value v)
read f None = None

-- the element, number or variant that a symbol names, and whether the option that it names has a payload
abbrev pub element_of : Roots → Sym → Option ℕ
element_of r x = read element_in (symbol_value r x)

abbrev pub number_of : Roots → Sym → Option ℤ
number_of r x = read number_in (symbol_value r x)

abbrev pub variant_of : Roots → Sym → Option ℕ
variant_of r x = read variant_in (symbol_value r x)

abbrev pub presence_of : Roots → Sym → Option Bool
presence_of r x = read presence_in (symbol_value r x)

-- a number that is so much more
abbrev pub raised : Option ℤ → ℤ → Option ℤ
raised (Some n) k = Some (n +ℤ k)
raised None k = None
