-- What each variable stands for.
use Rattle.std.specs.Prelude.{◌≡◌, ℕ, ℤ, List}
use Rattle.std.specs.List.{AllByRecursion}
use Rattle.cm_value.specs.declared.value.Value.{Value}

pub record Valuation : Type 0 where
  -- of each variable of a sort, an element
  pub element : ℕ → ℕ
  -- of each variable of an integer type, a number
  pub number : ℕ → ℤ
  -- of each variable of an enum, a variant
  pub tag : ℕ → ℕ
  -- of each option, 0 none and 1 some
  pub present : ℕ → ℕ
  -- the payload of each option, whether it is there or not
  pub payload : ℕ → Value

abbrev pub valuation : (ℕ → ℕ) → (ℕ → ℤ) → (ℕ → ℕ) → (ℕ → ℕ) → (ℕ → Value) → Valuation
valuation e n t p f = record { element = e; number = n; tag = t; present = p; payload = f }

-- a variable, with its kind
pub data Var : Type 0 where
  OfElement : ℕ → Var
  OfNumber : ℕ → Var
  OfTag : ℕ → Var
  OfOption : ℕ → Var

-- two valuations give a variable the same
abbrev pub Agree : Valuation → Valuation → Var → Type 0
Agree v w (OfElement x) = v.element x ≡ w.element x
Agree v w (OfNumber x) = v.number x ≡ w.number x
Agree v w (OfTag x) = v.tag x ≡ w.tag x
Agree v w (OfOption o) = (v.present o ≡ w.present o) × (v.payload o ≡ w.payload o)

-- and each of these variables
abbrev pub AgreeOn : Valuation → Valuation → List Var → Type 0
AgreeOn v w = AllByRecursion (Agree v w)
