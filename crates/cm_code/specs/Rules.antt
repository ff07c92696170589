-- What the rules of the language ask of values and operands, and of what is done with them.
use Rattle.std.specs.Prelude.{◌≡◌, ℕ, ℤ, Bool, List, Option, Some}

-- V are the values, O what expressions give, S what is done
pub record Rules (V O S : Type 0) : Type 0 where
  -- a variant of an enum
  pub tag : ℕ → ℕ → V
  pub flag : Bool → V
  -- a record with these fields
  pub make : List V → V
  -- an option without payload, and one with it
  pub nothing : V
  pub some : V → V
  -- a field, if it is there, and the record with another value in it
  pub field : V → ℕ → Option V
  pub with_field : V → ℕ → V → Option V
  -- a value as an operand, a numeral, and an operand as a value if it is one
  pub plain : V → O
  pub number : ℤ → O
  pub value : O → Option V
  -- the operand plus a numeral, if it has a number
  pub shift : O → ℤ → Option O
  -- the run is blocked, or replies
  pub blocks : S
  pub replies : V → S
  -- whether a bool is true
  pub inspects : O → (Bool → S) → S
  -- whether two are equal
  pub compares : O → O → (Bool → S) → S
  -- 0 less, 1 equal, 2 greater
  pub orders : O → O → (ℕ → S) → S
  -- as a number between two
  pub into : ℤ → ℤ → O → (V → S) → S
  -- the payload of an option, if it has one
  pub opens : V → (Option V → S) → S
  -- a cell's value, and another value in a cell
  pub reads : ℕ → Option V → (V → S) → S
  pub writes : ℕ → Option V → V → S → S
  -- a value is the value of itself as an operand
  pub plain_value : (v : V) → value (plain v) ≡ Some v
