-- What a run on terms stands on: the variables that there are, the payloads of options, and a valuation.
use Rattle.std.specs.Prelude.{ℕ, Bool, List, Option}
use Rattle.cm_term.specs.declared.term.Term.{Term}
use Rattle.cm_term.specs.Valuation.{Valuation, Var}

pub record Grounds : Type 0 where
  -- the sort of each variable of an element
  pub sorts : List ℕ
  -- the enum of each variable of a variant
  pub enums : ℕ → Option ℕ
  -- how many variables there are of numbers, of variants and of options
  pub numbers : ℕ
  pub tags : ℕ
  pub options : ℕ
  -- the terms of the options' payloads, by the options' numbers
  pub payloads : List Term
  pub valuation : Valuation
  -- whether a variable's symbol has a value: it lies in the payload of no none
  pub has : Var → Bool
