-- When a valuation gives the variables that were made for a symbol values of their types.
use Rattle.std.specs.Prelude.{◌≡◌, ◌<◌, ◌+◌, ◌≤ℤ◌, ℕ, List, [], ◌∷◌}
use Rattle.cm_term.specs.Valuation.{Valuation}
use Rattle.cm_term.specs.Terms.{value_of}
use Rattle.cm_ctx.specs.declared.piece.Counts.{Counts}
use Rattle.cm_ctx.specs.declared.piece.NumberPart.{NumberPart}
use Rattle.cm_ctx.specs.declared.piece.TagPart.{TagPart}
use Rattle.cm_ctx.specs.declared.piece.OptionPart.{OptionPart}
use Rattle.cm_ctx.specs.declared.piece.Variables.{Variables}

-- a fact of each item and its number, the first one's being x
abbrev pub EachFrom : {A : Type 0} → (ℕ → A → Type 0) → ℕ → List A → Type 0
EachFrom P x [] = Unit {0}
EachFrom P x (a ∷ xs) = P x a × EachFrom P (x + 1) xs

abbrev pub IsWithin : Valuation → ℕ → NumberPart → Type 0
IsWithin v x d = (d.lo ≤ℤ v.number x) × (v.number x ≤ℤ d.hi)

abbrev pub IsVariant : Valuation → ℕ → TagPart → Type 0
IsVariant v x d = v.tag x < d.variants

-- none or some; and the payload is what its term says, also of a none
abbrev pub HasPayload : Valuation → ℕ → OptionPart → Type 0
HasPayload v o d = (v.present o < 2) × (v.payload o ≡ value_of v d.payload)

-- each number lies in the range of its type, each tag is a variant of its enum, and payloads are their terms'
pub record Gives (from : Counts) (vs : Variables) (v : Valuation) : Type 0 where
  pub numbers : EachFrom (IsWithin v) from.numbers vs.numbers
  pub tags : EachFrom (IsVariant v) from.tags vs.tags
  pub options : EachFrom (HasPayload v) from.options vs.options

-- two valuations are one on the first variables
pub record Agree (below : Counts) (v w : Valuation) : Type 0 where
  pub elements : (x : ℕ) → x < below.elements → v.element x ≡ w.element x
  pub numbers : (x : ℕ) → x < below.numbers → v.number x ≡ w.number x
  pub tags : (x : ℕ) → x < below.tags → v.tag x ≡ w.tag x
  pub present : (o : ℕ) → o < below.options → v.present o ≡ w.present o
  pub payloads : (o : ℕ) → o < below.options → v.payload o ≡ w.payload o
