-- How a context is kept.
use Rattle.std.specs.Prelude.{◌≡◌, ◌<◌, ℕ, ℤ, List, length, slice_get, Some}
use Rattle.cm_sorts.specs.Partition as sorts
use Rattle.cm_order.specs.Differences as order
use Rattle.cm_value.specs.declared.value.Value.{Value}
use Rattle.cm_term.specs.declared.term.Term.{Term}
use Rattle.cm_term.specs.Valuation.{valuation}
use Rattle.cm_term.specs.Terms.{value_of}
use Rattle.cm_ctx.specs.declared.piece.Counts.{Counts}
use Rattle.cm_ctx.specs.Choices.{AreChoices}
use Rattle.cm_ctx.specs.Making.{first_counts}
use Rattle.cm_ctx.specs.Asking.{InRow}
use Rattle.cm_ctx.specs.Contexts.{Context, counts_of, payloads_of, sorts_of}

-- the value of a term rests on no payload but those of the options below k
abbrev pub IsEarlier : ℕ → Term → Type 0
IsEarlier k u = (e : ℕ → ℕ) (n : ℕ → ℤ) (t p : ℕ → ℕ) (f g : ℕ → Value) → ((o : ℕ) → o < k → f o ≡ g o)
    → value_of (valuation e n t p f) u ≡ value_of (valuation e n t p g) u

-- each payload rests on the payloads before it
abbrev pub AreEarlier : List Term → Type 0
AreEarlier ts = (k : ℕ) (u : Term) → slice_get ts k ≡ Some u → IsEarlier k u

pub record IsProper (n : Counts) (c : Context) : Type 0 where
  pub counts : n ≡ counts_of c
  pub elements : sorts.IsSatisfiable c.classes
  pub numbers : order.IsSatisfiable c.bounds
  pub zero : 0 < length c.bounds
  pub tags : AreChoices c.tags
  pub options : AreChoices c.options
  pub payloads : length c.options ≡ length (payloads_of c.pieces)
  pub row : InRow first_counts c.pieces (counts_of c)
  pub earlier : AreEarlier (payloads_of c.pieces)
  pub sorts : c.classes.sorts ≡ sorts_of c.pieces
