-- Which symbols were asked for, and how what was made for them is found.
use Rattle.std.specs.Prelude.{◌≡◌, ◌≢◌, ◌<◌, ◌≤◌, ◌+◌, ◌-◌, ◌*◌, ◌==◌, ℕ, if◌then◌else◌, List, [], ◌∷◌, length}
use Rattle.std.specs.Prelude.{slice_get, slice_index_or, Some}
use Rattle.cm_term.specs.declared.symbol.Root.{Root}
use Rattle.cm_term.specs.declared.symbol.Root.TheVariants as root
use Rattle.cm_term.specs.declared.term.Term.{Term}
use Rattle.cm_term.specs.Valuation.{Var, OfElement, OfNumber, OfTag, OfOption}
use Rattle.cm_ctx.specs.declared.piece.Counts.{Counts}
use Rattle.cm_ctx.specs.declared.piece.Piece.{Piece}
use Rattle.cm_ctx.specs.Making.{counted}
use Rattle.cm_ctx.specs.Contexts.{payloads_in, payloads_of}

-- this was made for a symbol
abbrev pub IsAmong : List Piece → Piece → Type 0
IsAmong ps p = (k : ℕ) × (slice_get ps k ≡ Some p)

-- the symbol of this root wasn't asked for
abbrev pub IsNew : List Piece → Root → Type 0
IsNew ps r = (p : Piece) → IsAmong ps p → p.root ≢ r

-- the term of an option's payload
pub record IsPayload (ps : List Piece) (o : ℕ) (t : Term) : Type 0 where
  pub piece : Piece
  pub among : IsAmong ps piece
  pub place : ℕ
  pub here : slice_get (payloads_in piece.variables.options) place ≡ Some t
  pub number : o ≡ piece.from.options + place

-- pieces whose variables stand one behind another, from so many on to so many
abbrev pub InRow : Counts → List Piece → Counts → Type 0
InRow from [] end = from ≡ end
InRow from (p ∷ ps) end = (p.from ≡ from) × InRow (counted from p.variables) ps end

-- a variable was made for the piece's symbol
abbrev pub Owns : Piece → Var → Type 0
Owns p (OfElement x) = (p.from.elements ≤ x) × (x < p.from.elements + length p.variables.elements)
Owns p (OfNumber x) = (p.from.numbers ≤ x) × (x < p.from.numbers + length p.variables.numbers)
Owns p (OfTag x) = (p.from.tags ≤ x) × (x < p.from.tags + length p.variables.tags)
Owns p (OfOption x) = (p.from.options ≤ x) × (x < p.from.options + length p.variables.options)

-- another number for each root
abbrev pub number_of : Root → ℕ
number_of (root.A i) = 3 * i
number_of (root.B i) = 3 * i + 1
number_of (root.Cell i) = 3 * i + 2

-- the table with a number in one place
abbrev pub with_number : List ℕ → ℕ → ℕ → ℕ → ℕ
with_number ns place m n = if n == place then m else slice_index_or ns n 0

-- the payload of option o stands in the k-th piece
pub record StandsIn (ps : List Piece) (k o : ℕ) (p : Piece) : Type 0 where
  pub there : slice_get ps k ≡ Some p
  pub from : p.from.options ≤ o
  pub within : o - p.from.options < length p.variables.options
  pub payload : slice_get (payloads_in p.variables.options) (o - p.from.options) ≡ slice_get (payloads_of ps) o

pub record IsIndexed (ps : List Piece) (options roots : List ℕ) : Type 0 where
  pub as_many : length options ≡ length (payloads_of ps)
  pub each_option : (o : ℕ) → o < length (payloads_of ps) → (p : Piece) × StandsIn ps (slice_index_or options o 0) o p
  -- one more than the number of the root's piece
  pub each_root : (k : ℕ) (p : Piece) → slice_get ps k ≡ Some p → slice_index_or roots (number_of p.root) 0 ≡ k + 1
