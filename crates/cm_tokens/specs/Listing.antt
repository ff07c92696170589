-- The tokens of a text, each with its place.
use Rattle.std.specs.Prelude.{◌≡◌, ◌≢◌, if◌then◌else◌, nat_lt, ℕ, zero, suc, ◌+◌, List, [], ◌∷◌, drop, length}
use Rattle.cm_text.specs.Place.{place_in}
use Rattle.cm_tokens.specs.First.{first_token}
use Rattle.cm_tokens.specs.Gap.{gap_of}
use Rattle.cm_tokens.specs.declared.token.Placed.{Placed}
use Rattle.cm_tokens.specs.declared.token.Token.TheVariants as token

-- the tokens behind so many bytes of the text, with the end as the last, but no more than the first number
unfoldable pub tokens_within : ℕ → List ℕ → ℕ → List Placed
tokens_within zero text behind = []
tokens_within (suc more) text behind =
    let at = behind + gap_of (drop behind text) in
    let first = first_token (drop at text) in
    record { token = first.0; at = place_in text at } ∷ (if nat_lt at (length text) then tokens_within
    more text (at + first.1) else [])

-- all of them: each token but the end takes a byte
unfoldable pub tokens_behind : List ℕ → ℕ → List Placed
tokens_behind text behind = tokens_within (suc (length text)) text behind

-- the tokens of a text
unfoldable pub tokens_of : List ℕ → List Placed
tokens_of text = tokens_behind text 0

-- the end is the last token, and only the last
abbrev pub EndsOnce : List Placed → Type 0
EndsOnce [] = ⊥
EndsOnce (p ∷ []) = p.token ≡ token.End
EndsOnce (p ∷ q ∷ rest) = (p.token ≢ token.End) × EndsOnce (q ∷ rest)

abbrev pub TokensEndOnce : Type 0
TokensEndOnce = (text : List ℕ) → EndsOnce (tokens_of text)
