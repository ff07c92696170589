-- Worked texts and their tokens.
use Rattle.std.specs.Prelude.{◌≡◌, ℕ, List, [], ◌∷◌, ◌++◌, map, codes}
use Rattle.cm_model.specs.Names as names
use Rattle.cm_tokens.specs.Listing.{tokens_of}
use Rattle.cm_tokens.specs.Spellings.{reserved_words}
use Rattle.cm_tokens.specs.declared.token.Token.{Token}
use Rattle.cm_tokens.specs.declared.token.Token.TheVariants as token
use Rattle.cm_tokens.specs.declared.token.Placed.{Placed}

abbrev pub placed : ℕ → ℕ → Token → Placed
placed line col t = record { token = t; at = record { line = line; col = col } }

abbrev pub name : List ℕ → Token
name text = token.Name text

-- the longer mark is taken
abbrev pub Dots : Type 0
Dots = tokens_of (codes "a.b..c->")
    ≡ placed 1 1 (name (codes "a"))
    ∷ placed 1 2 token.Dot
    ∷ placed 1 3 (name (codes "b"))
    ∷ placed 1 4 token.DotDot
    ∷ placed 1 6 (name (codes "c"))
    ∷ placed 1 7 token.Arrow
    ∷ placed 1 9 token.End
    ∷ []

-- the reserved words are those that no name of a model is
abbrev pub SameWords : Type 0
SameWords = map (λ w. w.0) reserved_words ≡ names.reserved_words

-- a word is reserved as a whole run, and a run begins with a letter
abbrev pub Words : Type 0
Words = tokens_of (codes "if iff _x")
    ≡ placed 1 1 token.If
    ∷ placed 1 4 (name (codes "iff"))
    ∷ placed 1 8 token.Foreign
    ∷ placed 1 9 (name (codes "x"))
    ∷ placed 1 10 token.End
    ∷ []

abbrev pub Numerals : Type 0
Numerals = tokens_of (codes "0 00 12ab 1234567 12345678")
    ≡ placed 1 1 (token.Number 0)
    ∷ placed 1 3 token.Foreign
    ∷ placed 1 6 (token.Number 12)
    ∷ placed 1 8 (name (codes "ab"))
    ∷ placed 1 11 (token.Number 1234567)
    ∷ placed 1 19 token.Foreign
    ∷ placed 1 27 token.End
    ∷ []

-- a comment may hold any bytes; the newline behind it begins a line, and a lone `/` is no comment
abbrev pub Comments : Type 0
Comments = tokens_of (codes "a//" ++ 255 ∷ 10 ∷ 9 ∷ codes "b/ //" ++ [])
    ≡ placed 1 1 (name (codes "a"))
    ∷ placed 2 2 (name (codes "b"))
    ∷ placed 2 3 token.Foreign
    ∷ placed 2 7 token.End
    ∷ []
