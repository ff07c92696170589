-- Which tree a text has, and where a text without one goes wrong.
use Rattle.std.specs.Prelude.{◌≡◌, ℕ, ◌+◌, ◌-◌, nat_lt, Bool, true, false, List, [], ◌∷◌, ◌++◌, map, length, drop}
use Rattle.std.specs.Prelude.{Result, Ok, Err, if◌then◌else◌}
use Rattle.cm_model.specs.Limits.{bracket_limit}
use Rattle.cm_model.specs.declared.place.Place.{Place}
use Rattle.cm_tokens.specs.declared.token.Token.{Token}
use Rattle.cm_tokens.specs.declared.token.Token.TheVariants.{OpenRound, CloseRound, OpenSquare, CloseSquare, OpenCurly}
use Rattle.cm_tokens.specs.declared.token.Token.TheVariants.{CloseCurly}
use Rattle.cm_tokens.specs.declared.token.Placed.{Placed}
use Rattle.cm_syntax.specs.declared.tree.Tree.{Tree}
use Rattle.cm_syntax.specs.declared.fault.SyntaxFault.{SyntaxFault}
use Rattle.cm_syntax.specs.declared.fault.SyntaxFault.TheVariants.{Syntax, Deep, Memory}
use Rattle.cm_syntax.specs.Form.{Places}
use Rattle.cm_syntax.specs.Spelling.{tree_form, tokens_of}

abbrev pub tokens : List Placed → List Token
tokens = map (λ p. p.token)

-- where tokens begin; no text ends where none is left
abbrev pub place_of : List Placed → Place
place_of [] = record { line = 0; col = 0 }
place_of (p ∷ ps) = p.at

-- where in a text its last tokens begin
abbrev pub place_in : List Placed → Places
place_in text last = place_of (drop (length text - length last) text)

-- the tree with each node's place that of the token with which the node begins in the text
abbrev pub placed_in : List Placed → Tree → Tree
placed_in text t = (tree_form t).placed (place_in text) []

-- The tokens are those of the tree, and each node has the place of its first token.
abbrev pub Reads : Tree → List Placed → Type 0
Reads t text = (tokens_of t ≡ tokens text) × (placed_in text t ≡ t)

-- a text of the grammar, without the limit on open brackets, begins so
abbrev pub Begins : List Token → Type 0
Begins front = (t : Tree) × (more : List Token) × (tokens_of t ≡ front ++ more)

-- no text of the grammar goes on with what comes next
abbrev pub Stuck : List Token → List Token → Type 0
Stuck front [] = (t : Tree) → tokens_of t ≡ front → ⊥
Stuck front (t ∷ rest) = Begins (front ++ t ∷ []) → ⊥

abbrev pub opens : Token → Bool
opens OpenRound = true
opens OpenSquare = true
opens OpenCurly = true
opens _ = false

abbrev pub closes : Token → Bool
closes CloseRound = true
closes CloseSquare = true
closes CloseCurly = true
closes _ = false

-- how many brackets are open after a token, from how many before it
abbrev pub open_after : ℕ → Token → ℕ
open_after n t = if opens t then n + 1 else (if closes t then n - 1 else n)

-- with n brackets open, a token opens a 65th
abbrev pub too_deep : ℕ → Token → Bool
too_deep n t = if opens t then (if nat_lt n bracket_limit then false else true) else false

-- with n brackets open, no token opens a 65th
abbrev pub is_shallow : ℕ → List Token → Bool
is_shallow n [] = true
is_shallow n (t ∷ ts) = if too_deep n t then false else is_shallow (open_after n t) ts

-- The first token such that no text of the grammar without the limit begins with the tokens up to and including it,
-- and none before it opens a 65th bracket.
pub record IsSyntaxAt (text : List Placed) (place : Place) : Type 0 where
  pub front : List Placed
  pub rest : List Placed
  pub parts : text ≡ front ++ rest
  pub at : place_of rest ≡ place
  pub begins : Begins (tokens front)
  pub shallow : is_shallow 0 (tokens front) ≡ true
  pub stuck : Stuck (tokens front) (tokens rest)

-- The first token that opens a 65th bracket, and a text begins with the tokens up to and including it.
pub record IsDeepAt (text : List Placed) (place : Place) : Type 0 where
  pub front : List Placed
  pub here : Placed
  pub rest : List Placed
  pub parts : text ≡ front ++ here ∷ rest
  pub at : here.at ≡ place
  pub begins : Begins (tokens (front ++ here ∷ []))
  pub shallow : is_shallow 0 (tokens front) ≡ true
  pub deep : is_shallow 0 (tokens (front ++ here ∷ [])) ≡ false

-- what is right for a text
abbrev pub IsRight : List Placed → Result Tree SyntaxFault → Type 0
IsRight text (Ok t) = Reads t text × (is_shallow 0 (tokens text) ≡ true)
IsRight text (Err (Syntax place)) = IsSyntaxAt text place
IsRight text (Err (Deep place)) = IsDeepAt text place
IsRight text (Err Memory) = Unit {0}

-- the second is the first, unless memory ran out
abbrev pub GivesAnswer : Result Tree SyntaxFault → Result Tree SyntaxFault → Type 0
GivesAnswer (Err Memory) result = Unit {0}
GivesAnswer r (Err Memory) = Unit {0}
GivesAnswer r result = result ≡ r
