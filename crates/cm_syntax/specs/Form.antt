-- What is written, and what it is once each of its nodes has the place at which it is written.
use Rattle.std.specs.Prelude.{List, [], ◌∷◌}
use Rattle.cm_model.specs.declared.place.Place.{Place}
use Rattle.cm_tokens.specs.declared.token.Token.{Token}

-- the place of the first of some tokens
abbrev pub Places : Type 0
Places = List Token → Place

-- Both are told the tokens that follow.
pub record Form (X : Type 0) : Type 0 where
  pub writes : List Token → List Token
  pub placed : Places → List Token → X

-- nothing is written
abbrev pub nothing : Form (Unit {0})
nothing = record { writes = λ ts. ts; placed = λ at ts. tt }

-- tokens without a node, and then more
abbrev pub written : {Y : Type 0} → (List Token → List Token) → Form Y → Form Y
written w f = record { writes = λ ts. w (f.writes ts); placed = f.placed }

-- one token, and then more
abbrev pub word : {Y : Type 0} → Token → Form Y → Form Y
word t f = record { writes = λ ts. t ∷ f.writes ts; placed = f.placed }

-- a part, and then more
abbrev pub part : {X Y : Type 0} → Form X → Form Y → Form (X × Y)
part f g = record {
  writes = λ ts. f.writes (g.writes ts);
  placed = λ at ts. (
    f.placed at (g.writes ts),
    g.placed at ts,
  );
}

-- what is made of the place of the first token and of the parts
abbrev pub node : {X Y : Type 0} → (Place → Y → X) → Form Y → Form X
node make f = record { writes = f.writes; placed = λ at ts. make (at (f.writes ts)) (f.placed at ts) }

-- each with a token in front
abbrev pub each_after : {X : Type 0} → Token → List (Form X) → Form (List X)
each_after t [] = record { writes = λ ts. ts; placed = λ at ts. [] }
each_after t (f ∷ fs) = node (λ at y. y.0 ∷ y.1) (word t (part f (each_after t fs)))
