-- Runs of one stack and of another, and how tightly the next token binds.
use Rattle.std.proofs.Common.{◌≡◌, ℕ, ◌<◌, Bool, true, false, List, [], ◌∷◌, map, Option, Some, None, refl, sym, ap}
use Rattle.std.proofs.Common.{◌∙◌, subst, arith, lit<}
use Rattle.cm_tokens.specs.declared.token.Token.{Token}
use Rattle.cm_tokens.specs.declared.token.Token.TheVariants as token
use Rattle.cm_tokens.specs.declared.token.Placed.{Placed}
use Rattle.cm_syntax.specs.declared.tree.Tree.{Tree}
use Rattle.cm_syntax.specs.declared.tree.Part.{Part}
use Rattle.cm_syntax.specs.declared.tree.«Type».{«Type» as TypeTree}
use Rattle.cm_syntax.specs.declared.tree.«Type».TheOpen as type_layer
use Rattle.cm_syntax.specs.declared.tree.«Type».TheFolds.{ind-Type, map-Type, fold-roll-Type}
use Rattle.cm_syntax.specs.declared.tree.Set.{Set}
use Rattle.cm_syntax.specs.declared.tree.Relation.{Relation}
use Rattle.cm_syntax.specs.declared.tree.Relation.TheVariants as relation
use Rattle.cm_syntax.specs.Form.{Places, Form, word, each_after}
use Rattle.cm_syntax.specs.Spelling.{sets_form, type_form, relation_token, type_step, internal_form}
use Rattle.cm_syntax.specs.Text.{place_of}
use Rattle.cm_syntax.specs.inner.Machine as m
use Rattle.cm_syntax.specs.inner.Machine.{Else, With, Stack, Values, Shift, Takes, Ends, Fails, mapped, shift, running}
use Rattle.cm_syntax.specs.inner.Machine.{ended, moved, Answer, head, no_close_round, no_close_curly, no_end, no_not}
use Rattle.cm_syntax.proofs.NextToken as test

-- a mapped step at the head is a mapped run
pub mapped_ended : {a : Stack} (b : Stack) (f : Values a → Values b) (k : Values b → Tree) (x : Shift a)
    → ended k (mapped f x) ≡ ended (λ v. k (f v)) x
mapped_ended b f k (Takes later build) = refl
mapped_ended b f k (Ends v) = refl
mapped_ended b f k Fails = refl

pub mapped_moved : {a : Stack} (b : Stack) (left : List Placed) (f : Values a → Values b) (k : Values b
    → Tree) (x : Shift a) (go : (later : Stack) → (Values later → Tree) → Answer)
    → moved left k (mapped f x) go ≡ moved left (λ v. k (f v)) x go
mapped_moved b left f k (Takes later build) go = refl
mapped_moved b left f k (Ends v) go = refl
mapped_moved b left f k Fails go = refl

pub same_run : (a b : Stack) (f : Values a → Values b) (k : Values b → Tree) (ps : List Placed)
    → shift b (head ps) (place_of ps) ≡ mapped f (shift a (head ps) (place_of ps))
    → running b k ps ≡ running a (λ v. k (f v)) ps
same_run a b f k [] e = ap (ended k) e ∙ mapped_ended b f k (shift a None (place_of []))
same_run a b f k (p ∷ ps) e = ap (λ s. moved (p ∷ ps) k s (λ later j. running later j ps)) e
    ∙ mapped_moved b (p ∷ ps) f k (shift a (Some p.token) p.at) (λ later j. running later j ps)

abbrev pub first : List Token → Option Token
first [] = None
first (t ∷ ts) = Some t

-- tokens with their places
abbrev pub set_places : Places → List Token → List Placed
set_places at [] = []
set_places at (t ∷ ts) = record { token = t; at = at (t ∷ ts) } ∷ set_places at ts

-- how far out a token may carry an expression on; 0 for the one that may follow a statement
abbrev pub rank : Option Token → ℕ
rank (Some token.Else) = 0
rank (Some token.OpenSquare) = 1
rank (Some token.OpenRound) = 1
rank (Some token.Dot) = 2
rank (Some token.With) = 3
rank (Some token.Plus) = 4
rank (Some token.Minus) = 4
rank (Some token.Equal) = 5
rank (Some token.NotEqual) = 5
rank (Some token.Less) = 5
rank (Some token.AtMost) = 5
rank (Some token.Greater) = 5
rank (Some token.AtLeast) = 5
rank (Some token.And) = 6
rank (Some token.Or) = 6
rank _ = 7

-- tokens with which no expression, statement or declaration begins
abbrev pub begins : Option Token → Bool
begins (Some token.CloseRound) = false
begins (Some token.CloseCurly) = false
begins (Some token.Else) = false
begins (Some token.End) = false
begins _ = true

-- the same, and not the word `not`
abbrev pub begins_post : Option Token → Bool
begins_post (Some token.Not) = false
begins_post o = begins o

pub post_begins : (o : Option Token) → begins_post o ≡ true → begins o ≡ true
post_begins (Some token.Not) h = refl
post_begins o h = h

pub post_no_not : (o : Option Token) → begins_post o ≡ true → no_not o ≡ true
post_no_not (Some token.Not) h = h
post_no_not o h = refl

pub begins_no_close_round : (o : Option Token) → begins o ≡ true → no_close_round o ≡ true
begins_no_close_round (Some token.CloseRound) h = h
begins_no_close_round o h = refl

pub begins_no_close_curly : (o : Option Token) → begins o ≡ true → no_close_curly o ≡ true
begins_no_close_curly (Some token.CloseCurly) h = h
begins_no_close_curly o h = refl

pub begins_no_end : (o : Option Token) → begins o ≡ true → no_end o ≡ true
begins_no_end (Some token.End) h = h
begins_no_end o h = refl

pub begins_high : (o : Option Token) → begins o ≡ true → 0 < rank o
begins_high (Some token.Else) h = absurd (cc h)
begins_high o h = lit< tt

pub high_bracket : (o : Option Token) → 1 < rank o → test.no_bracket o ≡ true
high_bracket (Some token.OpenSquare) h = absurd (omega arith)
high_bracket (Some token.OpenRound) h = absurd (omega arith)
high_bracket o h = refl

pub high_dot : (o : Option Token) → 2 < rank o → test.no_dot o ≡ true
high_dot (Some token.Dot) h = absurd (omega arith)
high_dot o h = refl

pub high_with : (o : Option Token) → 3 < rank o → test.no_with o ≡ true
high_with (Some token.With) h = absurd (omega arith)
high_with o h = refl

pub high_sign : (o : Option Token) → 4 < rank o → test.no_sign o ≡ true
high_sign (Some token.Plus) h = absurd (omega arith)
high_sign (Some token.Minus) h = absurd (omega arith)
high_sign o h = refl

pub high_relation : (o : Option Token) → 5 < rank o → m.no_relation o ≡ true
high_relation (Some token.Equal) h = absurd (omega arith)
high_relation (Some token.NotEqual) h = absurd (omega arith)
high_relation (Some token.Less) h = absurd (omega arith)
high_relation (Some token.AtMost) h = absurd (omega arith)
high_relation (Some token.Greater) h = absurd (omega arith)
high_relation (Some token.AtLeast) h = absurd (omega arith)
high_relation o h = refl

pub high_joint : (o : Option Token) → 6 < rank o → test.no_joint o ≡ true
high_joint (Some token.And) h = absurd (omega arith)
high_joint (Some token.Or) h = absurd (omega arith)
high_joint o h = refl

pub high_and : (o : Option Token) → 6 < rank o → test.no_and o ≡ true
high_and (Some token.And) h = absurd (omega arith)
high_and o h = refl

pub high_or : (o : Option Token) → 6 < rank o → test.no_or o ≡ true
high_or (Some token.Or) h = absurd (omega arith)
high_or o h = refl

pub high_else : (o : Option Token) → 0 < rank o → test.no_else o ≡ true
high_else (Some token.Else) h = absurd (omega arith)
high_else o h = refl

pub internal_no_comma : (qs : List Part) (us : List Token)
    → test.no_comma (first ((internal_form qs).writes (token.CloseRound ∷ us))) ≡ true
internal_no_comma [] us = refl
internal_no_comma (q ∷ qs) us = refl

pub internal_no_name : (qs : List Part) (us : List Token)
    → m.no_name (first ((internal_form qs).writes (token.CloseRound ∷ us))) ≡ true
internal_no_name [] us = refl
internal_no_name (q ∷ qs) us = refl

-- a type does not begin with the word `map`
abbrev pub no_map_type : Form TypeTree → Type 0
no_map_type f = (ts : List Token) → test.no_map (first (f.writes ts)) ≡ true

pub no_map_layer : (y : type_layer.Type-F TypeTree)
    → no_map_type (type_step (map-Type TypeTree (Form TypeTree) type_form y))
no_map_layer (type_layer.Bool p) = λ ts. refl
no_map_layer (type_layer.Named p n) = λ ts. refl
no_map_layer (type_layer.Optional p t) = λ ts. refl

pub type_no_map : (t : TypeTree) → no_map_type (type_form t)
type_no_map = ind-Type (λ t. no_map_type (type_form t)) (λ x y e. subst no_map_type
    (sym (fold-roll-Type (Form TypeTree) type_step x)) (no_map_layer x))

pub relation_high : (r : Relation) → 4 < rank (Some (relation_token r))
relation_high relation.Equal = lit< tt
relation_high relation.NotEqual = lit< tt
relation_high relation.Less = lit< tt
relation_high relation.AtMost = lit< tt
relation_high relation.Greater = lit< tt
relation_high relation.AtLeast = lit< tt

abbrev pub Above : ℕ → Option Token → Type 0
Above n o = n < rank o

abbrev pub Always : Option Token → Type 0
Always o = Unit {0}

abbrev pub Each : {X : Type 0} → (X → Type 0) → List X → Type 0
Each P [] = Unit {0}
Each P (x ∷ xs) = P x × Each P xs

pub commas_high : {X : Type 0} (fs : List (Form X)) (ts : List Token) → 6 < rank (first ts)
    → 6 < rank (first ((each_after token.Comma fs).writes ts))
commas_high [] ts h = h
commas_high (f ∷ fs) ts h = lit< tt

pub sets_high : (fs : List (Form Set)) (ts : List Token) → 3 < rank (first ts)
    → 2 < rank (first ((sets_form fs).writes ts))
sets_high [] ts h = omega arith
sets_high (f ∷ fs) ts h = lit< tt
