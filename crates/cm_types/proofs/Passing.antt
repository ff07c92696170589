-- Tokens with few brackets open and names that are names, and what of a tree's text they pass over.
use Rattle.std.proofs.Common.{◌≡◌, ℕ, ◌+◌, ◌-◌, ◌<◌, ◌≤◌, ◌&&◌, nat_lt, Bool, true, false, List, [], ◌∷◌, map, refl}
use Rattle.std.proofs.Common.{sym, ap, ◌∙◌, subst, arith, if◌then◌else◌}
use Rattle.std.specs.List.{list_all}
use Rattle.std.proofs.lemmas.Bool.{and_parts, ltb-true}
use Rattle.cm_model.specs.Names.{is_name}
use Rattle.cm_tokens.specs.declared.token.Token.{Token}
use Rattle.cm_tokens.specs.declared.token.Token.TheVariants as token
use Rattle.cm_syntax.specs.Form.{Form, each_after}
use Rattle.cm_syntax.specs.Text.{is_shallow}
use Rattle.cm_syntax.specs.Spelling.{names_after, listed, num_form, type_form, type_step, part_form, relation_token}
use Rattle.cm_syntax.specs.declared.tree.Num.{Num}
use Rattle.cm_syntax.specs.declared.tree.Num.TheVariants.{Digits, Negative}
use Rattle.cm_syntax.specs.declared.tree.Relation.{Relation}
use Rattle.cm_syntax.specs.declared.tree.Relation.TheVariants as relation
use Rattle.cm_syntax.specs.declared.tree.Part.{Part}
use Rattle.cm_syntax.specs.declared.tree.«Type».{«Type» as TypeTree}
use Rattle.cm_syntax.specs.declared.tree.«Type».TheOpen as layer
use Rattle.cm_syntax.specs.declared.tree.«Type».TheViews.{roll-Type}
use Rattle.cm_syntax.specs.declared.tree.«Type».TheFolds.{fold-roll-Type, ind-Type, map-Type}
use Rattle.cm_types.proofs.Items.{Each}

abbrev pub is_named : Token → Bool
is_named (token.Name n) = is_name n
is_named _ = true

-- where n brackets are open
abbrev pub Fine : ℕ → List Token → Type 0
Fine n ts = (is_shallow n ts ≡ true) × (list_all is_named ts ≡ true)

-- behind a bracket that opens, behind one that closes, and behind a name

pub opened : (n : ℕ) (ts : List Token)
    → ((if (if nat_lt n 64 then false else true) then false else is_shallow (n + 1) ts) ≡ true)
    × (list_all is_named ts ≡ true)
    → (n + 1 ≤ 64) × Fine (n + 1) ts
opened n ts h = by (nat_lt n 64) refl h.0
  where
    more : (n : ℕ) → n < 64 → n + 1 ≤ 64
    more n lt = omega (arith, lt)

    by : (c : Bool) → nat_lt n 64 ≡ c → (if (if c then false else true) then false else is_shallow (n + 1) ts) ≡ true
        → (n + 1 ≤ 64) × Fine (n + 1) ts
    by true e k = (more n (ltb-true n 64 e), (k, h.1))
    by false e k = absurd cc

pub closed : (n : ℕ) (ts : List Token) → (is_shallow (n + 1 - 1) ts ≡ true) × (list_all is_named ts ≡ true) → Fine n ts
closed n ts h = (ap (λ k. is_shallow k ts) (back n) ∙ h.0, h.1)
  where
    back : (n : ℕ) → n ≡ n + 1 - 1
    back n = omega arith

pub name_passed : (n : ℕ) (name : List ℕ) (ts : List Token) → Fine n (token.Name name ∷ ts) → (is_name name ≡ true)
    × Fine n ts
name_passed n name ts h = let p = and_parts (is_name name) (list_all is_named ts) h.1 in (p.0, (h.0, p.1))

-- what is passed over
abbrev pub Passes : (List Token → List Token) → Type 0
Passes w = (n : ℕ) (ts : List Token) → n ≤ 64 → Fine n (w ts) → Fine n ts

pub num_passes : (x : Num) → Passes (num_form x).writes
num_passes (Digits p k) n ts le h = h
num_passes (Negative p k) n ts le h = h

pub relation_passed : (r : Relation) (n : ℕ) (ts : List Token) → Fine n (relation_token r ∷ ts) → Fine n ts
relation_passed relation.Equal n ts h = h
relation_passed relation.NotEqual n ts h = h
relation_passed relation.Less n ts h = h
relation_passed relation.AtMost n ts h = h
relation_passed relation.Greater n ts h = h
relation_passed relation.AtLeast n ts h = h

-- names, each with a token in front
pub names_passed : (t : Token) → ((n : ℕ) (ts : List Token) → Fine n (t ∷ ts) → Fine n ts) → (names : List (List ℕ))
    (n : ℕ) (ts : List Token)
    → Fine n (names_after t names ts) → (list_all is_name names ≡ true) × Fine n ts
names_passed t pass [] n ts h = (refl, h)
names_passed t pass (x ∷ xs) n ts h =
    let p = name_passed n x (names_after t xs ts) (pass n (token.Name x ∷ names_after t xs ts) h) in
    let rest = names_passed t pass xs n ts p.1 in
    (ap (λ c. c && list_all is_name xs) p.0 ∙ rest.0, rest.1)

-- Lists of parts of which each gives something

abbrev pub Gives : {X M : Type 0} → (ℕ → M → Type 0) → (X → Form X) → (X → M) → X → Type 0
Gives Q form told x = (n : ℕ) (ts : List Token) → n ≤ 64 → Fine n ((form x).writes ts) → Q n (told x) × Fine n ts

pub held : {X : Type 0} (P : X → Type 0) (ks : List ((x : X) × P x)) → Each P (map (λ k. k.0) ks)
held P [] = tt
held P (k ∷ ks) = (k.1, held P ks)

module _ {X M : Type 0} (Q : ℕ → M → Type 0) (form : X → Form X) (told : X → M) where
  pub after_gives : (t : Token) → ((n : ℕ) (ts : List Token) → Fine n (t ∷ ts) → Fine n ts)
      → (xs : List X) → Each (Gives Q form told) xs → (n : ℕ) (ts : List Token) → n ≤ 64
      → Fine n ((each_after t (map form xs)).writes ts) → Each (Q n) (map told xs) × Fine n ts
  after_gives t pass [] g n ts le h = (tt, h)
  after_gives t pass (x ∷ xs) g n ts le h =
      let rest = (each_after t (map form xs)).writes ts in
      let p = g.0 n rest le (pass n ((form x).writes rest) h) in
      let q = after_gives t pass xs g.1 n ts le p.1 in
      ((p.0, q.0), q.1)

  pub listed_gives : (xs : List X) → Each (Gives Q form told) xs → (n : ℕ) (ts : List Token) → n ≤ 64
      → Fine n ((listed (map form xs)).writes ts) → Each (Q n) (map told xs) × Fine n ts
  listed_gives [] g n ts le h = (tt, h)
  listed_gives (x ∷ xs) g n ts le h =
      let p = g.0 n ((each_after token.Comma (map form xs)).writes ts) le h in
      let q = after_gives token.Comma (λ n ts h. h) xs g.1 n ts le p.1 in
      ((p.0, q.0), q.1)

-- Types and parts

abbrev TypePasses : TypeTree → Type 0
TypePasses t = Passes (type_form t).writes

abbrev KT : Type 0
KT = (t : TypeTree) × TypePasses t

type_layer_passes : (y : layer.Type-F KT)
    → Passes (type_step (map-Type TypeTree (Form TypeTree) type_form (map-Type KT TypeTree (λ k. k.0) y))).writes
type_layer_passes (layer.Bool p) n ts le h = h
type_layer_passes (layer.Named p b) n ts le h = (name_passed n b ts h).1
type_layer_passes (layer.Optional p t) n ts le h =
    let o = opened n ((type_form t.0).writes (token.CloseRound ∷ ts)) h in
    closed n ts (t.1 (n + 1) (token.CloseRound ∷ ts) o.0 o.1)

pub type_passes : (t : TypeTree) → TypePasses t
type_passes = ind-Type TypePasses (λ x y is. subst (λ z. TypePasses (roll-Type z)) is
    (subst (λ (f : Form TypeTree). Passes f.writes) (sym (fold-roll-Type (Form TypeTree) type_step
    (map-Type KT TypeTree (λ k. k.0) y))) (type_layer_passes y)))

-- a part's name is a name
pub part_gives : (p : Part) → Gives (λ n x. is_name x ≡ true) part_form (λ (p : Part). p.name) p
part_gives p n ts le h =
    let q = name_passed n p.name (token.Colon ∷ (type_form p.value).writes ts) h in
    (q.0, type_passes p.value n ts le q.1)
