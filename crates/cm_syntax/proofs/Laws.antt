-- What the machine answers is right.
use Rattle.std.proofs.Common.{◌≡◌, ℕ, ◌-◌, Bool, true, false, List, [], ◌∷◌, ◌++◌, drop, length, Some, None, Ok, Err}
use Rattle.std.proofs.Common.{refl, sym, ap, ◌∙◌, subst, append_assoc, length-append, if◌then◌else◌, arith}
use Rattle.std.proofs.lemmas.List.{append-nil}
use Rattle.std.proofs.Math.Seq.{drop-append_seam, drop-length}
use Rattle.cm_model.specs.declared.place.Place.{Place}
use Rattle.cm_tokens.specs.declared.token.Token.{Token}
use Rattle.cm_tokens.specs.declared.token.Placed.{Placed}
use Rattle.cm_syntax.specs.declared.tree.Tree.{Tree}
use Rattle.cm_syntax.specs.Spelling.{tokens_of}
use Rattle.cm_syntax.specs.Text.{tokens, place_of, place_in, placed_in, Reads, Begins, Stuck, is_shallow, too_deep}
use Rattle.cm_syntax.specs.Text.{open_after, IsSyntaxAt, IsDeepAt}
use Rattle.cm_syntax.specs.inner.Machine.{Text, Stack, Values, Shift, Takes, Ends, Fails, shift, running, reading}
use Rattle.cm_syntax.specs.inner.Machine.{ended, moved, Answer, Syntax, Deep, answer_of}
use Rattle.cm_syntax.proofs.Spells.{spelling, some_values, Spells, shift_spells}
use Rattle.cm_syntax.proofs.Complete.{text_taken}
use Rattle.cm_syntax.proofs.Ranks.{set_places}

-- Places in a text

pub tokens_append : (p q : List Placed) → tokens (p ++ q) ≡ tokens p ++ tokens q
tokens_append [] q = refl
tokens_append (x ∷ p) q = ap (λ r. x.token ∷ r) (tokens_append p q)

tokens_length : (p : List Placed) → length (tokens p) ≡ length p
tokens_length [] = refl
tokens_length (x ∷ p) = omega (arith, tokens_length p)

drop_front : (p q : List Placed) (n : ℕ) → n ≡ length p → drop n (p ++ q) ≡ q
drop_front p q n e = rw e (drop-append_seam p q)

drop_all : (p : List Placed) (n : ℕ) → n ≡ length p → drop n p ≡ []
drop_all p n e = rw e (drop-length p)

-- the tokens of the end of a text, with their places in it, are that end
end_placed : (front ps : List Placed) → set_places (place_in (front ++ ps)) (tokens ps) ≡ ps
end_placed front [] = refl
end_placed front (p ∷ ps) =
    let n : ℕ = length (front ++ p ∷ ps) - length (tokens (p ∷ ps)) in
    let here : n ≡ length front = omega (arith, length-append front (p ∷ ps), tokens_length (p ∷ ps)) in
    let at : place_in (front ++ p ∷ ps) (tokens (p ∷ ps)) ≡ p.at = ap place_of (drop_front front (p ∷ ps) n here) in
    let more : set_places (place_in (front ++ p ∷ ps)) (tokens ps) ≡ ps =
    subst (λ x. set_places (place_in x) (tokens ps) ≡ ps) (append_assoc front (p ∷ []) ps)
    (end_placed (front ++ p ∷ []) ps) in
    ap (λ x. record { token = p.token; at = x } ∷ set_places (place_in (front ++ p ∷ ps)) (tokens ps)) at
    ∙ ap (λ r. p ∷ r) more

nowhere_in : (text : List Placed) → place_in text [] ≡ place_of []
nowhere_in text = let none : List Token = [] in ap place_of (drop_all text (length text - length none) (omega arith))

-- The machine reads the tokens of a tree, and gives it with its places in the text.
pub running_text : (t : Tree) (text : List Placed) → tokens_of t ≡ tokens text
    → running (Text ∷ []) (λ v. v.0) text ≡ Ok (placed_in text t)
running_text t text e =
    ap (running (Text ∷ []) (λ v. v.0)) (sym (end_placed [] text))
    ∙ ap (λ ts. running (Text ∷ []) (λ v. v.0) (set_places (place_in text) ts)) (sym e)
    ∙ text_taken (place_in text) (nowhere_in text) t

-- a text has at most one tree
pub unique : (t u : Tree) (text : List Placed) → Reads t text → Reads u text → t ≡ u
unique t u text h k =
    let e : Ok (placed_in text t) ≡ Ok (placed_in text u) = sym (running_text t text h.0) ∙ running_text u text k.0 in
    let f : placed_in text t ≡ placed_in text u = cc e in
    sym h.1 ∙ f ∙ k.1

-- What is made begins with the tokens in front, whatever is yet to come.
abbrev Reached : (st : Stack) → (Values st → Tree) → List Token → Type 0
Reached st k front = (v : Values st) → tokens_of (k v) ≡ front ++ spelling st v

-- Every run that takes these tokens stops at the next.
abbrev Halts : (st : Stack) → (Values st → Tree) → List Placed → List Placed → Type 0
Halts st k p [] = running st k p ≡ Err (Syntax [])
Halts st k p (t ∷ q) = (more : List Placed) → running st k (p ++ t ∷ more) ≡ Err (Syntax (t ∷ more))

record Halted (front : List Token) (n : ℕ) (st : Stack) (k : Values st → Tree) (ps : List Placed)
    (left : List Placed) : Type 0 where
  p : List Placed
  q : List Placed
  parts : ps ≡ p ++ q
  place : q ≡ left
  shallow : is_shallow n (tokens p) ≡ true
  begins : Begins (front ++ tokens p)
  halts : Halts st k p q

record Sunk (front : List Token) (n : ℕ) (ps : List Placed) (left : List Placed) : Type 0 where
  p : List Placed
  here : Placed
  q : List Placed
  parts : ps ≡ p ++ here ∷ q
  place : here ∷ q ≡ left
  shallow : is_shallow n (tokens p) ≡ true
  deep : is_shallow n (tokens (p ++ here ∷ [])) ≡ false
  begins : Begins (front ++ tokens (p ++ here ∷ []))

abbrev Explained : List Token → ℕ → (st : Stack) → (Values st → Tree) → List Placed → Answer → Type 0
Explained front n st k ps (Ok x) = (tokens_of x ≡ front ++ tokens ps) × (is_shallow n (tokens ps) ≡ true)
Explained front n st k ps (Err (Syntax left)) = Halted front n st k ps left
Explained front n st k ps (Err (Deep left)) = Sunk front n ps left

begins_here : (st : Stack) (k : Values st → Tree) (front : List Token) → Reached st k front → Begins front
begins_here st k front h = (k (some_values st), spelling st (some_values st), h (some_values st))

reached_more : (st later : Stack) (k : Values st → Tree) (build : Values later → Values st) (front : List Token)
    (t : Token) → Reached st k front → Spells st (Some t) (Takes later build)
    → Reached later (λ v. k (build v)) (front ++ t ∷ [])
reached_more st later k build front t h sp v = h (build v) ∙ ap (λ r. front ++ r) (sp v)
    ∙ sym (append_assoc front (t ∷ []) (spelling later v))

-- one more token in front
explained_more : (front : List Token) (n m : ℕ) (st later : Stack) (k : Values st → Tree) (j : Values later
    → Tree) (t : Placed) (ps : List Placed) → too_deep n t.token ≡ false → open_after n t.token ≡ m
    → ((more : List Placed) → running st k (t ∷ more) ≡ running later j more) → (a : Answer)
    → Explained (front ++ t.token ∷ []) m later j ps a → Explained front n st k (t ∷ ps) a
explained_more front n m st later k j t ps fine is step (Ok x) h =
    (h.0 ∙ append_assoc front (t.token ∷ []) (tokens ps), rw (fine, is) h.1)
explained_more front n m st later k j t ps fine is step (Err (Syntax left)) h = record {
  p = t ∷ h.p;
  q = h.q;
  parts = ap (λ r. t ∷ r) h.parts;
  place = h.place;
  shallow = rw (fine, is) h.shallow;
  begins = subst Begins (append_assoc front (t.token ∷ []) (tokens h.p)) h.begins;
  halts = went h.p h.q h.halts;
}
  where
    went : (p q : List Placed) → Halts later j p q → Halts st k (t ∷ p) q
    went p [] h = step p ∙ h
    went p (u ∷ q) h = λ more. step (p ++ u ∷ more) ∙ h more
explained_more front n m st later k j t ps fine is step (Err (Deep left)) h = record {
  p = t ∷ h.p;
  here = h.here;
  q = h.q;
  parts = ap (λ r. t ∷ r) h.parts;
  place = h.place;
  shallow = rw (fine, is) h.shallow;
  deep = rw (fine, is) h.deep;
  begins = subst Begins (append_assoc front (t.token ∷ []) (tokens (h.p ++ h.here ∷ []))) h.begins;
}

explained : (ps : List Placed) (n : ℕ) (st : Stack) (k : Values st → Tree) (front : List Token) → Reached st k front
    → Explained front n st k ps (reading n st k ps)
explained [] n st k front h = went (shift st None (place_of [])) refl (shift_spells st None (place_of []))
  where
    went : (s : Shift st) → shift st None (place_of []) ≡ s → Spells st None s → Explained front n st k [] (ended k s)
    went (Takes later build) e sp = absurd sp
    went (Ends v) e sp = (h v ∙ ap (λ r. front ++ r) sp, refl)
    went Fails e sp = record {
      p = [];
      q = [];
      parts = refl;
      place = refl;
      shallow = refl;
      begins = subst Begins (sym (append-nil front)) (begins_here st k front h);
      halts = ap (ended k) e;
    }
explained (t ∷ ps) n st k front h = went (shift st (Some t.token) t.at) refl (shift_spells st (Some t.token) t.at)
    (explained ps)
  where
    went : (s : Shift st) → shift st (Some t.token) t.at ≡ s → Spells st (Some t.token) s
        → ((n : ℕ) (st : Stack) (k : Values st → Tree) (front : List Token) → Reached st k front
        → Explained front n st k ps (reading n st k ps))
        → Explained front n st k (t ∷ ps) (moved (t ∷ ps) k s (λ later j. if too_deep n t.token then Err
        (Deep (t ∷ ps)) else reading (open_after n t.token) later j ps))
    went (Ends v) e sp ih = absurd sp
    went Fails e sp ih = record {
      p = [];
      q = t ∷ ps;
      parts = refl;
      place = refl;
      shallow = refl;
      begins = subst Begins (sym (append-nil front)) (begins_here st k front h);
      halts = λ more. ap (λ s. moved (t ∷ more) k s (λ later j. running later j more)) e;
    }
    went (Takes later build) e sp ih = split (too_deep n t.token) refl
      where
        split : (b : Bool) → too_deep n t.token ≡ b
            → Explained front n st k (t ∷ ps) (if b then Err (Deep (t ∷ ps)) else reading (open_after n t.token)
            later (λ v. k (build v)) ps)
        split true is = record {
          p = [];
          here = t;
          q = ps;
          parts = refl;
          place = refl;
          shallow = refl;
          deep = rw is refl;
          begins = begins_here later (λ v. k (build v)) (front ++ t.token ∷ [])
              (reached_more st later k build front t.token h sp);
        }
        split false is = explained_more front n (open_after n t.token) st later k (λ v. k (build v))
            t ps is refl (λ more. ap (λ s. moved (t ∷ more) k s (λ later j. running later j more)) e)
            (reading (open_after n t.token) later (λ v. k (build v)) ps) (ih (open_after n t.token) later
            (λ v. k (build v)) (front ++ t.token ∷ []) (reached_more st later k build front t.token h sp))

-- with no bracket above the limit the limit changes nothing
same_as_running : (ps : List Placed) (n : ℕ) (st : Stack) (k : Values st → Tree) → is_shallow n (tokens ps) ≡ true
    → reading n st k ps ≡ running st k ps
same_as_running [] n st k h = refl
same_as_running (t ∷ ps) n st k h = went (shift st (Some t.token) t.at) (same_as_running ps)
  where
    went : (s : Shift st) → ((n : ℕ) (st : Stack) (k : Values st → Tree) → is_shallow n (tokens ps) ≡ true
        → reading n st k ps ≡ running st k ps)
        → moved (t ∷ ps) k s (λ later j. if too_deep n t.token then Err (Deep (t ∷ ps)) else reading
        (open_after n t.token) later j ps) ≡ moved (t ∷ ps) k s (λ later j. running later j ps)
    went (Ends v) ih = refl
    went Fails ih = refl
    went (Takes later build) ih = split (too_deep n t.token) h
      where
        split : (b : Bool) → (if b then false else is_shallow (open_after n t.token) (tokens ps)) ≡ true
            → (if b then Err (Deep (t ∷ ps)) else reading (open_after n t.token) later (λ v. k (build v)) ps)
            ≡ running later (λ v. k (build v)) ps
        split true h = cc
        split false h = ih (open_after n t.token) later (λ v. k (build v)) h

whole : (text : List Placed) → Explained [] 0 (Text ∷ []) (λ v. v.0) text (answer_of text)
whole text = explained text 0 (Text ∷ []) (λ v. v.0) [] (λ v. refl)

-- What is answered is a tree of the text.
pub tree_reads : (text : List Placed) (t : Tree) → answer_of text ≡ Ok t → Reads t text
    × (is_shallow 0 (tokens text) ≡ true)
tree_reads text t e =
    let h : (tokens_of t ≡ tokens text) × (is_shallow 0 (tokens text) ≡ true) =
    subst (Explained [] 0 (Text ∷ []) (λ v. v.0) text) e (whole text) in
    let f : Ok (placed_in text t) ≡ Ok t = sym (running_text t text h.0)
    ∙ sym (same_as_running text 0 (Text ∷ []) (λ v. v.0) h.1) ∙ e in
    let g : placed_in text t ≡ t = cc f in
    ((h.0, g), h.1)

-- tokens somewhere
anywhere : List Token → List Placed
anywhere ts = set_places (λ us. place_of []) ts

tokens_anywhere : (ts : List Token) → tokens (anywhere ts) ≡ ts
unfolding anywhere
tokens_anywhere [] = refl
tokens_anywhere (t ∷ ts) = ap (λ r. t ∷ r) (tokens_anywhere ts)

stuck_of : (p q : List Placed) → Halts (Text ∷ []) (λ v. v.0) p q → Stuck (tokens p) (tokens q)
stuck_of p [] halts = λ t e. let r : Ok (placed_in p t) ≡ Err (Syntax []) = sym (running_text t p e) ∙ halts in
    absurd (cc r)
stuck_of p (t ∷ q) halts = λ b.
    let text : List Placed = p ++ t ∷ anywhere b.1 in
    let same : tokens text ≡ (tokens p ++ t.token ∷ []) ++ b.1 = tokens_append p (t ∷ anywhere b.1)
    ∙ ap (λ r. tokens p ++ t.token ∷ r) (tokens_anywhere b.1) ∙ sym (append_assoc (tokens p) (t.token ∷ []) b.1) in
    let r : Ok (placed_in text b.0) ≡ Err (Syntax (t ∷ anywhere b.1)) = sym (running_text b.0 text (b.2 ∙ sym same))
    ∙ halts (anywhere b.1) in absurd (cc r)

pub syntax_is : (text left : List Placed) (place : Place) → answer_of text ≡ Err (Syntax left) → place_of left ≡ place
    → IsSyntaxAt text place
syntax_is text left place e is =
    let h : Halted [] 0 (Text ∷ []) (λ v. v.0) text left = subst (Explained [] 0 (Text ∷ []) (λ v. v.0) text)
    e (whole text) in
    record {
      front = h.p;
      rest = h.q;
      parts = h.parts;
      at = ap place_of h.place ∙ is;
      begins = h.begins;
      shallow = h.shallow;
      stuck = stuck_of h.p h.q h.halts;
    }

pub deep_is : (text left : List Placed) (place : Place) → answer_of text ≡ Err (Deep left) → place_of left ≡ place
    → IsDeepAt text place
deep_is text left place e is =
    let h : Sunk [] 0 text left = subst (Explained [] 0 (Text ∷ []) (λ v. v.0) text) e (whole text) in
    record {
      front = h.p;
      here = h.here;
      rest = h.q;
      parts = h.parts;
      at = ap place_of h.place ∙ is;
      begins = h.begins;
      shallow = h.shallow;
      deep = h.deep;
    }
