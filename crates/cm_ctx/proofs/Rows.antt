-- Pieces whose variables stand one behind another.
use Rattle.std.proofs.Common.{◌≡◌, ◌<◌, ◌+◌, ◌-◌, inl, inr, ℕ, zero, suc, List, [], ◌∷◌, ◌++◌, length}
use Rattle.std.proofs.Common.{slice_get, Some, sym, ap, subst, ◌∙◌, arith}
use Rattle.std.proofs.lemmas.List.{length-map}
use Rattle.std.proofs.lemmas.Option.{slice_get_within}
use Rattle.std.proofs.lemmas.Bool.{cases_lt}
use Rattle.cm_term.specs.declared.term.Term.{Term}
use Rattle.cm_term.specs.Valuation.{Var, OfElement, OfNumber, OfTag, OfOption}
use Rattle.cm_ctx.specs.declared.piece.Counts.{Counts}
use Rattle.cm_ctx.specs.declared.piece.OptionPart.{OptionPart}
use Rattle.cm_ctx.specs.declared.piece.Piece.{Piece}
use Rattle.cm_ctx.specs.Making.{counted, first_counts}
use Rattle.cm_ctx.specs.Contexts.{payloads_in, payloads_of}
use Rattle.cm_ctx.specs.Asking.{IsPayload, InRow, Owns}
use Rattle.cm_ctx.proofs.Counting.{AtMost, at_most, at_most_same}
use Rattle.cm_ctx.proofs.Indexing.{get_left, get_right}

pub row_more : (a b : Counts) (ps : List Piece) (p : Piece) → InRow a ps b → p.from ≡ b
    → InRow a (ps ++ p ∷ []) (counted b p.variables)
row_more a b [] p r e = (e ∙ sym r, ap (λ (c : Counts). counted c p.variables) r)
row_more a b (q ∷ ps) p r e = (r.0, row_more (counted a q.variables) b ps p r.1 e)

then_at_most : (a b c : Counts) → AtMost a b → AtMost b c → AtMost a c
then_at_most a b c f g =
    let e = f.elements in let n = f.numbers in let t = f.tags in let o = f.options in
    let e2 = g.elements in let n2 = g.numbers in let t2 = g.tags in let o2 = g.options in
    record { elements = omega arith; numbers = omega arith; tags = omega arith; options = omega arith }

-- each piece begins behind the beginning
row_from : (a b : Counts) (ps : List Piece) (k : ℕ) (p : Piece) → InRow a ps b → slice_get ps k ≡ Some p
    → AtMost a p.from
row_from a b [] k p r at = absurd (cc)
row_from a b (q ∷ ps) zero p r at = let same : q ≡ p = cc in
    subst (λ (x : Piece). AtMost a x.from) same (subst (AtMost a) (sym r.0) (at_most_same a))
row_from a b (q ∷ ps) (suc k) p r at = then_at_most a (counted a q.variables) p.from (at_most a q.variables) (row_from
    (counted a q.variables) b ps k p r.1 at)

-- and behind the variables of each piece before it
row_apart : (a b : Counts) (ps : List Piece) (j k : ℕ) (p q : Piece) → InRow a ps b → j < k → slice_get ps j ≡ Some p
    → slice_get ps k ≡ Some q → AtMost (counted p.from p.variables) q.from
row_apart a b [] j k p q r lt at to = absurd (cc)
row_apart a b (x ∷ ps) j zero p q r lt at to = absurd (omega arith)
row_apart a b (x ∷ ps) zero (suc k) p q r lt at to =
    let same : x ≡ p = cc in
    subst (λ (y : Piece). AtMost (counted y.from y.variables) q.from) same
    (subst (λ c. AtMost (counted c x.variables) q.from) (sym r.0)
    (row_from (counted a x.variables) b ps k q r.1 to))
row_apart a b (x ∷ ps) (suc j) (suc k) p q r lt at to =
    row_apart (counted a x.variables) b ps j k p q r.1 (omega arith) at to

-- no variable was made for two pieces
own_apart : (p q : Piece) (x : Var) → AtMost (counted p.from p.variables) q.from → Owns p x → Owns q x → ⊥
own_apart p q (OfElement x) m a b = let n = m.elements in let h = a.1 in let l = b.0 in omega arith
own_apart p q (OfNumber x) m a b = let n = m.numbers in let h = a.1 in let l = b.0 in omega arith
own_apart p q (OfTag x) m a b = let n = m.tags in let h = a.1 in let l = b.0 in omega arith
own_apart p q (OfOption x) m a b = let n = m.options in let h = a.1 in let l = b.0 in omega arith

pub one_owner : (a b : Counts) (ps : List Piece) → InRow a ps b → (j k : ℕ) (p q : Piece) (x : Var)
    → slice_get ps j ≡ Some p → slice_get ps k ≡ Some q → Owns p x → Owns q x → j ≡ k
one_owner a b ps r j k p q x at to f g = elim (cases_lt j k) [
  | inl lt ↦ absurd (own_apart p q x (row_apart a b ps j k p q r lt at to) f g)
  | inr le ↦ elim (cases_lt k j) [
    | inl lt ↦ absurd (own_apart q p x (row_apart a b ps k j q p r lt to at) g f)
    | inr ge ↦ omega arith
  ]
]

-- the payload of an option by its number
payload_in_row : (a b : Counts) (ps : List Piece) (k : ℕ) (p : Piece) (i o : ℕ) (t : Term) → InRow a ps b
    → slice_get ps k ≡ Some p → slice_get (payloads_in p.variables.options) i ≡ Some t
    → a.options + o ≡ p.from.options + i → slice_get (payloads_of ps) o ≡ Some t
payload_in_row a b [] k p i o t r at here e = absurd (cc)
payload_in_row a b (q ∷ ps) zero p i o t r at here e =
    let same : q ≡ p = cc in
    let from : p.from.options ≡ a.options = sym (ap (λ (x : Piece). x.from.options) same)
    ∙ ap (λ (c : Counts). c.options) r.0 in
    let one : o ≡ i = omega (arith, from) in
    let found : slice_get (payloads_in q.variables.options) o ≡ Some t =
    subst (λ (x : Piece). slice_get (payloads_in x.variables.options) o ≡ Some t) (sym same)
    (ap (slice_get (payloads_in p.variables.options)) one ∙ here) in
    get_left (payloads_in q.variables.options) (payloads_of ps) o
    (slice_get_within (payloads_in q.variables.options) o t found) ∙ found
payload_in_row a b (q ∷ ps) (suc k) p i o t r at here e =
    let m = row_from (counted a q.variables) b ps k p r.1 at in
    let low = m.options in
    let size : length (payloads_in q.variables.options) ≡ length q.variables.options =
    length-map q.variables.options (λ (d : OptionPart). d.payload) in
    get_right (payloads_in q.variables.options) (payloads_of ps) o (o - length q.variables.options)
    (omega (arith, size))
    ∙ payload_in_row (counted a q.variables) b ps k p i (o - length q.variables.options) t r.1 at here
    (omega (arith, low))

pub payload_found : (b : Counts) (ps : List Piece) (o : ℕ) (t : Term) → InRow first_counts ps b → IsPayload ps o t
    → slice_get (payloads_of ps) o ≡ Some t
payload_found b ps o t r h = payload_in_row first_counts b ps h.among.0 h.piece h.place o t r h.among.1 h.here (omega
    (arith, h.number))
