-- How what was made is found, as more is made.
use Rattle.std.proofs.Common.{◌≡◌, ◌≢◌, ◌<◌, ◌≤◌, ◌+◌, ◌-◌, ◌*◌, ◌==◌, inl, inr, ℕ, zero, suc, Bool, true, false}
use Rattle.std.proofs.Common.{List, [], ◌∷◌, ◌++◌, length, replicate, slice_get}
use Rattle.std.proofs.Common.{slice_index_or, slice_set, Some, append_assoc, refl, sym, ap, subst, ◌∙◌, arith}
use Rattle.std.proofs.lemmas.List.{length-append, length-map, length-replicate, get_or_append_left, get_or-append_right}
use Rattle.std.proofs.lemmas.List.{get_or-replicate, get_or-set_same, get_or-set_other, append-nil}
use Rattle.std.proofs.lemmas.Option.{slice_get_within}
use Rattle.std.proofs.lemmas.Bool.{cases_eq, cases_lt}
use Rattle.std.proofs.lemmas.Bool.Decides.{nat_tests}
use Rattle.cm_term.specs.declared.symbol.Root.{Root}
use Rattle.cm_term.specs.declared.symbol.Root.TheVariants as root
use Rattle.cm_ctx.specs.declared.piece.OptionPart.{OptionPart}
use Rattle.cm_ctx.specs.declared.piece.Piece.{Piece}
use Rattle.cm_ctx.specs.Contexts.{payloads_in, payloads_of, sorts_in, sorts_of}
use Rattle.cm_ctx.specs.Asking.{IsAmong, IsNew, number_of, with_number, StandsIn, IsIndexed}

pub payloads_append : (ps : List Piece) (p : Piece)
    → payloads_of (ps ++ p ∷ []) ≡ payloads_of ps ++ payloads_in p.variables.options
payloads_append [] p = append-nil (payloads_in p.variables.options)
payloads_append (q ∷ ps) p =
    ap (λ ts. payloads_in q.variables.options ++ ts) (payloads_append ps p)
    ∙ sym (append_assoc (payloads_in q.variables.options) (payloads_of ps) (payloads_in p.variables.options))

pub sorts_append : (ps : List Piece) (p : Piece)
    → sorts_of (ps ++ p ∷ []) ≡ sorts_of ps ++ sorts_in p.variables.elements
sorts_append [] p = append-nil (sorts_in p.variables.elements)
sorts_append (q ∷ ps) p =
    ap (λ ss. sorts_in q.variables.elements ++ ss) (sorts_append ps p)
    ∙ sym (append_assoc (sorts_in q.variables.elements) (sorts_of ps) (sorts_in p.variables.elements))

pub get_left : {A : Type 0} (xs ys : List A) (i : ℕ) → i < length xs → slice_get (xs ++ ys) i ≡ slice_get xs i
get_left [] ys i lt = absurd (omega arith)
get_left (x ∷ xs) ys zero lt = refl
get_left (x ∷ xs) ys (suc i) lt = get_left xs ys i (omega arith)

pub get_right : {A : Type 0} (xs ys : List A) (i j : ℕ) → i ≡ length xs + j → slice_get (xs ++ ys) i ≡ slice_get ys j
get_right [] ys i j e = ap (slice_get ys) (let same : i ≡ j = omega arith in same)
get_right (x ∷ xs) ys zero j e = absurd (omega arith)
get_right (x ∷ xs) ys (suc i) j e = get_right xs ys i j (omega arith)

pub the_same : {A : Type 0} (xs : List A) (k : ℕ) (a b : A) → slice_get xs k ≡ Some a → slice_get xs k ≡ Some b → a ≡ b
the_same xs k a b p q = same a b (sym p ∙ q)
  where
    same : {A : Type 0} (a b : A) → Some a ≡ Some b → a ≡ b
    same a b e = cc

-- different roots have different numbers
a_same : (i j : ℕ) → 3 * i ≡ 3 * j → i ≡ j
a_same i j e = omega arith

b_same : (i j : ℕ) → 3 * i + 1 ≡ 3 * j + 1 → i ≡ j
b_same i j e = omega arith

cell_same : (i j : ℕ) → 3 * i + 2 ≡ 3 * j + 2 → i ≡ j
cell_same i j e = omega arith

number_injective : (r s : Root) → number_of r ≡ number_of s → r ≡ s
number_injective (root.A i) (root.A j) e = ap root.A (a_same i j e)
number_injective (root.A i) (root.B j) e = absurd (let bad : 3 * i ≡ 3 * j + 1 = e in omega arith)
number_injective (root.A i) (root.Cell j) e = absurd (let bad : 3 * i ≡ 3 * j + 2 = e in omega arith)
number_injective (root.B i) (root.A j) e = absurd (let bad : 3 * i + 1 ≡ 3 * j = e in omega arith)
number_injective (root.B i) (root.B j) e = ap root.B (b_same i j e)
number_injective (root.B i) (root.Cell j) e = absurd (let bad : 3 * i + 1 ≡ 3 * j + 2 = e in omega arith)
number_injective (root.Cell i) (root.A j) e = absurd (let bad : 3 * i + 2 ≡ 3 * j = e in omega arith)
number_injective (root.Cell i) (root.B j) e = absurd (let bad : 3 * i + 2 ≡ 3 * j + 1 = e in omega arith)
number_injective (root.Cell i) (root.Cell j) e = ap root.Cell (cell_same i j e)

with_here : (ns : List ℕ) (k m n : ℕ) → n ≡ k → with_number ns k m n ≡ m
with_here ns k m n e = grind (arith, nat_tests, e)

with_elsewhere : (ns : List ℕ) (k m n : ℕ) → n ≢ k → with_number ns k m n ≡ slice_index_or ns n 0
with_elsewhere ns k m n d = first (n == k) refl
  where
    first : (b : Bool) → (n == k) ≡ b → with_number ns k m n ≡ slice_index_or ns n 0
    first true e = absurd (d (grind (arith, nat_tests)))
    first false e = rw e refl

-- the table as it is written
pub set_in : (xs ns : List ℕ) (place m : ℕ) → place < length xs
    → ((n : ℕ) → slice_index_or xs n 0 ≡ slice_index_or ns n 0) → (n : ℕ)
    → slice_index_or (slice_set xs place m) n 0 ≡ with_number ns place m n
set_in xs ns place m lt same n = elim (cases_eq n place) [
  | inl e ↦ ap (λ i. slice_index_or (slice_set xs place m) i 0) e ∙ get_or-set_same xs place m 0 lt
      ∙ sym (with_here ns place m n e)
  | inr d ↦ get_or-set_other xs place n m 0 d ∙ same n ∙ sym (with_elsewhere ns place m n d)
]

module _ (ps : List Piece) (os rs : List ℕ) (h : IsIndexed ps os rs) where
  pub stands_at : (o k : ℕ) (q : Piece) → o < length (payloads_of ps) → k ≡ slice_index_or os o 0
      → slice_get ps k ≡ Some q → StandsIn ps k o q
  stands_at o k q lt e at =
      let s = h.each_option o lt in
      let there : slice_get ps k ≡ Some s.0 = ap (slice_get ps) e ∙ s.1.there in
      subst (λ i. StandsIn ps i o q) (sym e) (subst (StandsIn ps (slice_index_or os o 0) o)
      (the_same ps k s.0 q there at) s.1)

  pub stands_within : (o k : ℕ) → o < length (payloads_of ps) → k ≡ slice_index_or os o 0 → k < length ps
  stands_within o k lt e = let s = h.each_option o lt in slice_get_within ps k s.0 (ap (slice_get ps) e ∙ s.1.there)

  pub root_at : (r : Root) (p : Piece) (n : ℕ) → IsAmong ps p → p.root ≡ r → n ≡ slice_index_or rs (number_of r) 0 - 1
      → slice_get ps n ≡ Some p
  root_at r p n m e is =
      let at : slice_index_or rs (number_of p.root) 0 ≡ m.0 + 1 = h.each_root m.0 p m.1 in
      let here : slice_index_or rs (number_of r) 0 ≡ m.0 + 1 = ap (λ q. slice_index_or rs (number_of q) 0) (sym e)
      ∙ at in
      ap (slice_get ps) (let same : n ≡ m.0 = omega arith in same) ∙ m.1

  module _ (p : Piece) (new : IsNew ps p.root) (row : p.from.options ≡ length (payloads_of ps)) (more : List ℕ)
      (table : (n : ℕ) → slice_index_or more n 0 ≡ with_number rs (number_of p.root) (length ps + 1) n) where
    in_old : (o : ℕ) → o < length (payloads_of ps) → (q : Piece)
        × StandsIn (ps ++ p ∷ []) (slice_index_or (os ++ replicate (length p.variables.options) (length ps)) o 0) o q
    in_old o lt =
        let s = h.each_option o lt in
        let k : slice_index_or (os ++ replicate (length p.variables.options) (length ps)) o 0 ≡ slice_index_or os o 0 =
        get_or_append_left os (replicate (length p.variables.options) (length ps)) 0 o (omega (arith, h.as_many)) in (
          s.0,
          subst (λ i. StandsIn (ps ++ p ∷ []) i o s.0) (sym k) (record {
            there = get_left ps (p ∷ []) (slice_index_or os o 0)
                (slice_get_within ps (slice_index_or os o 0) s.0 s.1.there) ∙ s.1.there;
            from = s.1.from;
            within = s.1.within;
            payload = s.1.payload ∙ sym (ap (λ ts. slice_get ts o) (payloads_append ps p)
                ∙ get_left (payloads_of ps) (payloads_in p.variables.options) o lt);
          }),
        )

    in_new : (o : ℕ) → length (payloads_of ps) ≤ o → o < length (payloads_of ps) + length p.variables.options
        → (q : Piece) × StandsIn (ps ++ p ∷ []) (slice_index_or
        (os ++ replicate (length p.variables.options) (length ps)) o 0) o q
    in_new o le lt =
        let i : o - length os < length p.variables.options = omega (arith, h.as_many) in
        let k : slice_index_or (os ++ replicate (length p.variables.options) (length ps)) o 0 ≡ length ps =
        get_or-append_right os (replicate (length p.variables.options) (length ps)) (length os) o 0 refl
        (omega (arith, h.as_many))
        ∙ get_or-replicate (length p.variables.options) (o - length os) (length ps) 0 i in (
          p,
          subst (λ j. StandsIn (ps ++ p ∷ []) j o p) (sym k) (record {
            there = get_right ps (p ∷ []) (length ps) 0 (omega arith);
            from = omega (arith, row);
            within = omega (arith, row);
            payload = sym (ap (λ ts. slice_get ts o) (payloads_append ps p)
                ∙ get_right (payloads_of ps) (payloads_in p.variables.options) o (o - p.from.options)
                (omega (arith, row)));
          }),
        )

    as_many_more : length (payloads_of (ps ++ p ∷ [])) ≡ length (payloads_of ps) + length p.variables.options
    as_many_more = ap length (payloads_append ps p) ∙ length-append (payloads_of ps) (payloads_in p.variables.options)
        ∙ ap (λ n. length (payloads_of ps) + n) (length-map p.variables.options (λ (o : OptionPart). o.payload))

    each_more : (o : ℕ) → o < length (payloads_of (ps ++ p ∷ [])) → (q : Piece)
        × StandsIn (ps ++ p ∷ []) (slice_index_or (os ++ replicate (length p.variables.options) (length ps)) o 0) o q
    each_more o lt = elim (cases_lt o (length (payloads_of ps))) [
      | inl l ↦ in_old o l
      | inr le ↦ in_new o le (omega (arith, as_many_more))
    ]

    root_more : (k : ℕ) (q : Piece) → slice_get (ps ++ p ∷ []) k ≡ Some q
        → slice_index_or more (number_of q.root) 0 ≡ k + 1
    root_more k q at = elim (cases_lt k (length ps)) [
      | inl l ↦
          let old : slice_get ps k ≡ Some q = sym (get_left ps (p ∷ []) k l) ∙ at in
          table (number_of q.root)
          ∙ with_elsewhere rs (number_of p.root) (length ps + 1) (number_of q.root)
          (λ e. new q (k, old) (number_injective q.root p.root e)) ∙ h.each_root k q old
      | inr le ↦
          let within = slice_get_within (ps ++ p ∷ []) k q at in
          let last : k ≡ length ps = omega (arith, length-append ps (p ∷ [])) in
          let same : p ≡ q = the_same (ps ++ p ∷ []) k p q (get_right ps (p ∷ []) k 0 (omega arith)) at in
          table (number_of q.root) ∙ with_here rs (number_of p.root) (length ps + 1) (number_of q.root) (ap
          (λ (x : Piece). number_of x.root) (sym same)) ∙ ap (λ n. n + 1) (sym last)
    ]

    pub indexed_more : IsIndexed (ps ++ p ∷ []) (os ++ replicate (length p.variables.options) (length ps)) more
    indexed_more = record {
      as_many = omega (
        arith,
        length-append os (replicate (length p.variables.options) (length ps)),
        length-replicate (length p.variables.options) (length ps),
        h.as_many,
        as_many_more,
      );
      each_option = each_more;
      each_root = root_more;
    }

    pub indexed_given : (all : List Piece) (places : List ℕ) (count last : ℕ) → all ≡ ps ++ p ∷ []
        → places ≡ os ++ replicate count last → count ≡ length p.variables.options → last ≡ length ps
        → IsIndexed all places more
    indexed_given all places count last e f g l = rw (e, f, g, l) indexed_more
