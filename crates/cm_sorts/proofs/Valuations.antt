-- The valuations of classes as they are kept.
use Rattle.std.proofs.Common.{◌≡◌, ◌≢◌, ◌<◌, ◌≤◌, ◌+◌, ◌^◌, ◌==◌, ◌↔◌, ◌⊎◌, inl, inr, ℕ, true, false, not, cond, List}
use Rattle.std.proofs.Common.{[], ◌∷◌, ◌++◌, length, map, slice_index, slice_index_or, IsTrue, refl, sym, ap, ◌∙◌}
use Rattle.std.proofs.Common.{arith}
use Rattle.std.specs.List.{range_with_len}
use Rattle.std.proofs.lemmas.Bool.{cases_eq, cases_lt, cases_order, cases_Bool, not-true, not_from_false, ne_eqb}
use Rattle.std.proofs.lemmas.Bool.{eqb-false}
use Rattle.std.proofs.lemmas.Bool.Decides.{nat_tests}
use Rattle.std.proofs.lemmas.List.{get_or_append_left, get_or_at, length_push, length-map, map-append}
use Rattle.std.proofs.lemmas.List.FromFn.{get_or-map-range_with_len}
use Rattle.cm_sorts.specs.declared.words.Variable.{Variable}
use Rattle.cm_sorts.specs.inner.Pairs.{are_marked}
use Rattle.cm_sorts.specs.Partition.{Satisfies, IsSatisfiable, Allows, Implies}
use Rattle.cm_sorts.specs.inner.Words.{labels_of, rows_of, partition_of, IsProper}
use Rattle.cm_sorts.proofs.Sharing.{are_marked_comm, nothing_marked, unmarked_self}

-- what `Satisfies` says, of labels and words
pub record Meets (labels words : List ℕ) (v : ℕ → ℕ) : Type 0 where
  pub same : (x : ℕ) → x < length labels → v x ≡ v (slice_index labels x)
  pub apart : (x y : ℕ) → x < length labels → y < length labels → are_marked words x y ≡ true → v x ≢ v y

pub row_at : (n : ℕ) (words : List ℕ) (x y : ℕ) → x < n → y < x
    → slice_index_or (slice_index_or (rows_of n words) x []) y false ≡ are_marked words x y
row_at n words x y h k =
    ap (λ row. slice_index_or row y false) (get_or-map-range_with_len (λ i. map (are_marked words i)
    (range_with_len 0 i)) 0 n x x [] h (omega arith))
    ∙ get_or-map-range_with_len (are_marked words x) 0 x y y false k (omega arith)

pub meets_from : (vs : List Variable) (words : List ℕ) (v : ℕ → ℕ) → Satisfies (partition_of vs words) v
    → Meets (labels_of vs) words v
meets_from vs words v s = record {
  same = λ x h. s.same x (omega (arith, sorts_length, labels_length));
  apart = λ x y p q m. elim (cases_order x y) [
    | inl e ↦ let none : are_marked words x y ≡ false = rw e (unmarked_self words y) in cc
    | inr (inl f) ↦ λ e. s.apart y x (omega (arith, sorts_length, labels_length)) f
        (row_at (length vs) words y x (omega (arith, labels_length)) f ∙ are_marked_comm words y x ∙ m) (sym e)
    | inr (inr f) ↦ s.apart x y (omega (arith, sorts_length, labels_length)) f
        (row_at (length vs) words x y (omega (arith, labels_length)) f ∙ m)
  ];
}
  where
    sorts_length : length (map (λ (w : Variable). w.sort) vs) ≡ length vs
    sorts_length = length-map vs (λ (w : Variable). w.sort)

    labels_length : length (labels_of vs) ≡ length vs
    labels_length = length-map vs (λ (w : Variable). w.label)

pub satisfies_from : (vs : List Variable) (words : List ℕ) (v : ℕ → ℕ) → Meets (labels_of vs) words v
    → Satisfies (partition_of vs words) v
satisfies_from vs words v s = record {
  same = λ x h. s.same x (omega (arith, sorts_length, labels_length));
  apart = λ x y p q m. s.apart x y (omega (arith, sorts_length, labels_length)) (omega (
    arith,
    sorts_length,
    labels_length,
  )) (sym (row_at (length vs) words x y (omega (arith, sorts_length)) q) ∙ m);
}
  where
    sorts_length : length (map (λ (w : Variable). w.sort) vs) ≡ length vs
    sorts_length = length-map vs (λ (w : Variable). w.sort)

    labels_length : length (labels_of vs) ≡ length vs
    labels_length = length-map vs (λ (w : Variable). w.label)

-- each variable its label
pub generic_meets : (labels words : List ℕ) → IsProper labels words → Meets labels words (slice_index labels)
generic_meets labels words h = record { same = λ x p. sym (h.root x p); apart = h.apart }

-- each variable its label, and b as a
abbrev merged : List ℕ → ℕ → ℕ → ℕ → ℕ
merged labels a b x = cond (slice_index labels x == b) a (slice_index labels x)

two_labels : (a b m n : ℕ) → m ≢ n → cond (m == b) a m ≡ cond (n == b) a n → ((m ≡ a) × (n ≡ b)) ⊎ ((m ≡ b) × (n ≡ a))
two_labels a b m n differ same = elim (cases_eq m b) [
  | inl e ↦ inr (e, grind (arith, nat_tests))
  | inr f ↦ inl (grind (arith, nat_tests), grind (arith, nat_tests))
]

merged_meets : (labels words : List ℕ) → IsProper labels words → (a b : ℕ) → are_marked words a b ≡ false
    → Meets labels words (merged labels a b)
merged_meets labels words h a b free = record {
  same = λ x p. ap (λ n. cond (n == b) a n) (sym (h.root x p));
  apart = λ x y p q m e.
      let marked : are_marked words (slice_index labels x) (slice_index labels y) ≡ true = h.marked x y p q m in
      elim (two_labels a b (slice_index labels x) (slice_index labels y) (h.apart x y p q m) e) [
        | inl f ↦ let one : are_marked words a b ≡ true = sym (ap (λ n. are_marked words n (slice_index labels y)) f.0
            ∙ ap (are_marked words a) f.1) ∙ marked in cc
        | inr f ↦ let one : are_marked words b a ≡ true = sym (ap (λ n. are_marked words n (slice_index labels y)) f.0
            ∙ ap (are_marked words b) f.1) ∙ marked in
            let two : are_marked words b a ≡ are_marked words a b = are_marked_comm words b a in cc
      ];
}

merged_same : (a b : ℕ) → cond (a == b) a a ≡ cond (b == b) a b
merged_same a b = grind (arith, nat_tests)

-- labels that are marked differ under each valuation
pub marked_differ : (labels words : List ℕ) → IsProper labels words → (x y : ℕ) → x < length labels → y < length labels
    → are_marked words (slice_index labels x) (slice_index labels y) ≡ true → (v : ℕ → ℕ) → Meets labels words v
    → v x ≢ v y
marked_differ labels words h x y p q m v s e =
    let x_low : slice_index labels x ≤ x = h.least x p in
    let y_low : slice_index labels y ≤ y = h.least y q in
    s.apart (slice_index labels x) (slice_index labels y) (omega arith) (omega arith) m (sym (s.same x p)
    ∙ e ∙ s.same y q)

pub may_equal_exact : (vs : List Variable) (words : List ℕ) → IsProper (labels_of vs) words → (x y : ℕ)
    → x < length (map (λ (w : Variable). w.sort) vs) → y < length (map (λ (w : Variable). w.sort) vs)
    → IsTrue (not (are_marked words (slice_index (labels_of vs) x) (slice_index (labels_of vs) y))) ↔
    Allows (partition_of vs words) (λ v. v x ≡ v y)
may_equal_exact vs words h x y p q = (
  (λ t. (
    merged labels a b,
    satisfies_from vs words (merged labels a b) (merged_meets labels words h
        a b (not-true _ t)),
    merged_same a b,
  )),
  (λ w. elim (cases_Bool (are_marked words a b)) [
    | inl m ↦ absurd (marked_differ labels words h x y x_in y_in m w.0 (meets_from vs words w.0 w.1) w.2)
    | inr m ↦ not_from_false _ m
  ]),
)
  where
    labels : List ℕ
    labels = labels_of vs

    a : ℕ
    a = slice_index (labels_of vs) x

    b : ℕ
    b = slice_index (labels_of vs) y

    x_in : x < length (labels_of vs)
    x_in = omega (arith, length-map vs (λ (w : Variable). w.sort), length-map vs (λ (w : Variable). w.label))

    y_in : y < length (labels_of vs)
    y_in = omega (arith, length-map vs (λ (w : Variable). w.sort), length-map vs (λ (w : Variable). w.label))

pub may_differ_exact : (vs : List Variable) (words : List ℕ) → IsProper (labels_of vs) words → (x y : ℕ)
    → x < length (map (λ (w : Variable). w.sort) vs) → y < length (map (λ (w : Variable). w.sort) vs)
    → IsTrue (not (slice_index (labels_of vs) x == slice_index (labels_of vs) y)) ↔ Allows (partition_of vs words)
    (λ v. v x ≢ v y)
may_differ_exact vs words h x y p q = (
  (λ t. (
    slice_index (labels_of vs),
    satisfies_from vs words (slice_index (labels_of vs))
        (generic_meets (labels_of vs) words h),
    eqb-false (slice_index (labels_of vs) x) (slice_index (labels_of vs) y)
        (not-true _ t),
  )),
  (λ w.
      let s : Meets (labels_of vs) words w.0 = meets_from vs words w.0 w.1 in
      let x_in : x < length (labels_of vs) = omega (
        arith,
        length-map vs (λ (w : Variable). w.sort),
        length-map vs (λ (w : Variable). w.label),
      ) in
      let y_in : y < length (labels_of vs) = omega (
        arith,
        length-map vs (λ (w : Variable). w.sort),
        length-map vs (λ (w : Variable). w.label),
      ) in
      not_from_false _ (ne_eqb (slice_index (labels_of vs) x) (slice_index (labels_of vs) y)
      (λ e. w.2 (s.same x x_in ∙ ap w.0 e ∙ sym (s.same y y_in))))),
)

pub satisfiable : (vs : List Variable) (words : List ℕ) → IsProper (labels_of vs) words
    → IsSatisfiable (partition_of vs words)
satisfiable vs words h = (
  slice_index (labels_of vs),
  satisfies_from vs words (slice_index (labels_of vs))
      (generic_meets (labels_of vs) words h),
)

pub pick_same : (vs : List Variable) (words : List ℕ) (x : ℕ) → x < length (map (λ (w : Variable). w.sort) vs)
    → Implies (partition_of vs words) (λ v. v (slice_index (labels_of vs) x) ≡ v x)
pick_same vs words x h v s = sym (s.same x h)

pub pick_least : (vs : List Variable) (words : List ℕ) → IsProper (labels_of vs) words → (x y : ℕ)
    → x < length (map (λ (w : Variable). w.sort) vs)
    → Implies (partition_of vs words) (λ v. v y ≡ v x) → slice_index (labels_of vs) x ≤ y
pick_least vs words h x y p same =
    let x_in : x < length (labels_of vs) = omega (
      arith,
      length-map vs (λ (w : Variable). w.sort),
      length-map vs (λ (w : Variable). w.label),
    ) in
    let low : slice_index (labels_of vs) x ≤ x = h.least x x_in in
    elim (cases_lt y (length (labels_of vs))) [
      | inl q ↦
          let one : slice_index (labels_of vs) y ≡ slice_index (labels_of vs) x =
          same (slice_index (labels_of vs)) (satisfies_from vs words (slice_index (labels_of vs))
          (generic_meets (labels_of vs) words h)) in
          let y_low : slice_index (labels_of vs) y ≤ y = h.least y q in omega arith
      | inr q ↦ omega arith
    ]

-- one more variable
label_old : (labels : List ℕ) (n x : ℕ) → x < length labels → slice_index (labels ++ n ∷ []) x ≡ slice_index labels x
label_old labels n x h = get_or_append_left labels (n ∷ []) 0 x h

label_new : (labels : List ℕ) → slice_index (labels ++ length labels ∷ []) (length labels) ≡ length labels
label_new labels = get_or_at labels (length labels) [] 0 (length labels) refl

pub fresh_proper : (labels words : List ℕ) → IsProper labels words → length labels + 1 < 2 ^ 32
    → IsProper (labels ++ length labels ∷ []) words
fresh_proper labels words h few = record {
  few = omega (arith, length_push labels (length labels));
  least = λ x p. elim (cases_lt x (length labels)) [
    | inl q ↦ rw (label_old labels (length labels) x q) (h.least x q)
    | inr q ↦ rw (is_last x p q, label_new labels) (omega arith)
  ];
  root = λ x p. elim (cases_lt x (length labels)) [
    | inl q ↦ let low : slice_index labels x ≤ x = h.least x q in
        rw (label_old labels (length labels) x q, label_old labels (length labels) (slice_index labels x) (omega arith))
        (h.root x q)
    | inr q ↦ rw (is_last x p q, label_new labels) (label_new labels)
  ];
  apart = λ x y p q m. let parts = both_old x y p q m in
      rw (label_old labels (length labels) x parts.0, label_old labels (length labels) y parts.1)
      (h.apart x y parts.0 parts.1 m);
  marked = λ x y p q m. let parts = both_old x y p q m in
      rw (label_old labels (length labels) x parts.0, label_old labels (length labels) y parts.1)
      (h.marked x y parts.0 parts.1 m);
  unmarked = λ x y p. h.unmarked x y (omega (arith, length_push labels (length labels)));
}
  where
    is_last : (x : ℕ) → x < length (labels ++ length labels ∷ []) → length labels ≤ x → x ≡ length labels
    is_last x p q = omega (arith, length_push labels (length labels))

    both_old : (x y : ℕ) → x < length (labels ++ length labels ∷ []) → y < length (labels ++ length labels ∷ [])
        → are_marked words x y ≡ true → (x < length labels) × (y < length labels)
    both_old x y p q m = elim (cases_lt x (length labels)) [
      | inr f ↦ let none : are_marked words x y ≡ false = h.unmarked x y f in cc
      | inl e ↦ elim (cases_lt y (length labels)) [
        | inl f ↦ (e, f)
        | inr f ↦ let none : are_marked words x y ≡ false = are_marked_comm words x y ∙ h.unmarked y x f in cc
      ]
    ]

fresh_meets : (labels words : List ℕ) (v : ℕ → ℕ) → IsProper labels words
    → Meets (labels ++ length labels ∷ []) words v ↔ Meets labels words v
fresh_meets labels words v h = (
  (λ s. record {
    same = λ x p. s.same x (omega (arith, length_push labels (length labels)))
        ∙ ap v (label_old labels (length labels) x p);
    apart = λ x y p q. s.apart x y (omega (arith, length_push labels (length labels)))
        (omega (arith, length_push labels (length labels)));
  }),
  (λ s. record {
    same = λ x p. elim (cases_lt x (length labels)) [
      | inl q ↦ s.same x q ∙ ap v (sym (label_old labels (length labels) x q))
      | inr q ↦ let last : x ≡ length labels = omega (arith, length_push labels (length labels)) in
          rw (last, label_new labels) refl
    ];
    apart = λ x y p q m. elim (cases_lt x (length labels)) [
      | inr f ↦ let none : are_marked words x y ≡ false = h.unmarked x y f in cc
      | inl e ↦ elim (cases_lt y (length labels)) [
        | inl f ↦ s.apart x y e f m
        | inr f ↦ let none : are_marked words x y ≡ false = are_marked_comm words x y ∙ h.unmarked y x f in cc
      ]
    ];
  }),
)

pub fresh_kept : (vs : List Variable) (w : Variable) (words : List ℕ) → IsProper (labels_of vs) words
    → w.label ≡ length vs → (v : ℕ → ℕ)
    → Satisfies (partition_of (vs ++ w ∷ []) words) v ↔ Satisfies (partition_of vs words) v
fresh_kept vs w words h e v = (
  (λ s. satisfies_from vs words v ((fresh_meets (labels_of vs) words v h).0
      (rw labels_more at (meets_from (vs ++ w ∷ []) words v s)))),
  (λ s. satisfies_from (vs ++ w ∷ []) words v (rw labels_more ((fresh_meets (labels_of vs) words v h).1
      (meets_from vs words v s)))),
)
  where
    labels_more : labels_of (vs ++ w ∷ []) ≡ labels_of vs ++ length (labels_of vs) ∷ []
    labels_more = map-append (λ (u : Variable). u.label) vs (w ∷ []) ∙ ap (λ n. labels_of vs ++ n ∷ [])
        (e ∙ sym (length-map vs (λ (u : Variable). u.label)))

pub fresh_labels : (vs : List Variable) (sort : ℕ) → labels_of (vs ++ record { sort = sort; label = length vs } ∷ [])
    ≡ labels_of vs ++ length (labels_of vs) ∷ []
fresh_labels vs sort = map-append (λ (u : Variable). u.label) vs (record { sort = sort; label = length vs } ∷ [])
    ∙ ap (λ n. labels_of vs ++ n ∷ []) (sym (length-map vs (λ (u : Variable). u.label)))

pub empty_proper : IsProper [] []
empty_proper = record {
  few = omega arith;
  least = λ x h. absurd (omega arith);
  root = λ x h. absurd (omega arith);
  apart = λ x y h. absurd (omega arith);
  marked = λ x y h. absurd (omega arith);
  unmarked = λ x y h. nothing_marked x y;
}
