-- Classes and differences keep to sorts.
use Rattle.std.proofs.Common.{◌≡◌, ◌<◌, ◌≤◌, ◌||◌, ◌++◌, ◌∷◌, [], ℕ, false, min, max, List, length}
use Rattle.std.proofs.Common.{map, slice_index, inl, inr, refl, sym, ap, ◌∙◌, arith}
use Rattle.std.proofs.lemmas.Bool.{cases_eq, cases_lt, or_cases}
use Rattle.std.proofs.lemmas.List.{get_or_append_left, get_or_at, length_push, length-map, map-append}
use Rattle.cm_sorts.specs.declared.words.Variable.{Variable}
use Rattle.cm_sorts.specs.inner.Pairs.{is_set, are_marked, is_pair}
use Rattle.cm_sorts.specs.Partition.{KeepsToSorts}
use Rattle.cm_sorts.specs.inner.Words.{labels_of, sorts_of, partition_of, IsProper, AreOfOneSort, is_shared, renamed}
use Rattle.cm_sorts.specs.inner.Words.{relabelled}
use Rattle.cm_sorts.proofs.Sharing.{are_marked_comm}
use Rattle.cm_sorts.proofs.Joining.{shared_by, joined_label, pair_by, renamed_gone, renamed_other, marks_same}
use Rattle.cm_sorts.proofs.Joining.{labels_relabelled, sorts_relabelled, sorts_in}
use Rattle.cm_sorts.proofs.Valuations.{row_at}

pub none_sorted : AreOfOneSort [] [] []
none_sorted = record { classes = λ x h. absurd (omega arith); marks = λ x y h. absurd (omega arith) }

-- one more variable, in a class of its own
pub fresh_sorted : (sorts labels words : List ℕ) (s : ℕ) → IsProper labels words → length sorts ≡ length labels
    → AreOfOneSort sorts labels words → AreOfOneSort (sorts ++ s ∷ []) (labels ++ length labels ∷ []) words
fresh_sorted sorts labels words s proper long h = record {
  classes = λ x p. elim (cases_lt x (length labels)) [
    | inl q ↦ let low : slice_index labels x ≤ x = proper.least x q in
        ap (slice_index (sorts ++ s ∷ [])) (get_or_append_left labels (length labels ∷ []) 0 x q)
        ∙ sort_old (slice_index labels x) (omega (arith, long)) ∙ h.classes x q ∙ sym (sort_old x (omega (arith, long)))
    | inr q ↦ let last : x ≡ length labels = omega (arith, length_push labels (length labels)) in
        ap (slice_index (sorts ++ s ∷ [])) (rw last (label_new) ∙ sym last)
  ];
  marks = λ x y p q m. elim (cases_lt x (length labels)) [
    | inr f ↦ let none : are_marked words x y ≡ false = proper.unmarked x y f in cc
    | inl e ↦ elim (cases_lt y (length labels)) [
      | inr f ↦ let none : are_marked words x y ≡ false = are_marked_comm words x y ∙ proper.unmarked y x f in cc
      | inl f ↦ sort_old x (omega (arith, long)) ∙ h.marks x y e f m ∙ sym (sort_old y (omega (arith, long)))
    ]
  ];
}
  where
    sort_old : (x : ℕ) → x < length sorts → slice_index (sorts ++ s ∷ []) x ≡ slice_index sorts x
    sort_old x h = get_or_append_left sorts (s ∷ []) 0 x h

    label_new : slice_index (labels ++ length labels ∷ []) (length labels) ≡ length labels
    label_new = get_or_at labels (length labels) [] 0 (length labels) refl

-- the same marks
pub same_sorted : (sorts labels words new : List ℕ) → ((k : ℕ) → is_set new k ≡ is_set words k)
    → AreOfOneSort sorts labels words → AreOfOneSort sorts labels new
same_sorted sorts labels words new same h = record {
  classes = h.classes;
  marks = λ x y p q m. h.marks x y p q (sym (marks_same words new same x y) ∙ m);
}

-- two labels marked, which are of one sort
pub marked_sorted : (sorts labels words new : List ℕ) (a b : ℕ) → slice_index sorts a ≡ slice_index sorts b
    → ((i j : ℕ) → are_marked new i j ≡ (are_marked words i j || is_pair a b i j))
    → AreOfOneSort sorts labels words → AreOfOneSort sorts labels new
marked_sorted sorts labels words new a b one marks h = record {
  classes = h.classes;
  marks = λ x y p q m. elim (or_cases (are_marked words x y) (is_pair a b x y) (sym (marks x y) ∙ m)) [
    | inl k ↦ h.marks x y p q k
    | inr k ↦ elim (pair_by a b x y k) [
      | inl f ↦ rw (f.0, f.1) one
      | inr f ↦ rw (f.0, f.1) (sym one)
    ]
  ];
}

-- the class of `gone` taken into that of `keep`
pub joined_sorted : (sorts labels words new : List ℕ) (keep gone : ℕ) → gone < length labels
    → slice_index sorts keep ≡ slice_index sorts gone
    → ((i j : ℕ) → are_marked new i j ≡ (are_marked words i j || is_shared words keep gone (length labels) i j))
    → AreOfOneSort sorts labels words → AreOfOneSort sorts (map (renamed gone keep) labels) new
joined_sorted sorts labels words new keep gone in_list one marks h = record {
  classes = λ x p. let q = within x p in
      ap (slice_index sorts) (joined_label labels keep gone x q)
      ∙ (elim (cases_eq (slice_index labels x) gone) [
        | inl e ↦ ap (slice_index sorts) (renamed_gone gone keep (slice_index labels x) e) ∙ one
            ∙ ap (slice_index sorts) (sym e) ∙ h.classes x q
        | inr f ↦ ap (slice_index sorts) (renamed_other gone keep (slice_index labels x) f) ∙ h.classes x q
      ]);
  marks = λ x y p q m. elim (or_cases (are_marked words x y) (is_shared words keep gone (length labels) x y)
      (sym (marks x y) ∙ m)) [
        | inl k ↦ h.marks x y (within x p) (within y q) k
        | inr k ↦ elim (shared_by words keep gone (length labels) x y k) [
          | inl f ↦ ap (slice_index sorts) f.0 ∙ one ∙ h.marks gone y in_list f.1 f.2
          | inr f ↦ sym (ap (slice_index sorts) f.0 ∙ one ∙ h.marks gone x in_list f.1 f.2)
        ]
      ];
}
  where
    within : (x : ℕ) → x < length (map (renamed gone keep) labels) → x < length labels
    within x p = rw (length-map labels (renamed gone keep)) at p

-- the labels of two variables of one sort are of one sort
pub labels_of_one_sort : (vs : List Variable) (words : List ℕ) (x y a b : ℕ)
    → AreOfOneSort (sorts_of vs) (labels_of vs) words → x < length (sorts_of vs) → y < length (sorts_of vs)
    → a ≡ slice_index (labels_of vs) x → b ≡ slice_index (labels_of vs) y
    → slice_index (sorts_of vs) x ≡ slice_index (sorts_of vs) y
    → slice_index (sorts_of vs) a ≡ slice_index (sorts_of vs) b
labels_of_one_sort vs words x y a b h p q e f one =
    ap (slice_index (sorts_of vs)) e ∙ h.classes x (sorts_in vs x p) ∙ one
    ∙ sym (h.classes y (sorts_in vs y q)) ∙ sym (ap (slice_index (sorts_of vs)) f)

-- what `equal` leaves
pub equal_sorted : (vs : List Variable) (words new : List ℕ) (x y a b : ℕ) → IsProper (labels_of vs) words
    → AreOfOneSort (sorts_of vs) (labels_of vs) words → x < length (sorts_of vs) → y < length (sorts_of vs)
    → a ≡ slice_index (labels_of vs) x → b ≡ slice_index (labels_of vs) y
    → slice_index (sorts_of vs) x ≡ slice_index (sorts_of vs) y
    → ((i j : ℕ) → are_marked new i j ≡ (are_marked words i j || is_shared words (min a b) (max a b) (length vs) i j))
    → AreOfOneSort (sorts_of (map (relabelled (max a b) (min a b)) vs))
    (labels_of (map (relabelled (max a b) (min a b)) vs)) new
equal_sorted vs words new x y a b proper h p q e f one marks =
    let a_in : a < length (labels_of vs) = let low = proper.least x (sorts_in vs x p) in let there = sorts_in vs x p in
    omega arith in
    let b_in : b < length (labels_of vs) = let low = proper.least y (sorts_in vs y q) in let there = sorts_in vs y q in
    omega arith in
    let same = labels_of_one_sort vs words x y a b h p q e f one in
    rw (labels_relabelled (max a b) (min a b) vs, sorts_relabelled (max a b) (min a b) vs)
    (joined_sorted (sorts_of vs) (labels_of vs) words new (min a b) (max a b) (omega arith) (extremes_same a b same)
    (rw (length-map vs (λ (w : Variable). w.label)) marks) h)
  where
    extremes_same : (a b : ℕ) → slice_index (sorts_of vs) a ≡ slice_index (sorts_of vs) b
        → slice_index (sorts_of vs) (min a b) ≡ slice_index (sorts_of vs) (max a b)
    extremes_same a b same = elim (cases_lt a b) [
      | inl k ↦ let u : max a b ≡ b = omega arith in let w : min a b ≡ a = omega arith in rw (u, w) same
      | inr k ↦ let u : max a b ≡ a = omega arith in let w : min a b ≡ b = omega arith in rw (u, w) (sym same)
    ]

-- so a partition keeps to sorts
pub keeps_to_sorts : (vs : List Variable) (words : List ℕ) → AreOfOneSort (sorts_of vs) (labels_of vs) words
    → KeepsToSorts (partition_of vs words)
keeps_to_sorts vs words h = record {
  classes = λ x p. h.classes x (sorts_in vs x p);
  apart = λ x y p q m. h.marks x y (sorts_in vs x p) (omega (arith, sorts_in vs x p))
      (sym (row_at (length vs) words x y (omega (arith, length-map vs (λ (w : Variable). w.sort))) q) ∙ m);
}

pub fresh_sorts : (vs : List Variable) (sort : ℕ)
    → sorts_of (vs ++ record { sort = sort; label = length vs } ∷ []) ≡ sorts_of vs ++ sort ∷ []
fresh_sorts vs sort = map-append (λ (v : Variable). v.sort) vs (record { sort = sort; label = length vs } ∷ [])
