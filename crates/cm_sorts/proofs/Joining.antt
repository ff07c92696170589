-- Two classes become one, and two classes differ.
use Rattle.std.proofs.Common.{◌≡◌, ◌≢◌, ◌<◌, ◌≤◌, ◌+◌, ◌*◌, ◌/◌, ◌==◌, ◌&&◌, ◌||◌, ◌↔◌, ◌⊎◌, inl, inr, ℕ, Bool, true}
use Rattle.std.proofs.Common.{false, not, min, max, nat_lt, nat_le, List, [], ◌∷◌, length, map, slice_index, refl, sym}
use Rattle.std.proofs.Common.{ap, ◌∙◌, arith}
use Rattle.std.proofs.lemmas.Bool.{cases_eq, cases_lt, or_cases, or_from, or_left, or_right, and_parts, and_from}
use Rattle.std.proofs.lemmas.Bool.{and_right, eq-eqb, ne_eqb, eqb-true, lt-ltb, le-ltb, ltb-true, le-leb, leb-true}
use Rattle.std.proofs.lemmas.Bool.{lt-leb}
use Rattle.std.proofs.lemmas.Bool.{not-true}
use Rattle.std.proofs.lemmas.List.{length-map, get_or-map}
use Rattle.std.specs.List.{range_with_len}
use Rattle.cm_sorts.specs.declared.words.Variable.{Variable}
use Rattle.cm_sorts.specs.inner.Pairs.{pairs_below, place, is_set, are_marked, is_pair}
use Rattle.cm_sorts.specs.Partition.{Satisfies, Allows, Keeps}
use Rattle.cm_sorts.specs.inner.Words.{labels_of, rows_of, partition_of, IsProper, is_shared, renamed, relabelled}
use Rattle.cm_sorts.proofs.Sharing.{are_marked_comm}
use Rattle.cm_sorts.proofs.Triangle.{pairs_below_grow}
use Rattle.cm_sorts.proofs.Valuations.{Meets, may_equal_exact, meets_from, satisfies_from}

pub renamed_gone : (gone keep n : ℕ) → n ≡ gone → renamed gone keep n ≡ keep
renamed_gone gone keep n e = rw (eq-eqb n gone e) refl

pub renamed_other : (gone keep n : ℕ) → (n ≡ gone → ⊥) → renamed gone keep n ≡ n
renamed_other gone keep n f = rw (ne_eqb n gone f) refl

pub shared_by : (words : List ℕ) (keep gone n i j : ℕ) → is_shared words keep gone n i j ≡ true
    → ((i ≡ keep) × (j < n) × (are_marked words gone j ≡ true))
    ⊎ ((j ≡ keep) × (i < n) × (are_marked words gone i ≡ true))
shared_by words keep gone n i j h = elim (or_cases (i == keep && (nat_lt j n && are_marked words gone j))
    (j == keep && (nat_lt i n && are_marked words gone i)) h) [
      | inl e ↦ let a = and_parts (i == keep) (nat_lt j n && are_marked words gone j) e in
          let b = and_parts (nat_lt j n) (are_marked words gone j) a.1 in
          inl (eqb-true i keep a.0, ltb-true j n b.0, b.1)
      | inr e ↦ let a = and_parts (j == keep) (nat_lt i n && are_marked words gone i) e in
          let b = and_parts (nat_lt i n) (are_marked words gone i) a.1 in
          inr (eqb-true j keep a.0, ltb-true i n b.0, b.1)
    ]

shared_left : (words : List ℕ) (keep gone n j : ℕ) → j < n → are_marked words gone j ≡ true
    → is_shared words keep gone n keep j ≡ true
shared_left words keep gone n j p m = rw (eq-eqb keep keep refl, lt-ltb j n p, m) refl

shared_right : (words : List ℕ) (keep gone n i : ℕ) → i < n → are_marked words gone i ≡ true
    → is_shared words keep gone n i keep ≡ true
shared_right words keep gone n i p m = or_right (i == keep && (nat_lt keep n && are_marked words gone keep))
    _ (rw (eq-eqb keep keep refl, lt-ltb i n p, m) refl)

-- what is given of two classes that become one
pub record Joins (labels words new : List ℕ) (keep gone : ℕ) : Type 0 where
  pub proper : IsProper labels words
  pub lesser : keep < gone
  pub within : gone < length labels
  pub keep_root : slice_index labels keep ≡ keep
  pub gone_root : slice_index labels gone ≡ gone
  pub may : are_marked words gone keep ≡ false
  pub marks : (i j : ℕ) → are_marked new i j ≡ (are_marked words i j || is_shared words keep gone (length labels) i j)

abbrev joined : List ℕ → ℕ → ℕ → List ℕ
joined labels keep gone = map (renamed gone keep) labels

pub joined_label : (labels : List ℕ) (keep gone x : ℕ) → x < length labels
    → slice_index (joined labels keep gone) x ≡ renamed gone keep (slice_index labels x)
joined_label labels keep gone x h = get_or-map (renamed gone keep) labels x 0 0 h

linked : (labels words new : List ℕ) (keep gone : ℕ) → Joins labels words new keep gone → (p q : ℕ) → p < length labels
    → q < length labels → p ≢ q → are_marked words p q ≡ true
    → (renamed gone keep p ≢ renamed gone keep q) × (are_marked new (renamed gone keep p) (renamed gone keep q) ≡ true)
linked labels words new keep gone h p q a b differ m = elim (cases_eq p gone) [
  | inl e ↦
      let m' : are_marked words gone q ≡ true = sym (ap (λ n. are_marked words n q) e) ∙ m in
      let apart : q ≡ keep → ⊥ = λ f. (let k : are_marked words gone q ≡ are_marked words gone keep =
      ap (are_marked words gone) f in cc (k, h.may, m')) in
      let other : q ≡ gone → ⊥ = λ f. differ (e ∙ sym f) in
      rw (renamed_gone gone keep p e, renamed_other gone keep q other) (
        (λ f. apart (sym f)),
        h.marks keep q ∙ or_right (are_marked words keep q) _ (shared_left words keep gone (length labels) q b m'),
      )
  | inr e ↦ elim (cases_eq q gone) [
    | inl f ↦
        let m' : are_marked words gone p ≡ true = are_marked_comm words gone p ∙ sym (ap (are_marked words p) f) ∙ m in
        let apart : p ≡ keep → ⊥ = λ g. (let k : are_marked words gone p ≡ are_marked words gone keep =
        ap (are_marked words gone) g in cc (k, h.may, m')) in
        rw (renamed_other gone keep p e, renamed_gone gone keep q f) (
          apart,
          h.marks p keep
              ∙ or_right (are_marked words p keep) _ (shared_right words keep gone (length labels) p a m'),
        )
    | inr f ↦ rw (renamed_other gone keep p e, renamed_other gone keep q f) (
      differ,
      h.marks p q
          ∙ or_left (are_marked words p q) _ m,
    )
  ]
]

pub joined_apart : (labels words new : List ℕ) (keep gone : ℕ) → Joins labels words new keep gone → (x y : ℕ)
    → x < length labels → y < length labels → are_marked new x y ≡ true
    → (renamed gone keep (slice_index labels x) ≢ renamed gone keep (slice_index labels y))
    × (are_marked new (renamed gone keep (slice_index labels x)) (renamed gone keep (slice_index labels y)) ≡ true)
joined_apart labels words new keep gone h x y a b m =
    elim (or_cases (are_marked words x y) (is_shared words keep gone (length labels) x y) (sym (h.marks x y) ∙ m)) [
      | inl e ↦ linked labels words new keep gone h (slice_index labels x) (slice_index labels y) (low x a)
          (low y b) (h.proper.apart x y a b e) (h.proper.marked x y a b e)
      | inr e ↦ elim (shared_by words keep gone (length labels) x y e) [
        | inl f ↦
            let k = linked labels words new keep gone h gone (slice_index labels y) h.within (low y b)
            (rw h.gone_root at (h.proper.apart gone y h.within b f.2))
            (rw h.gone_root at (h.proper.marked gone y h.within b f.2)) in
            rw (f.0, h.keep_root, renamed_other gone keep keep (omega (arith, h.lesser)))
            (rw (renamed_gone gone keep gone refl) at k)
        | inr f ↦
            let m' : are_marked words x gone ≡ true = are_marked_comm words x gone ∙ f.2 in
            let k = linked labels words new keep gone h (slice_index labels x) gone (low x a) h.within
            (rw h.gone_root at (h.proper.apart x gone a h.within m'))
            (rw h.gone_root at (h.proper.marked x gone a h.within m')) in
            rw (f.0, h.keep_root, renamed_other gone keep keep (omega (arith, h.lesser)))
            (rw (renamed_gone gone keep gone refl) at k)
      ]
    ]
  where
    low : (n : ℕ) → n < length labels → slice_index labels n < length labels
    low n p = let l : slice_index labels n ≤ n = h.proper.least n p in omega arith

pub joined_proper : (labels words new : List ℕ) (keep gone : ℕ) → Joins labels words new keep gone
    → IsProper (joined labels keep gone) new
joined_proper labels words new keep gone h = record {
  few = rw (length-map labels (renamed gone keep)) h.proper.few;
  least = λ x p. let q = within x p in let l : slice_index labels x ≤ x = h.proper.least x q in
      rw (joined_label labels keep gone x q) (elim (cases_eq (slice_index labels x) gone) [
        | inl e ↦ rw (renamed_gone gone keep (slice_index labels x) e) (omega (arith, h.lesser))
        | inr f ↦ rw (renamed_other gone keep (slice_index labels x) f) l
      ]);
  root = λ x p. let q = within x p in let l : slice_index labels x ≤ x = h.proper.least x q in
      rw (joined_label labels keep gone x q) (elim (cases_eq (slice_index labels x) gone) [
        | inl e ↦ rw (renamed_gone gone keep (slice_index labels x) e)
            (joined_label labels keep gone keep (omega (arith, h.lesser, h.within)) ∙ ap (renamed gone keep) h.keep_root
            ∙ renamed_other gone keep keep (omega (arith, h.lesser)))
        | inr f ↦ rw (renamed_other gone keep (slice_index labels x) f)
            (joined_label labels keep gone (slice_index labels x) (omega arith)
            ∙ ap (renamed gone keep) (h.proper.root x q) ∙ renamed_other gone keep (slice_index labels x) f)
      ]);
  apart = λ x y p q m. rw (joined_label labels keep gone x (within x p), joined_label labels keep gone y (within y q))
      ((joined_apart labels words new keep gone h x y (within x p) (within y q) m).0);
  marked = λ x y p q m. rw (joined_label labels keep gone x (within x p), joined_label labels keep gone y (within y q))
      ((joined_apart labels words new keep gone h x y (within x p) (within y q) m).1);
  unmarked = λ x y p. let q : length labels ≤ x = rw (length-map labels (renamed gone keep)) at p in
      h.marks x y ∙ or_from (are_marked words x y) _ (h.proper.unmarked x y q) (not_shared x y q);
}
  where
    within : (x : ℕ) → x < length (joined labels keep gone) → x < length labels
    within x p = rw (length-map labels (renamed gone keep)) at p

    not_shared : (x y : ℕ) → length labels ≤ x → is_shared words keep gone (length labels) x y ≡ false
    not_shared x y q = rw (ne_eqb x keep (omega (arith, h.lesser, h.within)), le-ltb x (length labels) q)
        (and_right (y == keep) false refl)

pub joined_meets : (labels words new : List ℕ) (keep gone : ℕ) → Joins labels words new keep gone → (v : ℕ → ℕ)
    → Meets (joined labels keep gone) new v ↔ (Meets labels words v × (v keep ≡ v gone))
joined_meets labels words new keep gone h v = (
  (λ s.
      let one : v gone ≡ v keep = s.same gone (rw (length-map labels (renamed gone keep)) h.within)
      ∙ ap v (joined_label labels keep gone gone h.within ∙ ap (renamed gone keep) h.gone_root
      ∙ renamed_gone gone keep gone refl) in (
        record {
          same = λ x p. s.same x (rw (length-map labels (renamed gone keep)) p)
              ∙ ap v (joined_label labels keep gone x p) ∙ (elim (cases_eq (slice_index labels x) gone) [
                | inl e ↦ ap v (renamed_gone gone keep (slice_index labels x) e) ∙ sym one ∙ ap v (sym e)
                | inr f ↦ ap v (renamed_other gone keep (slice_index labels x) f)
              ]);
          apart = λ x y p q m. s.apart x y (rw (length-map labels (renamed gone keep)) p)
              (rw (length-map labels (renamed gone keep)) q) (h.marks x y ∙ or_left (are_marked words x y) _ m);
        },
        sym one,
      )),
  (λ t. record {
    same = λ x p. let q = within x p in t.0.same x q ∙ (elim (cases_eq (slice_index labels x) gone) [
      | inl e ↦ ap v e ∙ sym t.1 ∙ ap v (sym (joined_label labels keep gone x q
          ∙ renamed_gone gone keep (slice_index labels x) e))
      | inr f ↦ ap v (sym (joined_label labels keep gone x q ∙ renamed_other gone keep (slice_index labels x) f))
    ]);
    apart = λ x y p q m e. elim (or_cases (are_marked words x y) (is_shared words keep gone (length labels) x y)
        (sym (h.marks x y) ∙ m)) [
          | inl k ↦ t.0.apart x y (within x p) (within y q) k e
          | inr k ↦ elim (shared_by words keep gone (length labels) x y k) [
            | inl f ↦ t.0.apart gone y h.within f.1 f.2 (sym t.1 ∙ ap v (sym f.0) ∙ e)
            | inr f ↦ t.0.apart gone x h.within f.1 f.2 (sym t.1 ∙ ap v (sym f.0) ∙ sym e)
          ]
        ];
  }),
)
  where
    within : (x : ℕ) → x < length (joined labels keep gone) → x < length labels
    within x p = rw (length-map labels (renamed gone keep)) at p

-- two classes that differ
pub record Parts (labels words new : List ℕ) (a b : ℕ) : Type 0 where
  pub proper : IsProper labels words
  pub first : a < length labels
  pub second : b < length labels
  pub first_root : slice_index labels a ≡ a
  pub second_root : slice_index labels b ≡ b
  pub differ : a ≢ b
  pub marks : (i j : ℕ) → are_marked new i j ≡ (are_marked words i j || is_pair a b i j)

pub pair_by : (a b i j : ℕ) → is_pair a b i j ≡ true → ((i ≡ a) × (j ≡ b)) ⊎ ((i ≡ b) × (j ≡ a))
pair_by a b i j h = elim (or_cases (i == a && j == b) (i == b && j == a) h) [
  | inl e ↦ let k = and_parts (i == a) (j == b) e in inl (eqb-true i a k.0, eqb-true j b k.1)
  | inr e ↦ let k = and_parts (i == b) (j == a) e in inr (eqb-true i b k.0, eqb-true j a k.1)
]

pub parted_proper : (labels words new : List ℕ) (a b : ℕ) → Parts labels words new a b → IsProper labels new
parted_proper labels words new a b h = record {
  few = h.proper.few;
  least = h.proper.least;
  root = h.proper.root;
  apart = λ x y p q m. elim (or_cases (are_marked words x y) (is_pair a b x y) (sym (h.marks x y) ∙ m)) [
    | inl k ↦ h.proper.apart x y p q k
    | inr k ↦ elim (pair_by a b x y k) [
      | inl f ↦ rw (f.0, f.1, h.first_root, h.second_root) h.differ
      | inr f ↦ rw (f.0, f.1, h.first_root, h.second_root) (λ e. h.differ (sym e))
    ]
  ];
  marked = λ x y p q m. elim (or_cases (are_marked words x y) (is_pair a b x y) (sym (h.marks x y) ∙ m)) [
    | inl k ↦ h.marks (slice_index labels x) (slice_index labels y)
        ∙ or_left (are_marked words (slice_index labels x) (slice_index labels y)) _ (h.proper.marked x y p q k)
    | inr k ↦ elim (pair_by a b x y k) [
      | inl f ↦ rw (f.0, f.1, h.first_root, h.second_root) (rw (f.0, f.1) at m)
      | inr f ↦ rw (f.0, f.1, h.first_root, h.second_root) (rw (f.0, f.1) at m)
    ]
  ];
  unmarked = λ x y p. h.marks x y ∙ or_from (are_marked words x y) _ (h.proper.unmarked x y p)
      (rw (ne_eqb x a (omega (arith, h.first)), ne_eqb x b (omega (arith, h.second))) refl);
}

pub parted_meets : (labels words new : List ℕ) (a b : ℕ) → Parts labels words new a b → (v : ℕ → ℕ)
    → Meets labels new v ↔ (Meets labels words v × (v a ≢ v b))
parted_meets labels words new a b h v = (
  (λ s. (
    record { same = s.same; apart = λ x y p q m. s.apart x y p q (h.marks x y ∙ or_left (are_marked words x y) _ m) },
    s.apart a b h.first h.second (h.marks a b ∙ or_right (are_marked words a b) _
        (or_left _ _ (and_from (a == a) (b == b) (eq-eqb a a refl) (eq-eqb b b refl)))),
  )),
  (λ t. record {
    same = t.0.same;
    apart = λ x y p q m. elim (or_cases (are_marked words x y) (is_pair a b x y) (sym (h.marks x y) ∙ m)) [
      | inl k ↦ t.0.apart x y p q k
      | inr k ↦ elim (pair_by a b x y k) [
        | inl f ↦ rw (f.0, f.1) t.1
        | inr f ↦ rw (f.0, f.1) (λ e. t.1 (sym e))
      ]
    ];
  }),
)

pub room_for : (n words a b : ℕ) → a < n → b < n → nat_le (pairs_below n) (64 * words) ≡ true → a ≢ b
    → place a b / 64 < words
unfolding place
room_for n words a b p q room differ =
    let more : pairs_below (max a b) + max a b ≤ pairs_below n = pairs_below_grow (max a b) n (omega arith) in
    let enough : pairs_below n ≤ 64 * words = leb-true (pairs_below n) (64 * words) room in
    omega arith

pub sorts_in : (vs : List Variable) (x : ℕ) → x < length (map (λ (w : Variable). w.sort) vs) → x < length (labels_of vs)
sorts_in vs x h = omega (arith, length-map vs (λ (w : Variable). w.sort), length-map vs (λ (w : Variable). w.label))

pub root_of : (labels words : List ℕ) (x a : ℕ) → IsProper labels words → x < length labels → a ≡ slice_index labels x
    → (a < length labels) × (slice_index labels a ≡ a)
root_of labels words x a h p e = let low : slice_index labels x ≤ x = h.least x p in (omega arith, rw e (h.root x p))

differ_parts : (vs : List Variable) (words new : List ℕ) (x y a b : ℕ) → IsProper (labels_of vs) words
    → x < length (map (λ (w : Variable). w.sort) vs) → y < length (map (λ (w : Variable). w.sort) vs)
    → a ≡ slice_index (labels_of vs) x → b ≡ slice_index (labels_of vs) y → a ≢ b
    → ((i j : ℕ) → are_marked new i j ≡ (are_marked words i j || is_pair a b i j)) → Parts (labels_of vs) words new a b
differ_parts vs words new x y a b h p q e f differ marks =
    let one = root_of (labels_of vs) words x a h (sorts_in vs x p) e in
    let two = root_of (labels_of vs) words y b h (sorts_in vs y q) f in
    record {
      proper = h;
      first = one.0;
      second = two.0;
      first_root = one.1;
      second_root = two.1;
      differ =
          differ;
      marks = marks;
    }

pub labels_differ : (vs : List Variable) (words : List ℕ) (x y a b : ℕ) → x < length (map (λ (w : Variable). w.sort) vs)
    → y < length (map (λ (w : Variable). w.sort) vs)
    → a ≡ slice_index (labels_of vs) x → b ≡ slice_index (labels_of vs) y
    → Allows (partition_of vs words) (λ v. v x ≢ v y) → a ≢ b
labels_differ vs words x y a b p q e f may same = may.2 (may.1.same x p ∙ ap may.0 (sym e ∙ same ∙ f)
    ∙ sym (may.1.same y q))

pub differ_proper : (vs : List Variable) (words new : List ℕ) (x y a b : ℕ) → IsProper (labels_of vs) words
    → x < length (map (λ (w : Variable). w.sort) vs) → y < length (map (λ (w : Variable). w.sort) vs)
    → a ≡ slice_index (labels_of vs) x → b ≡ slice_index (labels_of vs) y → a ≢ b
    → ((i j : ℕ) → are_marked new i j ≡ (are_marked words i j || is_pair a b i j)) → IsProper (labels_of vs) new
differ_proper vs words new x y a b h p q e f differ marks = parted_proper (labels_of vs) words new a
    b (differ_parts vs words new x y a b h p q e f differ marks)

pub differ_kept : (vs : List Variable) (words new : List ℕ) (x y a b : ℕ) → IsProper (labels_of vs) words
    → x < length (map (λ (w : Variable). w.sort) vs) → y < length (map (λ (w : Variable). w.sort) vs)
    → a ≡ slice_index (labels_of vs) x → b ≡ slice_index (labels_of vs) y → a ≢ b
    → ((i j : ℕ) → are_marked new i j ≡ (are_marked words i j || is_pair a b i j))
    → Keeps (partition_of vs words) (partition_of vs new) (λ v. v x ≢ v y)
differ_kept vs words new x y a b h p q e f differ marks v = (
  (λ s.
      let t = (parted_meets (labels_of vs) words new a b parts v).0 (meets_from vs new v s) in
      let old : Satisfies (partition_of vs words) v = satisfies_from vs words v t.0 in
      (old, λ same. t.1 (ap v e ∙ sym (old.same x p) ∙ same ∙ old.same y q ∙ ap v (sym f)))),
  (λ s. satisfies_from vs new v ((parted_meets (labels_of vs) words new a b parts v).1
      (meets_from vs words v s.0, λ same. s.1 (s.0.same x p ∙ ap v (sym e) ∙ same ∙ ap v f ∙ sym (s.0.same y q))))),
)
  where
    parts : Parts (labels_of vs) words new a b
    parts = differ_parts vs words new x y a b h p q e f differ marks

pub differ_room : (vs : List Variable) (words : List ℕ) (x y a b : ℕ) → IsProper (labels_of vs) words
    → x < length (map (λ (w : Variable). w.sort) vs) → y < length (map (λ (w : Variable). w.sort) vs)
    → a ≡ slice_index (labels_of vs) x → b ≡ slice_index (labels_of vs) y → a ≢ b
    → nat_le (pairs_below (length vs)) (64 * length words) ≡ true → place a b / 64 < length words
differ_room vs words x y a b h p q e f differ room =
    let one = root_of (labels_of vs) words x a h (sorts_in vs x p) e in
    let two = root_of (labels_of vs) words y b h (sorts_in vs y q) f in
    let long : length (labels_of vs) ≡ length vs = length-map vs (λ (w : Variable). w.label) in
    room_for (length vs) (length words) a b (omega (arith, one.0)) (omega (arith, two.0)) room differ

-- labels and sorts after a new label
pub labels_relabelled : (gone keep : ℕ) (vs : List Variable) → labels_of (map (relabelled gone keep) vs)
    ≡ map (renamed gone keep) (labels_of vs)
labels_relabelled gone keep [] = refl
labels_relabelled gone keep (v ∷ vs) = ap (λ ns. renamed gone keep v.label ∷ ns) (labels_relabelled gone keep vs)

pub sorts_relabelled : (gone keep : ℕ) (vs : List Variable)
    → map (λ (w : Variable). w.sort) (map (relabelled gone keep) vs) ≡ map (λ (w : Variable). w.sort) vs
sorts_relabelled gone keep [] = refl
sorts_relabelled gone keep (v ∷ vs) = ap (λ ns. v.sort ∷ ns) (sorts_relabelled gone keep vs)

pub equal_may : (vs : List Variable) (words : List ℕ) (x y a b : ℕ) → IsProper (labels_of vs) words
    → x < length (map (λ (w : Variable). w.sort) vs) → y < length (map (λ (w : Variable). w.sort) vs)
    → a ≡ slice_index (labels_of vs) x → b ≡ slice_index (labels_of vs) y
    → Allows (partition_of vs words) (λ v. v x ≡ v y) → are_marked words (max a b) (min a b) ≡ false
equal_may vs words x y a b h p q e f may =
    let free : are_marked words (slice_index (labels_of vs) x) (slice_index (labels_of vs) y) ≡ false =
    not-true _ ((may_equal_exact vs words h x y p q).1 may) in
    let one : are_marked words a b ≡ false = rw (e, f) free in
    elim (cases_lt a b) [
      | inl k ↦ let u : max a b ≡ b = omega arith in let w : min a b ≡ a = omega arith in
          rw (u, w) (are_marked_comm words b a ∙ one)
      | inr k ↦ let u : max a b ≡ a = omega arith in let w : min a b ≡ b = omega arith in rw (u, w) one
    ]

equal_joins : (vs : List Variable) (words new : List ℕ) (x y a b : ℕ) → IsProper (labels_of vs) words
    → x < length (map (λ (w : Variable). w.sort) vs) → y < length (map (λ (w : Variable). w.sort) vs)
    → a ≡ slice_index (labels_of vs) x → b ≡ slice_index (labels_of vs) y
    → Allows (partition_of vs words) (λ v. v x ≡ v y) → a ≢ b
    → ((i j : ℕ) → are_marked new i j ≡ (are_marked words i j || is_shared words (min a b) (max a b) (length vs) i j))
    → Joins (labels_of vs) words new (min a b) (max a b)
equal_joins vs words new x y a b h p q e f may differ marks =
    let one = root_of (labels_of vs) words x a h (sorts_in vs x p) e in
    let two = root_of (labels_of vs) words y b h (sorts_in vs y q) f in
    record {
      proper = h;
      lesser = omega arith;
      within = omega (arith, one.0, two.0);
      keep_root = elim (cases_lt a b) [
        | inl k ↦ let w : min a b ≡ a = omega arith in rw w one.1
        | inr k ↦ let w : min a b ≡ b = omega arith in rw w two.1
      ];
      gone_root = elim (cases_lt a b) [
        | inl k ↦ let w : max a b ≡ b = omega arith in rw w two.1
        | inr k ↦ let w : max a b ≡ a = omega arith in rw w one.1
      ];
      may = equal_may vs words x y a b h p q e f may;
      marks = rw (length-map vs (λ (w : Variable). w.label)) marks;
    }

-- what `equal` leaves
pub equal_proper : (vs : List Variable) (words new : List ℕ) (x y a b : ℕ) → IsProper (labels_of vs) words
    → x < length (map (λ (w : Variable). w.sort) vs) → y < length (map (λ (w : Variable). w.sort) vs)
    → a ≡ slice_index (labels_of vs) x → b ≡ slice_index (labels_of vs) y
    → Allows (partition_of vs words) (λ v. v x ≡ v y) → a ≢ b
    → ((i j : ℕ) → are_marked new i j ≡ (are_marked words i j || is_shared words (min a b) (max a b) (length vs) i j))
    → IsProper (labels_of (map (relabelled (max a b) (min a b)) vs)) new
equal_proper vs words new x y a b h p q e f may differ marks =
    rw (labels_relabelled (max a b) (min a b) vs) (joined_proper (labels_of vs) words new (min a b) (max a b)
    (equal_joins vs words new x y a b h p q e f may differ marks))

extremes : (v : ℕ → ℕ) (a b : ℕ) → (v (min a b) ≡ v (max a b)) ↔ (v a ≡ v b)
extremes v a b = elim (cases_lt a b) [
  | inl k ↦ let u : max a b ≡ b = omega arith in let w : min a b ≡ a = omega arith in rw (u, w) ((λ e. e), (λ e. e))
  | inr k ↦ let u : max a b ≡ a = omega arith in let w : min a b ≡ b = omega arith in
      rw (u, w) ((λ e. sym e), (λ e. sym e))
]

pub equal_kept : (vs : List Variable) (words new : List ℕ) (x y a b : ℕ) → IsProper (labels_of vs) words
    → x < length (map (λ (w : Variable). w.sort) vs) → y < length (map (λ (w : Variable). w.sort) vs)
    → a ≡ slice_index (labels_of vs) x → b ≡ slice_index (labels_of vs) y
    → Allows (partition_of vs words) (λ v. v x ≡ v y) → a ≢ b
    → ((i j : ℕ) → are_marked new i j ≡ (are_marked words i j || is_shared words (min a b) (max a b) (length vs) i j))
    → Keeps (partition_of vs words) (partition_of (map (relabelled (max a b) (min a b)) vs) new) (λ v. v x ≡ v y)
equal_kept vs words new x y a b h p q e f may differ marks v = (
  (λ s.
      let t = (joined_meets (labels_of vs) words new (min a b) (max a b) joins v).0
      (rw (labels_relabelled (max a b) (min a b) vs) at (meets_from (map (relabelled (max a b) (min a b)) vs)
      new v s)) in
      let old : Satisfies (partition_of vs words) v = satisfies_from vs words v t.0 in
      (old, old.same x p ∙ ap v (sym e) ∙ (extremes v a b).0 t.1 ∙ ap v f ∙ sym (old.same y q))),
  (λ s. satisfies_from (map (relabelled (max a b) (min a b)) vs) new v (rw (labels_relabelled (max a b) (min a b) vs)
      ((joined_meets (labels_of vs) words new (min a b) (max a b) joins v).1 (
        meets_from vs words v s.0,
        (extremes v a b).1 (ap v e ∙ sym (s.0.same x p) ∙ s.1 ∙ s.0.same y q
            ∙ ap v (sym f)),
      )))),
)
  where
    joins : Joins (labels_of vs) words new (min a b) (max a b)
    joins = equal_joins vs words new x y a b h p q e f may differ marks

-- two members of one class
pub equal_already : (vs : List Variable) (words : List ℕ) (x y : ℕ) → x < length (map (λ (w : Variable). w.sort) vs)
    → y < length (map (λ (w : Variable). w.sort) vs)
    → slice_index (labels_of vs) x ≡ slice_index (labels_of vs) y
    → Keeps (partition_of vs words) (partition_of vs words) (λ v. v x ≡ v y)
equal_already vs words x y p q e v = ((λ s. (s, s.same x p ∙ ap v e ∙ sym (s.same y q))), (λ s. s.0))

-- more words with no bit set
pub marks_same : (words new : List ℕ) → ((k : ℕ) → is_set new k ≡ is_set words k) → (x y : ℕ)
    → are_marked new x y ≡ are_marked words x y
unfolding are_marked
marks_same words new h x y = ap (λ b. not (x == y) && b) (h (place x y))

pub same_proper : (labels words new : List ℕ) → ((k : ℕ) → is_set new k ≡ is_set words k) → IsProper labels words
    → IsProper labels new
same_proper labels words new h proper = record {
  few = proper.few;
  least = proper.least;
  root = proper.root;
  apart = λ x y p q m. proper.apart x y p q (sym (marks_same words new h x y) ∙ m);
  marked = λ x y p q m. marks_same words new h (slice_index labels x) (slice_index labels y)
      ∙ proper.marked x y p q (sym (marks_same words new h x y) ∙ m);
  unmarked = λ x y p. marks_same words new h x y ∙ proper.unmarked x y p;
}

pub same_rows : (n : ℕ) (words new : List ℕ) → ((k : ℕ) → is_set new k ≡ is_set words k)
    → rows_of n new ≡ rows_of n words
same_rows n words new h =
    let e : are_marked new ≡ are_marked words = λ i. λ x y. marks_same words new h x y i in
    ap (λ (m : ℕ → ℕ → Bool). map (λ x. map (m x) (range_with_len 0 x)) (range_with_len 0 n)) e

pub roomy : (vs : List Variable) (words new : List ℕ) → ((k : ℕ) → is_set new k ≡ is_set words k)
    → pairs_below (length vs) ≤ 64 * length new
    → partition_of vs new ≡ record (partition_of vs words) { spare = true }
roomy vs words new h room = rw (
  same_rows (length vs) words new h,
  le-leb (pairs_below (length vs)) (64 * length new)
      room,
) refl

-- where room is wanting before and after
pub unroomy : (vs : List Variable) (words new : List ℕ) → ((k : ℕ) → is_set new k ≡ is_set words k)
    → 64 * length words < pairs_below (length vs) → 64 * length new < pairs_below (length vs)
    → partition_of vs new ≡ partition_of vs words
unroomy vs words new h old_short new_short = rw (
  same_rows (length vs) words new h,
  lt-leb (pairs_below (length vs)) (64 * length new) new_short,
  lt-leb (pairs_below (length vs)) (64 * length words) old_short,
) refl
