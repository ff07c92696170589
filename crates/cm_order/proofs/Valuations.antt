-- The valuations of bounds as they are kept.
use Rattle.std.proofs.Common.{◌≡◌, ◌<◌, ◌↔◌, ℕ, ℤ, pos, ◌+ℤ◌, ◌-ℤ◌, ◌≤ℤ◌, ◌<ℤ◌, neg_ℤ, IsTrue, List, [], length, map}
use Rattle.std.proofs.Common.{slice_index_or, sym, ap, ◌∙◌, arith}
use Rattle.std.specs.Int.Signed.{lt_z}
use Rattle.std.specs.List.{range_with_len}
use Rattle.std.proofs.lemmas.Int.{ints}
use Rattle.std.proofs.lemmas.List.FromFn.{get_or-map-range_with_len, length-map-range_with_len}
use Rattle.cm_order.specs.Differences.{Differences, difference, Satisfies, IsSatisfiable, IsLeast, Allows, Keeps}
use Rattle.cm_order.specs.inner.Shells.{IsClosed, IsProper, entry, number_at, place, rows_of, with_edge}
use Rattle.cm_order.proofs.Closing.{Meets, closed_same, edge_closed, edge_meets, least_below, least_meets, may_eq}
use Rattle.cm_order.proofs.Closing.{may_gt, may_lt, meets_same}

pub count_of_rows : (n : ℕ) (entries : List ℤ) → length (rows_of n entries) ≡ n
count_of_rows n entries = length-map-range_with_len (λ x. map (entry entries x) (range_with_len 0 n)) 0 n

row_at : (n : ℕ) (entries : List ℤ) (x y : ℕ) → x < n → y < n → difference (rows_of n entries) x y ≡ entry entries x y
row_at n entries x y h k =
    ap (λ row. slice_index_or row y (pos 0)) (get_or-map-range_with_len (λ i. map (entry entries i)
    (range_with_len 0 n)) 0 n x x [] h (omega arith))
    ∙ get_or-map-range_with_len (entry entries x) 0 n y y (pos 0) k (omega arith)

pub meets_from : (n : ℕ) (entries : List ℤ) (v : ℕ → ℤ) → Satisfies (rows_of n entries) v → Meets n (entry entries) v
meets_from n entries v s = record {
  zero = s.zero;
  within = λ x y p q. rw (← row_at n entries x y p q) (s.within x y (omega (arith, count_of_rows n entries))
      (omega (arith, count_of_rows n entries)));
}

pub satisfies_from : (n : ℕ) (entries : List ℤ) (v : ℕ → ℤ) → Meets n (entry entries) v
    → Satisfies (rows_of n entries) v
satisfies_from n entries v s = record {
  zero = s.zero;
  within = λ x y p q.
      let xn : x < n = omega (arith, count_of_rows n entries) in
      let yn : y < n = omega (arith, count_of_rows n entries) in
      rw (row_at n entries x y xn yn) (s.within x y xn yn);
}

pub satisfiable : (n : ℕ) (entries : List ℤ) → IsProper n entries → IsSatisfiable (rows_of n entries)
satisfiable n entries h = (
  (λ i. neg_ℤ (entry entries 0 i)),
  satisfies_from n entries (λ i. neg_ℤ (entry entries 0 i))
      (least_meets n (entry entries) h.closed h.some),
)

-- entries whose differences are those of d
pub proper_from : (n : ℕ) (old new : List ℤ) (d : ℕ → ℕ → ℤ) → IsProper n old → length new ≡ length old
    → IsClosed n d → ((i j : ℕ) → i < n → j < n → entry new i j ≡ d i j) → IsProper n new
proper_from n old new d h long closed same = record {
  some = h.some;
  few = h.few;
  long = rw long h.long;
  closed =
      closed_same n d (entry new) h.some same closed;
}

keeps_from : (n : ℕ) (old new : List ℤ) (d : ℕ → ℕ → ℤ) (P : (ℕ → ℤ) → Type 0)
    → ((i j : ℕ) → i < n → j < n → entry new i j ≡ d i j)
    → ((v : ℕ → ℤ) → Meets n d v ↔ (Meets n (entry old) v × P v)) → Keeps (rows_of n old) (rows_of n new) P
keeps_from n old new d P same e v = (
  (λ s. let k = (e v).0 (meets_same n (entry new) d v (λ i j p q. sym (same i j p q)) (meets_from n new v s)) in
      (satisfies_from n old v k.0, k.1)),
  (λ s. satisfies_from n new v (meets_same n d (entry new) v same ((e v).1 (meets_from n old v s.0, s.1)))),
)

-- the edge that `add_edge` adds
consistent : (n : ℕ) (entries : List ℤ) → (x y : ℕ) (w : ℤ) → x < length (rows_of n entries)
    → y < length (rows_of n entries)
    → Allows (rows_of n entries) (λ v. (v x -ℤ v y) ≤ℤ w) → pos 0 ≤ℤ (w +ℤ entry entries y x)
consistent n entries x y w p q may =
    let xn : x < n = omega (arith, count_of_rows n entries) in
    let yn : y < n = omega (arith, count_of_rows n entries) in
    let a = (meets_from n entries may.0 may.1).within y x yn xn in
    let b = may.2 in
    omega (arith, ints)

pub edge_proper : (n : ℕ) (old new : List ℤ) → IsProper n old → length new ≡ length old → (x y : ℕ) (w : ℤ)
    → x < length (rows_of n old) → y < length (rows_of n old)
    → Allows (rows_of n old) (λ v. (v x -ℤ v y) ≤ℤ w) → ((i j : ℕ) → i < n → j < n
    → entry new i j ≡ with_edge (entry old) x y w i j) → IsProper n new
edge_proper n old new h long x y w p q may same =
    proper_from n old new (with_edge (entry old) x y w) h long
    (edge_closed n (entry old) x y w h.closed (omega (arith, count_of_rows n old)) (omega (arith, count_of_rows n old))
    (consistent n old x y w p q may)) same

pub edge_keeps : (n : ℕ) (old new : List ℤ) → IsProper n old → (x y : ℕ) (w : ℤ) → x < length (rows_of n old)
    → y < length (rows_of n old)
    → ((i j : ℕ) → i < n → j < n → entry new i j ≡ with_edge (entry old) x y w i j)
    → Keeps (rows_of n old) (rows_of n new) (λ v. (v x -ℤ v y) ≤ℤ w)
edge_keeps n old new h x y w p q same =
    keeps_from n old new (with_edge (entry old) x y w) (λ v. (v x -ℤ v y) ≤ℤ w) same
    (λ v. edge_meets n (entry old) x y w h.closed (omega (arith, count_of_rows n old))
    (omega (arith, count_of_rows n old)) v)

-- what `most` tells of the rows themselves
pub rows_closed : (n : ℕ) (entries : List ℤ) → IsProper n entries
    → IsClosed (length (rows_of n entries)) (difference (rows_of n entries))
rows_closed n entries h = rw (count_of_rows n entries) (closed_same n (entry entries) (difference (rows_of n entries))
    h.some (λ i j p q. row_at n entries i j p q) h.closed)

pub most_at : (n : ℕ) (entries : List ℤ) (x y : ℕ) → x < length (rows_of n entries) → y < length (rows_of n entries)
    → entry entries x y ≡ difference (rows_of n entries) x y
most_at n entries x y p q = sym (row_at n entries x y (omega (arith, count_of_rows n entries))
    (omega (arith, count_of_rows n entries)))

lift : (rows : Differences) (A : Type 0) (P : (ℕ → ℤ) → Type 0)
    → A ↔ ((v : ℕ → ℤ) × Meets (length rows) (difference rows) v × P v) → A ↔ Allows rows P
lift rows A P e = (
  (λ a. let w = e.0 a in (w.0, record { zero = w.1.zero; within = w.1.within }, w.2)),
  (λ w. e.1 (w.0, record { zero = w.1.zero; within = w.1.within }, w.2)),
)

pub allows_lt : (rows : Differences) → IsClosed (length rows) (difference rows) → 0 < length rows → (x y : ℕ) (c : ℤ)
    → x < length rows → y < length rows
    → (c <ℤ difference rows y x) ↔ Allows rows (λ v. (v x +ℤ c) <ℤ v y)
allows_lt rows h some x y c p q = lift rows (c <ℤ difference rows y x) (λ v. (v x +ℤ c) <ℤ v y)
    (may_lt (length rows) (difference rows) h some x y c p q)

pub allows_gt : (rows : Differences) → IsClosed (length rows) (difference rows) → 0 < length rows → (x y : ℕ) (c : ℤ)
    → x < length rows → y < length rows
    → (neg_ℤ (difference rows x y) <ℤ c) ↔ Allows rows (λ v. v y <ℤ (v x +ℤ c))
allows_gt rows h some x y c p q = lift rows (neg_ℤ (difference rows x y) <ℤ c) (λ v. v y <ℤ (v x +ℤ c))
    (may_gt (length rows) (difference rows) h some x y c p q)

pub allows_eq : (rows : Differences) → IsClosed (length rows) (difference rows) → 0 < length rows → (x y : ℕ) (c : ℤ)
    → x < length rows → y < length rows
    → ((neg_ℤ (difference rows x y) ≤ℤ c) × (c ≤ℤ difference rows y x)) ↔ Allows rows (λ v. (v x +ℤ c) ≡ v y)
allows_eq rows h some x y c p q =
    lift rows ((neg_ℤ (difference rows x y) ≤ℤ c) × (c ≤ℤ difference rows y x)) (λ v. (v x +ℤ c) ≡ v y)
    (may_eq (length rows) (difference rows) h some x y c p q)

pub least_of : (rows : Differences) → IsClosed (length rows) (difference rows) → 0 < length rows
    → IsLeast rows (λ i. neg_ℤ (difference rows 0 i))
least_of rows h some = record {
  satisfies = (let m = least_meets (length rows) (difference rows) h some in
      record { zero = m.zero; within = m.within });
  least = λ v s x p. least_below (length rows) (difference rows) v some (record { zero = s.zero; within = s.within })
      x p;
}

-- the constant 0 alone
pub one_proper : (entries : List ℤ) → length entries ≡ 4 → number_at entries 0 ≡ pos 0 → IsProper 1 entries
unfolding place
one_proper entries long zero = record {
  some = omega arith;
  few = omega arith;
  long = omega arith;
  closed = record {
    zero = λ x p. let e : x ≡ 0 = omega arith in rw e zero;
    triangle = λ x y z p q r. let e : x ≡ 0 = omega arith in let f : y ≡ 0 = omega arith in
        let g : z ≡ 0 = omega arith in rw (e, f, g, zero) (omega (arith, ints));
    above = λ x p. let e : x ≡ 0 = omega arith in rw (e, zero) (omega (arith, ints));
    below = λ x p. let e : x ≡ 0 = omega arith in rw (e, zero) (omega (arith, ints));
  };
}

pub lt_test : (a b : ℤ) → IsTrue (lt_z a b) ↔ (a <ℤ b)
lt_test a b = ((λ t. grind (arith, ints)), (λ h. grind (arith, ints)))
