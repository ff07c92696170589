-- Differences that are closed: one more edge, and the least valuation.
use Rattle.std.proofs.Common.{◌≡◌, ◌<◌, ◌↔◌, ℕ, ℤ, pos, negsuc, ◌+ℤ◌, ◌-ℤ◌, ◌≤ℤ◌, ◌<ℤ◌, neg_ℤ, FitsSigned, w32, false}
use Rattle.std.proofs.Common.{◌∙◌, arith, rules}
use Rattle.std.specs.Int.{int_min}
use Rattle.std.specs.Int.Signed.{lt_z}
use Rattle.std.proofs.lemmas.Int.{ints, to_z-of_z}
use mir.Val.{of_z, to_z}
use Rattle.cm_order.specs.inner.Shells.{IsClosed, with_edge}

pub fits_between : (z : ℤ) → negsuc 1100000000 ≤ℤ z → z ≤ℤ pos 1100000000 → FitsSigned w32 z
fits_between z low high = search (rules, ints)

pub entry_high : (n : ℕ) (d : ℕ → ℕ → ℤ) → IsClosed n d → 0 < n → (i j : ℕ) → i < n → j < n → d i j ≤ℤ pos 2000000
entry_high n d h some i j p q =
    let t = h.triangle i j 0 p q some in
    let a = h.above i p in
    let b = h.below j q in
    omega (arith, ints)

pub entry_low : (n : ℕ) (d : ℕ → ℕ → ℤ) → IsClosed n d → 0 < n → (i j : ℕ) → i < n → j < n → negsuc 1999999 ≤ℤ d i j
entry_low n d h some i j p q =
    let t = h.triangle i i j p p q in
    let z = h.zero i p in
    let a = entry_high n d h some j i q p in
    omega (arith, ints)

pub sum_fits : (n : ℕ) (d : ℕ → ℕ → ℤ) (w : ℤ) → IsClosed n d → 0 < n → negsuc 1000000000 ≤ℤ w → w ≤ℤ pos 1000000001
    → (i x : ℕ) → i < n → x < n → FitsSigned w32 (d i x +ℤ w)
sum_fits n d w h some low high i x p q =
    let a = entry_low n d h some i x p q in
    let b = entry_high n d h some i x p q in
    fits_between (d i x +ℤ w) (omega (arith, ints)) (omega (arith, ints))

pub sums_fit : (n : ℕ) (d : ℕ → ℕ → ℤ) (w : ℤ) → IsClosed n d → 0 < n → negsuc 1000000000 ≤ℤ w → w ≤ℤ pos 1000000001
    → (i x y j : ℕ) → i < n → x < n → y < n → j < n → FitsSigned w32 ((d i x +ℤ w) +ℤ d y j)
sums_fit n d w h some low high i x y j p q r s =
    let a = entry_low n d h some i x p q in
    let b = entry_high n d h some i x p q in
    let e = entry_low n d h some y j r s in
    let f = entry_high n d h some y j r s in
    fits_between ((d i x +ℤ w) +ℤ d y j) (omega (arith, ints)) (omega (arith, ints))

-- what is at most each of four sums is at most the sum of the lesser ones
four_sums : (m a b x y : ℤ) → m ≤ℤ (a +ℤ x) → m ≤ℤ (a +ℤ y) → m ≤ℤ (b +ℤ x) → m ≤ℤ (b +ℤ y)
    → m ≤ℤ (int_min a b +ℤ int_min x y)
four_sums m a b x y p q r s = grind (arith, ints)

min_left : (a b c : ℤ) → (a ≤ℤ c) → int_min a b ≤ℤ c
min_left a b c h = grind (arith, ints)

min_right : (a b c : ℤ) → (b ≤ℤ c) → int_min a b ≤ℤ c
min_right a b c h = grind (arith, ints)

min_first : (a b : ℤ) → a ≤ℤ b → a ≡ int_min a b
min_first a b h = grind (arith, ints)

min_both : (m a b : ℤ) → m ≤ℤ a → m ≤ℤ b → m ≤ℤ int_min a b
min_both m a b p q = grind (arith, ints)

below_min_left : (m a b : ℤ) → m ≤ℤ int_min a b → m ≤ℤ a
below_min_left m a b h = grind (arith, ints)

below_min_right : (m a b : ℤ) → m ≤ℤ int_min a b → m ≤ℤ b
below_min_right m a b h = grind (arith, ints)

-- one more edge keeps closed what is consistent with it
pub edge_closed : (n : ℕ) (d : ℕ → ℕ → ℤ) (p q : ℕ) (w : ℤ) → IsClosed n d → p < n → q < n → pos 0 ≤ℤ (w +ℤ d q p)
    → IsClosed n (with_edge d p q w)
edge_closed n d p q w h pn qn ok = record {
  zero = λ i u. let a = h.triangle q p i qn pn u in let b = h.zero i u in grind (arith, ints);
  triangle = λ i j k u v t.
      let a = h.triangle i j k u v t in
      let b = h.triangle i p k u pn t in
      let e = h.triangle q j k qn v t in
      let f = h.triangle q p k qn pn t in
      let old = d i j in
      let new = (d i p +ℤ w) +ℤ d q j in
      four_sums (int_min old new) (d i k) ((d i p +ℤ w) +ℤ d q k) (d k j) ((d k p +ℤ w) +ℤ d q j)
      (min_left old new _ a)
      (min_right old new (d i k +ℤ ((d k p +ℤ w) +ℤ d q j)) (omega (arith, ints)))
      (min_right old new (((d i p +ℤ w) +ℤ d q k) +ℤ d k j) (omega (arith, ints)))
      (min_right old new (((d i p +ℤ w) +ℤ d q k) +ℤ ((d k p +ℤ w) +ℤ d q j)) (omega (arith, ints)));
  above = λ i u. min_left (d i 0) _ (pos 1000000) (h.above i u);
  below = λ i u. min_left (d 0 i) _ (pos 1000000) (h.below i u);
}

-- an edge that is known changes nothing
pub edge_known : (n : ℕ) (d : ℕ → ℕ → ℤ) (p q : ℕ) (w : ℤ) → IsClosed n d → p < n → q < n → d p q ≤ℤ w
    → (i j : ℕ) → i < n → j < n → d i j ≡ with_edge d p q w i j
edge_known n d p q w h pn qn known i j u v =
    let a = h.triangle i j p u v pn in
    let b = h.triangle p j q pn v qn in
    min_first (d i j) ((d i p +ℤ w) +ℤ d q j) (omega (arith, ints))

pub closed_same : (n : ℕ) (d e : ℕ → ℕ → ℤ) → 0 < n → ((i j : ℕ) → i < n → j < n → e i j ≡ d i j) → IsClosed n d
    → IsClosed n e
closed_same n d e some same h = record {
  zero = λ i u. same i i u u ∙ h.zero i u;
  triangle = λ i j k u v t. rw (same i j u v, same i k u t, same k j t v) (h.triangle i j k u v t);
  above = λ i u. rw (same i 0 u some) (h.above i u);
  below = λ i u. rw (same 0 i some u) (h.below i u);
}

-- valuations of the first n variables
pub record Meets (n : ℕ) (d : ℕ → ℕ → ℤ) (v : ℕ → ℤ) : Type 0 where
  pub zero : v 0 ≡ pos 0
  pub within : (i j : ℕ) → i < n → j < n → (v i -ℤ v j) ≤ℤ d i j

pub meets_same : (n : ℕ) (d e : ℕ → ℕ → ℤ) (v : ℕ → ℤ) → ((i j : ℕ) → i < n → j < n → e i j ≡ d i j)
    → Meets n d v → Meets n e v
meets_same n d e v same h = record { zero = h.zero; within = λ i j p q. rw (same i j p q) (h.within i j p q) }

pub edge_meets : (n : ℕ) (d : ℕ → ℕ → ℤ) (p q : ℕ) (w : ℤ) → IsClosed n d → p < n → q < n → (v : ℕ → ℤ)
    → Meets n (with_edge d p q w) v ↔ (Meets n d v × ((v p -ℤ v q) ≤ℤ w))
edge_meets n d p q w h pn qn v = (
  (λ s.
      let sum = below_min_right (v p -ℤ v q) (d p q) ((d p p +ℤ w) +ℤ d q q) (s.within p q pn qn) in
      let b = h.zero p pn in
      let e = h.zero q qn in (
        record {
          zero = s.zero;
          within = λ i j u t. below_min_left (v i -ℤ v j) (d i j) ((d i p +ℤ w) +ℤ d q j)
              (s.within i j u t);
        },
        omega (arith, ints),
      )),
  (λ s. record {
    zero = s.0.zero;
    within = λ i j u t.
        let a = s.0.within i j u t in
        let b = s.0.within i p u pn in
        let e = s.0.within q j qn t in
        let f = s.1 in
        min_both (v i -ℤ v j) (d i j) ((d i p +ℤ w) +ℤ d q j) a (omega (arith, ints));
  }),
)

pub least_meets : (n : ℕ) (d : ℕ → ℕ → ℤ) → IsClosed n d → 0 < n → Meets n d (λ i. neg_ℤ (d 0 i))
least_meets n d h some = record {
  zero = let z = h.zero 0 some in grind (arith, ints);
  within = λ i j p q. let a = h.triangle 0 j i some q p in grind (arith, ints);
}

pub least_below : (n : ℕ) (d : ℕ → ℕ → ℤ) (v : ℕ → ℤ) → 0 < n → Meets n d v → (i : ℕ) → i < n → neg_ℤ (d 0 i) ≤ℤ v i
least_below n d v some s i p = let a = s.within 0 i some p in let z = s.zero in grind (arith, ints)

-- an edge that is consistent has a valuation
pub edge_witness : (n : ℕ) (d : ℕ → ℕ → ℤ) (p q : ℕ) (w : ℤ) → IsClosed n d → 0 < n → p < n → q < n
    → pos 0 ≤ℤ (w +ℤ d q p) → (v : ℕ → ℤ) × Meets n d v × ((v p -ℤ v q) ≤ℤ w)
edge_witness n d p q w h some pn qn ok =
    let closed : IsClosed n (with_edge d p q w) = edge_closed n d p q w h pn qn ok in
    let both = (edge_meets n d p q w h pn qn (λ i. neg_ℤ (with_edge d p q w 0 i))).0
    (least_meets n (with_edge d p q w) closed some) in
    ((λ i. neg_ℤ (with_edge d p q w 0 i)), both.0, both.1)

not_below : (m r : ℤ) → lt_z m r ≡ false → r ≤ℤ m
not_below m r h = grind (arith, ints)

-- as the code tests it
pub not_below_bits : (m r : ℤ) → FitsSigned w32 m → FitsSigned w32 r
    → lt_z (to_z w32 (of_z w32 m)) (to_z w32 (of_z w32 r)) ≡ false → r ≤ℤ m
not_below_bits m r f g h = not_below m r (rw (to_z-of_z w32 m f, to_z-of_z w32 r g) at h)

-- which orders some valuation has
pub may_lt : (n : ℕ) (d : ℕ → ℕ → ℤ) → IsClosed n d → 0 < n → (x y : ℕ) (c : ℤ) → x < n → y < n
    → (c <ℤ d y x) ↔ ((v : ℕ → ℤ) × Meets n d v × ((v x +ℤ c) <ℤ v y))
may_lt n d h some x y c p q = (
  (λ e. let w = edge_witness n d x y (neg_ℤ c -ℤ pos 1) h some p q (omega (arith, ints)) in let k = w.2 in
      (w.0, w.1, omega (arith, ints))),
  (λ w. let a = w.1.within y x q p in let k = w.2 in omega (arith, ints)),
)

pub may_gt : (n : ℕ) (d : ℕ → ℕ → ℤ) → IsClosed n d → 0 < n → (x y : ℕ) (c : ℤ) → x < n → y < n
    → (neg_ℤ (d x y) <ℤ c) ↔ ((v : ℕ → ℤ) × Meets n d v × (v y <ℤ (v x +ℤ c)))
may_gt n d h some x y c p q = (
  (λ e. let w = edge_witness n d y x (c -ℤ pos 1) h some q p (omega (arith, ints)) in let k = w.2 in
      (w.0, w.1, omega (arith, ints))),
  (λ w. let a = w.1.within x y p q in let k = w.2 in omega (arith, ints)),
)

-- the second edge of an equality is consistent with the first
pub second_edge : (n : ℕ) (d : ℕ → ℕ → ℤ) → IsClosed n d → (x y : ℕ) (c : ℤ) → x < n → y < n → neg_ℤ (d x y) ≤ℤ c
    → pos 0 ≤ℤ (c +ℤ with_edge d x y (neg_ℤ c) x y)
second_edge n d h x y c p q e =
    let a = h.zero x p in
    let b = h.zero y q in
    let least = min_both (neg_ℤ c) (d x y) ((d x x +ℤ neg_ℤ c) +ℤ d y y) (omega (arith, ints)) (omega (arith, ints)) in
    omega (arith, ints)

equal_from : (a b c : ℤ) → (a -ℤ b) ≤ℤ neg_ℤ c → (b -ℤ a) ≤ℤ c → (a +ℤ c) ≡ b
equal_from a b c p q = grind (arith, ints)

equal_first : (a b c : ℤ) → (a +ℤ c) ≡ b → (a -ℤ b) ≤ℤ neg_ℤ c
equal_first a b c e = grind (arith, ints)

equal_second : (a b c : ℤ) → (a +ℤ c) ≡ b → (b -ℤ a) ≤ℤ c
equal_second a b c e = grind (arith, ints)

-- both edges
pub equal_meets : (n : ℕ) (d : ℕ → ℕ → ℤ) → IsClosed n d → (x y : ℕ) (c : ℤ) → x < n → y < n → neg_ℤ (d x y) ≤ℤ c
    → c ≤ℤ d y x → (v : ℕ → ℤ)
    → Meets n (with_edge (with_edge d x y (neg_ℤ c)) y x c) v ↔ (Meets n d v × ((v x +ℤ c) ≡ v y))
equal_meets n d h x y c p q low high v =
    let first : pos 0 ≤ℤ (neg_ℤ c +ℤ d y x) = omega (arith, ints) in
    let closed : IsClosed n (with_edge d x y (neg_ℤ c)) = edge_closed n d x y (neg_ℤ c) h p q first in (
      (λ s.
          let a = (edge_meets n (with_edge d x y (neg_ℤ c)) y x c closed q p v).0 s in
          let b = (edge_meets n d x y (neg_ℤ c) h p q v).0 a.0 in
          (b.0, equal_from (v x) (v y) c b.1 a.1)),
      (λ s. (edge_meets n (with_edge d x y (neg_ℤ c)) y x c closed q p v).1 (
        (edge_meets n d x y (neg_ℤ c) h p q v).1 (s.0, equal_first (v x) (v y) c s.1),
        equal_second (v x) (v y) c s.1,
      )),
    )

pub equal_closed : (n : ℕ) (d : ℕ → ℕ → ℤ) → IsClosed n d → (x y : ℕ) (c : ℤ) → x < n → y < n → neg_ℤ (d x y) ≤ℤ c
    → c ≤ℤ d y x → IsClosed n (with_edge (with_edge d x y (neg_ℤ c)) y x c)
equal_closed n d h x y c p q low high =
    edge_closed n (with_edge d x y (neg_ℤ c)) y x c (edge_closed n d x y (neg_ℤ c) h p q (omega (arith, ints)))
    q p (second_edge n d h x y c p q low)

pub may_eq : (n : ℕ) (d : ℕ → ℕ → ℤ) → IsClosed n d → 0 < n → (x y : ℕ) (c : ℤ) → x < n → y < n
    → ((neg_ℤ (d x y) ≤ℤ c) × (c ≤ℤ d y x)) ↔ ((v : ℕ → ℤ) × Meets n d v × ((v x +ℤ c) ≡ v y))
may_eq n d h some x y c p q = (
  (λ e.
      let e2 = with_edge (with_edge d x y (neg_ℤ c)) y x c in
      let u = λ (i : ℕ). neg_ℤ (e2 0 i) in
      let both = (equal_meets n d h x y c p q e.0 e.1 u).0 (least_meets n e2 (equal_closed n d h x y c p q e.0 e.1)
      some) in
      (u, both.0, both.1)),
  (λ w. let a = w.1.within x y p q in let b = w.1.within y x q p in
      let f = equal_first (w.0 x) (w.0 y) c w.2 in let g = equal_second (w.0 x) (w.0 y) c w.2 in
      (omega (arith, ints), omega (arith, ints))),
)
