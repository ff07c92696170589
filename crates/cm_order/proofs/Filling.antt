-- The shell of one more variable.
use Rattle.std.proofs.Common.{◌≡◌, ◌<◌, ◌≤◌, ◌+◌, ◌*◌, inl, inr, ℕ, ℤ, pos, negsuc, ◌+ℤ◌, ◌-ℤ◌, ◌≤ℤ◌, FitsSigned, w32}
use Rattle.std.proofs.Common.{List, length, slice_set, ◌∙◌, arith}
use Rattle.std.proofs.lemmas.Bool.{cases_eq, cases_lt, lt-ltb, le-ltb}
use Rattle.std.proofs.lemmas.Int.{ints}
use Rattle.std.proofs.lemmas.List.{get_or-set_same, get_or-set_other, length-set}
use Rattle.std.proofs.Math.Nat.{mul-suc, suc-mul}
use Rattle.cm_order.specs.inner.Shells.{IsClosed, entry, extended, number_at, place}
use Rattle.cm_order.proofs.Closing.{entry_high, entry_low, fits_between}
use Rattle.cm_order.proofs.Places.{place_lower, place_upper, place_within}

-- the first k pairs of the shell of variable n are written
pub record Filled (n k : ℕ) (old now : List ℤ) (lo hi : ℤ) : Type 0 where
  pub same : (i j : ℕ) → i < n → j < n → entry now i j ≡ entry old i j
  pub row : (j : ℕ) → j < k → entry now n j ≡ hi +ℤ entry old 0 j
  pub column : (i : ℕ) → i < k → entry now i n ≡ entry old i 0 -ℤ lo

pub shell_long : (n : ℕ) → (n + 1) * (n + 1) ≡ n * n + n + n + 1
shell_long n = omega (arith, mul-suc (n + 1) n, suc-mul n n)

-- entries other than the two that are written
both_other : (now : List ℤ) (a b p : ℕ) (x y : ℤ) → (p ≡ a → ⊥) → (p ≡ b → ⊥)
    → number_at (slice_set (slice_set now a x) b y) p ≡ number_at now p
both_other now a b p x y f g = get_or-set_other (slice_set now a x) b p y (pos 0) g
    ∙ get_or-set_other now a p x (pos 0) f

pub filled_more : (n k : ℕ) (old now : List ℤ) (lo hi above below : ℤ) → k < n → (n + 1) * (n + 1) ≤ length now
    → Filled n k old now lo hi
    → above ≡ hi +ℤ entry old 0 k → below ≡ entry old k 0 -ℤ lo
    → Filled n (k + 1) old (slice_set (slice_set now (n * n + k) above) (n * n + n + 1 + k) below) lo hi
filled_more n k old now lo hi above below h long f is_above is_below = record {
  same = λ i j p q. let w = place_within n i j p q in both_other now (n * n + k) (n * n + n + 1 + k)
      (place i j) above below (λ e. absurd (omega arith)) (λ e. absurd (omega arith)) ∙ f.same i j p q;
  row = λ j p. let at : place n j ≡ n * n + j = place_lower n j (omega arith) in elim (cases_eq j k) [
    | inl e ↦ rw (at, e)
        (get_or-set_other (slice_set now (n * n + k) above) (n * n + n + 1 + k) (n * n + k) below (pos 0)
        (λ g. absurd (omega arith))
        ∙ get_or-set_same now (n * n + k) above (pos 0) (omega (arith, shell_long n)) ∙ is_above)
    | inr g ↦ both_other now (n * n + k) (n * n + n + 1 + k) (place n j) above below (λ e. g (omega arith))
        (λ e. absurd (omega arith)) ∙ f.row j (omega arith)
  ];
  column = λ i p. let at : place i n ≡ n * n + n + 1 + i = place_upper i n (omega arith) in elim (cases_eq i k) [
    | inl e ↦ rw (at, e) (get_or-set_same (slice_set now (n * n + k) above) (n * n + n + 1 + k) below
        (pos 0) (omega (arith, shell_long n, length-set now (n * n + k) above)) ∙ is_below)
    | inr g ↦ both_other now (n * n + k) (n * n + n + 1 + k) (place i n) above below (λ e. absurd (omega arith))
        (λ e. g (omega arith)) ∙ f.column i (omega arith)
  ];
}

-- the last of the shell, where it meets itself
pub filled_all : (n : ℕ) (old now : List ℤ) (lo hi : ℤ) → (n + 1) * (n + 1) ≤ length now → Filled n n old now lo hi
    → (i j : ℕ) → i ≤ n → j ≤ n → entry (slice_set now (n * n + n) (pos 0)) i j ≡ extended n (entry old) lo hi i j
filled_all n old now lo hi long f i j p q = elim (cases_lt i n) [
  | inl a ↦ elim (cases_lt j n) [
    | inl b ↦ let w = place_within n i j a b in
        rw (lt-ltb i n a, lt-ltb j n b) (get_or-set_other now (n * n + n) (place i j) (pos 0) (pos 0)
        (λ e. absurd (omega arith)) ∙ f.same i j a b)
    | inr b ↦ let last : j ≡ n = omega arith in let at : place i n ≡ n * n + n + 1 + i = place_upper i n a in
        rw (last, lt-ltb i n a, le-ltb n n (omega arith)) (get_or-set_other now (n * n + n) (place i n)
        (pos 0) (pos 0) (λ e. absurd (omega arith)) ∙ f.column i a)
  ]
  | inr a ↦ let first : i ≡ n = omega arith in elim (cases_lt j n) [
    | inl b ↦ let at : place n j ≡ n * n + j = place_lower n j (omega arith) in
        rw (first, le-ltb n n (omega arith), lt-ltb j n b) (get_or-set_other now (n * n + n) (place n j)
        (pos 0) (pos 0) (λ e. absurd (omega arith)) ∙ f.row j b)
    | inr b ↦ let last : j ≡ n = omega arith in let at : place n n ≡ n * n + n = place_lower n n (omega arith) in
        rw (first, last, le-ltb n n (omega arith), at) (get_or-set_same now (n * n + n) (pos 0) (pos 0)
        (omega (arith, shell_long n)))
  ]
]

pub above_fits : (n k : ℕ) (d : ℕ → ℕ → ℤ) (lo hi : ℤ) → IsClosed n d → k < n → negsuc 999999 ≤ℤ lo → lo ≤ℤ hi
    → hi ≤ℤ pos 1000000 → FitsSigned w32 (hi +ℤ d 0 k)
above_fits n k d lo hi h p low order high =
    let a = entry_low n d h (omega arith) 0 k (omega arith) p in
    let b = entry_high n d h (omega arith) 0 k (omega arith) p in
    fits_between (hi +ℤ d 0 k) (omega (arith, ints)) (omega (arith, ints))

pub below_fits : (n k : ℕ) (d : ℕ → ℕ → ℤ) (lo hi : ℤ) → IsClosed n d → k < n → negsuc 999999 ≤ℤ lo → lo ≤ℤ hi
    → hi ≤ℤ pos 1000000 → FitsSigned w32 (d k 0 -ℤ lo)
below_fits n k d lo hi h p low order high =
    let a = entry_low n d h (omega arith) k 0 p (omega arith) in
    let b = entry_high n d h (omega arith) k 0 p (omega arith) in
    fits_between (d k 0 -ℤ lo) (omega (arith, ints)) (omega (arith, ints))
