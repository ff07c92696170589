-- Each pair has a bit of its own.
use Rattle.std.proofs.Common.{◌≡◌, ◌≢◌, ◌<◌, ◌≤◌, ◌+◌, ◌-◌, ◌*◌, ◌/◌, ◌%◌, ◌^◌, ◌==◌, ◌||◌, inl, inr, ℕ, suc, zero}
use Rattle.std.proofs.Common.{Bool, true, false, min, max, List, length, slice_index_or, slice_set, bit_or, refl, sym}
use Rattle.std.proofs.Common.{ap, ◌∙◌, arith, lit<}
use Rattle.std.specs.Int.{bit_at, w64}
use Rattle.std.proofs.lemmas.Bool.{cases_eq, cases_lt, cases_order, eq-eqb, ne_eqb, eqb-true}
use Rattle.std.proofs.lemmas.Bool.Decides.{nat_tests}
use Rattle.std.proofs.lemmas.List.{get_or-set_same, get_or-set_other, get_or_past}
use Rattle.std.proofs.lemmas.Nat.Bits.{bit_at_set_same, bit_at_set_other, bit_at-zero}
use Rattle.std.proofs.Math.Nat.{add-mul-div_right, mul-suc, suc-mul}
use Rattle.cm_sorts.specs.inner.Pairs.{pairs_below, place, is_set, are_marked, is_pair}

step : (a : ℕ) → suc (suc a) * suc a ≡ suc a * a + suc a * 2
step a = omega (arith, suc-mul (suc a) (suc a), mul-suc (suc a) a)

pub pairs_below_more : (x : ℕ) → pairs_below (suc x) ≡ pairs_below x + x
unfolding pairs_below
pairs_below_more zero = refl
pairs_below_more (suc x) =
    let one : suc (suc x) - 1 ≡ suc x = omega arith in
    let two : suc x - 1 ≡ x = omega arith in
    rw (one, two) (ap (λ n. n / 2) (step x) ∙ add-mul-div_right (suc x * x) (suc x) (lit< tt))

pub pairs_below_grow : (x n : ℕ) → x < n → pairs_below x + x ≤ pairs_below n
pairs_below_grow x zero h = omega arith
pairs_below_grow x (suc n) h = elim (cases_eq x n) [
  | inl e ↦ rw (e, pairs_below_more n) (omega arith)
  | inr f ↦ let earlier : pairs_below x + x ≤ pairs_below n = pairs_below_grow x n (omega arith) in
      omega (arith, pairs_below_more n)
]

or_true : (b : Bool) → (b || true) ≡ true
or_true true = refl
or_true false = refl

pub or_false : (b : Bool) → (b || false) ≡ b
or_false true = refl
or_false false = refl

-- bit a of a word with bit b set
bit_or_at : (w a b : ℕ) → b < 64 → (bit_at (bit_or w (1 * 2 ^ b % 18446744073709551616)) a == 1)
    ≡ ((bit_at w a == 1) || a == b)
bit_or_at w a b h = elim (cases_eq a b) [
  | inl e ↦ rw (eq-eqb a b e, or_true, e) (eq-eqb _ 1 (bit_at_set_same w64 w b h))
  | inr f ↦ rw (ne_eqb a b f, or_false) (ap (λ m. m == 1) (bit_at_set_other w64 w b h a f))
]

pub set_bit : (words : List ℕ) (n : ℕ) → n / 64 < length words → (k : ℕ)
    → is_set (slice_set words (n / 64) (bit_or (slice_index_or words (n / 64) 0)
    (1 * 2 ^ (n % 64) % 18446744073709551616))) k ≡ (is_set words k || k == n)
unfolding is_set
set_bit words n h k = elim (cases_eq (k / 64) (n / 64)) [
  | inl e ↦ rw (
    e,
    get_or-set_same words (n / 64) (bit_or (slice_index_or words (n / 64) 0)
        (1 * 2 ^ (n % 64) % 18446744073709551616)) 0 h,
  )
      (bit_or_at (slice_index_or words (n / 64) 0) (k % 64) (n % 64) (omega arith)
      ∙ ap (λ b. (bit_at (slice_index_or words (n / 64) 0) (k % 64) == 1) || b) (grind (arith, nat_tests)))
  | inr f ↦ rw (
    get_or-set_other words (n / 64) (k / 64) (bit_or (slice_index_or words (n / 64) 0)
        (1 * 2 ^ (n % 64) % 18446744073709551616)) 0 f,
    ne_eqb k n (λ e. f (ap (λ m. m / 64) e)),
    or_false,
  ) refl
]

bool_same : (p q : Bool) → (p ≡ true → q ≡ true) → (q ≡ true → p ≡ true) → p ≡ q
bool_same true q f g = sym (f refl)
bool_same false true f g = g refl
bool_same false false f g = refl

same_place : (a b c d : ℕ) → b < a → d < c → pairs_below a + b ≡ pairs_below c + d → (a ≡ c) × (b ≡ d)
same_place a b c d p q e = elim (cases_order a c) [
  | inl f ↦ let rest : pairs_below a ≡ pairs_below c = ap pairs_below f in (f, omega arith)
  | inr (inl f) ↦ let above : pairs_below a + a ≤ pairs_below c = pairs_below_grow a c f in absurd (omega arith)
  | inr (inr f) ↦ let above : pairs_below c + c ≤ pairs_below a = pairs_below_grow c a f in absurd (omega arith)
]

one_pair : (x y i j : ℕ) → max i j ≡ max x y → min i j ≡ min x y → is_pair x y i j ≡ true
one_pair x y i j e f = grind (arith, nat_tests)

place_of_pair : (x y i j : ℕ) → is_pair x y i j ≡ true → place i j ≡ place x y
unfolding place
place_of_pair x y i j e =
    let greater : max i j ≡ max x y = grind (arith, nat_tests) in
    let lesser : min i j ≡ min x y = grind (arith, nat_tests) in
    ap (λ m. pairs_below m + min i j) greater ∙ ap (λ m. pairs_below (max x y) + m) lesser

place_eqb : (x y i j : ℕ) → x ≢ y → i ≢ j → (place i j == place x y) ≡ is_pair x y i j
unfolding place
place_eqb x y i j p q = bool_same (place i j == place x y) (is_pair x y i j)
    (λ e. let same = same_place (max i j) (min i j) (max x y) (min x y) (omega arith) (omega arith) (eqb-true _ _ e) in
    one_pair x y i j same.0 same.1)
    (λ e. eq-eqb _ _ (place_of_pair x y i j e))

no_pair : (x y i : ℕ) → x ≢ y → is_pair x y i i ≡ false
no_pair x y i p = grind (arith, nat_tests)

pub mark_at : (old new : List ℕ) (x y : ℕ) → x ≢ y → ((k : ℕ) → is_set new k ≡ (is_set old k || k == place x y))
    → (i j : ℕ)
    → are_marked new i j ≡ (are_marked old i j || is_pair x y i j)
unfolding are_marked
mark_at old new x y p h i j = elim (cases_eq i j) [
  | inl e ↦ rw (e, eq-eqb j j refl, no_pair x y j p) refl
  | inr f ↦ rw (ne_eqb i j f, h (place i j), place_eqb x y i j p f) refl
]

-- a bit of no word is not set
pub set_within : (words : List ℕ) (n : ℕ) → is_set words n ≡ true → n / 64 < length words
unfolding is_set
set_within words n h = elim (cases_lt (n / 64) (length words)) [
  | inl e ↦ e
  | inr f ↦ let none : slice_index_or words (n / 64) 0 ≡ 0 = get_or_past words (n / 64) 0 f in
      let zero_bit = rw (none, bit_at-zero (n % 64)) at h in cc
]
