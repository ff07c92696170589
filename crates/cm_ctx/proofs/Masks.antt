-- The bits of a mask.
use Rattle.std.proofs.Common.{◌≡◌, ◌<◌, ◌+◌, ◌-◌, ◌*◌, ◌%◌, ◌^◌, ◌↔◌, inl, inr, ℕ, zero, suc, Bool, true}
use Rattle.std.proofs.Common.{false, if◌then◌else◌, IsTrue, refl, sym, ap, ◌∙◌, arith, rules}
use Rattle.std.specs.Int.{bit_at}
use Rattle.std.proofs.Math.Pow.{pow-lt}
use Rattle.std.proofs.lemmas.Nat.Bits.{bit_at-pow_same, bit_at-pow_other, bit_at_ones, bit_at_ones_above, bit_at_above}
use Rattle.std.proofs.lemmas.Bool.{cases_eq, cases_lt}
use Rattle.cm_ctx.specs.Masks.{Has, third_of}

abbrev weighed : Bool → Bool → Bool → ℕ
weighed a b c = (if a then 1 else 0) + (if b then 2 else 0) + (if c then 4 else 0)

bit_0 : (a b c : Bool) → bit_at (weighed a b c) 0 ≡ (if a then 1 else 0)
bit_0 true true true = refl
bit_0 true true false = refl
bit_0 true false true = refl
bit_0 true false false = refl
bit_0 false true true = refl
bit_0 false true false = refl
bit_0 false false true = refl
bit_0 false false false = refl

bit_1 : (a b c : Bool) → bit_at (weighed a b c) 1 ≡ (if b then 1 else 0)
bit_1 true true true = refl
bit_1 true true false = refl
bit_1 true false true = refl
bit_1 true false false = refl
bit_1 false true true = refl
bit_1 false true false = refl
bit_1 false false true = refl
bit_1 false false false = refl

bit_2 : (a b c : Bool) → bit_at (weighed a b c) 2 ≡ (if c then 1 else 0)
bit_2 true true true = refl
bit_2 true true false = refl
bit_2 true false true = refl
bit_2 true false false = refl
bit_2 false true true = refl
bit_2 false true false = refl
bit_2 false false true = refl
bit_2 false false false = refl

light : (a b c : Bool) → weighed a b c < 2 ^ 3
light true true true = omega arith
light true true false = omega arith
light true false true = omega arith
light true false false = omega arith
light false true true = omega arith
light false true false = omega arith
light false false true = omega arith
light false false false = omega arith

one_bit : (a : Bool) (n : ℕ) → n ≡ (if a then 1 else 0) → (n ≡ 1) ↔ IsTrue a
one_bit true n e = ((λ h. search rules), (λ h. e))
one_bit false n e = ((λ h. absurd (let same = sym h ∙ e in omega arith)), (λ h. absurd (search rules)))

pub three_bits : (a b c : Bool) (m : ℕ) → m ≡ weighed a b c → (i : ℕ) → Has m i ↔ IsTrue (third_of a b c i)
three_bits a b c m e zero = rw e (one_bit a _ (bit_0 a b c))
three_bits a b c m e (suc zero) = rw e (one_bit b _ (bit_1 a b c))
three_bits a b c m e (suc (suc zero)) = rw e (one_bit c _ (bit_2 a b c))
three_bits a b c m e (suc (suc (suc i))) = rw e (
  (λ h. absurd
      (let none = bit_at_above (weighed a b c) 3 (suc (suc (suc i))) (light a b c) (omega arith) in let same = sym h
      ∙ none in omega arith)),
  (λ h. absurd (search rules)),
)

fits : (k : ℕ) → k < 64 → 1 * 2 ^ k % 18446744073709551616 ≡ 2 ^ k
fits k h = let small : 2 ^ k < 2 ^ 64 = pow-lt h in grind (arith, small)

pub one_alone : (k : ℕ) → k < 64 → (i : ℕ) → Has (1 * 2 ^ k % 18446744073709551616) i ↔ (i ≡ k)
one_alone k h i = rw (fits k h) (elim (cases_eq i k) [
  | inl e ↦ ((λ _. e), (λ _. ap (bit_at (2 ^ k)) e ∙ bit_at-pow_same k))
  | inr d ↦ ((λ e. absurd (let same = sym e ∙ bit_at-pow_other k i d in omega arith)), (λ e. absurd (d e)))
])

ones : (k i : ℕ) → Has (2 ^ k - 1) i ↔ (i < k)
ones k i = elim (cases_lt i k) [
  | inl h ↦ ((λ _. h), (λ _. bit_at_ones k i h))
  | inr h ↦ ((λ e. absurd (let same = sym e ∙ bit_at_ones_above k i h in omega arith)), (λ l. absurd (omega arith)))
]

pub first_ones : (k : ℕ) → k < 64 → (i : ℕ) → Has (1 * 2 ^ k % 18446744073709551616 - 1) i ↔ (i < k)
first_ones k h i = rw (fits k h) (ones k i)

pub all_ones : (k : ℕ) → k ≡ 64 → (i : ℕ) → Has 18446744073709551615 i ↔ (i < k)
all_ones k e i = rw e (ones 64 i)
