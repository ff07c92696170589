-- Sums that are counted up to the greatest of 64 bits.
use Rattle.std.proofs.Common.{◌≡◌, ℕ, ◌+◌, ◌-◌, ◌^◌, ◌≤◌, ◌<◌, min, List, [], ◌∷◌, sum, leb, Bool, true, false, refl}
use Rattle.std.proofs.Common.{arith}
use Rattle.cm_typing.specs.Counts.{counted}

pub counted_more : (a b c : ℕ) → counted (counted (a + b) + c) ≡ counted (a + (b + c))
counted_more a b c = omega arith

pub counted_all : (n : ℕ) → counted (0 + n) ≡ counted n
counted_all n = omega arith

pub counted_small : (n : ℕ) → counted n < 100000 → counted n ≡ n
counted_small n h = omega (arith, h)

pub counted_twice : (n : ℕ) → counted (counted n) ≡ counted n
counted_twice n = omega arith

pub counted_end : (n m : ℕ) → n ≡ counted n → counted (n + 0) ≡ m → n ≡ m
counted_end n m h e = omega (arith, h, e)

pub counted_sum : (x y : ℕ) → min (counted x + counted y) (2 ^ 64 - 1) ≡ counted (x + y)
counted_sum x y = omega arith

-- a part that is counted itself
pub counted_part : (a b c : ℕ) → counted (counted (a + counted b) + c) ≡ counted (a + (b + c))
counted_part a b c = omega arith

pub counted_at_most : (n : ℕ) → leb (counted n) 1000 ≡ leb n 1000
counted_at_most n = grind arith

pub counted_over : (n : ℕ) → 100000 < counted n → leb n 100000 ≡ false
counted_over n h = grind (arith, h)
