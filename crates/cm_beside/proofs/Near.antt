-- Numbers that are near to 0.
use Rattle.std.proofs.Common.{◌≡◌, ◌≤◌, ℕ, ℤ, pos, neg_ℤ, ◌≤ℤ◌, int_le, true, arith}
use Rattle.std.proofs.lemmas.Bool.{and_parts, and_from}
use Rattle.std.proofs.lemmas.Int.{ints}
use Rattle.cm_beside.specs.Fits.{is_near}

pub at_most : (a b : ℤ) → int_le a b ≡ true → a ≤ℤ b
at_most a b e = grind (arith, ints)

pub tested : (a b : ℤ) → a ≤ℤ b → int_le a b ≡ true
tested a b h = grind (arith, ints)

-- what is near enough is so for a wider limit
pub nearer : (m n : ℕ) (k : ℤ) → m ≤ n → is_near m k ≡ true → is_near n k ≡ true
nearer m n k le h =
    let parts = and_parts (int_le (neg_ℤ (pos m)) k) (int_le k (pos m)) h in
    let low = at_most (neg_ℤ (pos m)) k parts.0 in
    let high = at_most k (pos m) parts.1 in
    and_from _ _ (tested (neg_ℤ (pos n)) k (omega (arith, ints, low, le))) (tested k (pos n) (omega (arith, ints, high, le)))
