-- How numbers with offsets stand to each other, and to numbers and ranges.
use Rattle.std.proofs.Common.{◌≡◌, ◌<◌, ℕ, zero, suc, ℤ, ◌+ℤ◌, ◌≤ℤ◌, ◌<ℤ◌, Bool, true, false}
use Rattle.std.proofs.Common.{refl, sym, arith, int_lt, int_le, if◌then◌else◌}
use Rattle.std.proofs.lemmas.Bool.{and_from, and_parts}
use Rattle.std.proofs.lemmas.Int.{ints}
use Rattle.cm_term.specs.Questions.{order_of, place_in}
use Rattle.cm_ctx.proofs.Outcomes.{order_less, order_equal, order_greater, order_known}
use Rattle.cm_cond.specs.declared.literal.Ord3.{Ord3}
use Rattle.cm_cond.specs.declared.literal.Ord3.TheVariants as ord
use Rattle.cm_cond.specs.Holding.{stands_so, is_from}
use Rattle.cm_name.specs.Naming.{order_said, turned, less_by}

abbrev pub Stands : Ord3 → ℤ → ℤ → Type 0
Stands ord.Less m n = m <ℤ n
Stands ord.Equal m n = m ≡ n
Stands ord.Greater m n = n <ℤ m

pub told : (op : Ord3) (m n : ℤ) → stands_so op m n ≡ true → Stands op m n
told ord.Less m n h = grind (arith, ints, h)
told ord.Equal m n h = grind (arith, ints, h)
told ord.Greater m n h = grind (arith, ints, h)

pub tested : (op : Ord3) (m n : ℤ) → Stands op m n → stands_so op m n ≡ true
tested ord.Less m n h = grind (arith, ints, h)
tested ord.Equal m n h = grind (arith, ints, h)
tested ord.Greater m n h = grind (arith, ints, h)

-- the second as the first stands to it
pub turn : (op : Ord3) (m n : ℤ) → Stands (turned op) n m → Stands op m n
turn ord.Less m n h = h
turn ord.Equal m n h = sym h
turn ord.Greater m n h = h

pub turn_back : (op : Ord3) (m n : ℤ) → Stands op m n → Stands (turned op) n m
turn_back ord.Less m n h = h
turn_back ord.Equal m n h = sym h
turn_back ord.Greater m n h = h

-- an offset moved over
pub over : (op : Ord3) (m k n : ℤ) → Stands op m (less_by n k) → Stands op (m +ℤ k) n
over ord.Less m k n h = omega (arith, ints, h)
over ord.Equal m k n h = omega (arith, ints, h)
over ord.Greater m k n h = omega (arith, ints, h)

pub over_back : (op : Ord3) (m k n : ℤ) → Stands op (m +ℤ k) n → Stands op m (less_by n k)
over_back ord.Less m k n h = omega (arith, ints, h)
over_back ord.Equal m k n h = omega (arith, ints, h)
over_back ord.Greater m k n h = omega (arith, ints, h)

-- two offsets as their difference
pub apart : (op : Ord3) (m k n l : ℤ) → Stands op (m +ℤ less_by k l) n → Stands op (m +ℤ k) (n +ℤ l)
apart ord.Less m k n l h = omega (arith, ints, h)
apart ord.Equal m k n l h = omega (arith, ints, h)
apart ord.Greater m k n l h = omega (arith, ints, h)

pub apart_back : (op : Ord3) (m k n l : ℤ) → Stands op (m +ℤ k) (n +ℤ l) → Stands op (m +ℤ less_by k l) n
apart_back ord.Less m k n l h = omega (arith, ints, h)
apart_back ord.Equal m k n l h = omega (arith, ints, h)
apart_back ord.Greater m k n l h = omega (arith, ints, h)

-- an outcome and how it is said
pub order_told : (d : ℕ) (m n : ℤ) → d < 3 → Stands (order_said d) m n → order_of m n ≡ d
order_told zero m n few h = (order_less m n).1 h
order_told (suc zero) m n few h = (order_equal m n).1 h
order_told (suc (suc zero)) m n few h = (order_greater m n).1 h
order_told (suc (suc (suc d))) m n few h = absurd (omega (arith, few))

pub order_stands : (d : ℕ) (m n : ℤ) → order_of m n ≡ d → Stands (order_said d) m n
order_stands zero m n h = (order_less m n).0 h
order_stands (suc zero) m n h = (order_equal m n).0 h
order_stands (suc (suc zero)) m n h = (order_greater m n).0 h
order_stands (suc (suc (suc d))) m n h = absurd (let few = order_known m n _ h in omega (arith, few))

pub from_told : (lo hi n : ℤ) → is_from lo hi n ≡ true → (lo ≤ℤ n) × (n ≤ℤ hi)
from_told lo hi n h = let parts = and_parts _ _ h in (low parts.0, high parts.1)
  where
    low : int_le lo n ≡ true → lo ≤ℤ n
    low e = grind (arith, ints, e)

    high : int_le n hi ≡ true → n ≤ℤ hi
    high e = grind (arith, ints, e)

pub from_tested : (lo hi n : ℤ) → lo ≤ℤ n → n ≤ℤ hi → is_from lo hi n ≡ true
from_tested lo hi n low high = and_from _ _ (a low) (b high)
  where
    a : lo ≤ℤ n → int_le lo n ≡ true
    a e = grind (arith, ints, e)

    b : n ≤ℤ hi → int_le n hi ≡ true
    b e = grind (arith, ints, e)

abbrev placed : Bool → Bool → ℕ
placed b c = if b then 0 else if c then 2 else 1

-- below, within and above a range, whichever its ends are
pub is_below : (lo hi n : ℤ) → place_in lo hi n ≡ 0 → n <ℤ lo
is_below lo hi n h = first (int_lt n lo) refl (int_lt hi n) refl h
  where
    first : (b : Bool) → int_lt n lo ≡ b → (c : Bool) → int_lt hi n ≡ c
        → placed b c ≡ 0 → n <ℤ lo
    first true e c f g = grind (arith, ints, e)
    first false e true f g = absurd (omega (arith, g))
    first false e false f g = absurd (omega (arith, g))

pub is_within : (lo hi n : ℤ) → place_in lo hi n ≡ 1 → (lo ≤ℤ n) × (n ≤ℤ hi)
is_within lo hi n h = first (int_lt n lo) refl (int_lt hi n) refl h
  where
    first : (b : Bool) → int_lt n lo ≡ b → (c : Bool) → int_lt hi n ≡ c
        → placed b c ≡ 1 → (lo ≤ℤ n) × (n ≤ℤ hi)
    first true e c f g = absurd (omega (arith, g))
    first false e true f g = absurd (omega (arith, g))
    first false e false f g = (grind (arith, ints, e), grind (arith, ints, f))

pub is_above : (lo hi n : ℤ) (d : ℕ) → place_in lo hi n ≡ suc (suc d) → hi <ℤ n
is_above lo hi n d h = first (int_lt n lo) refl (int_lt hi n) refl h
  where
    first : (b : Bool) → int_lt n lo ≡ b → (c : Bool) → int_lt hi n ≡ c
        → placed b c ≡ suc (suc d) → hi <ℤ n
    first true e c f g = absurd (omega (arith, g))
    first false e true f g = grind (arith, ints, f)
    first false e false f g = absurd (omega (arith, g))
