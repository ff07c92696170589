-- What a literal says of the numbers, elements, variants and options that its symbols name.
use Rattle.std.proofs.Common.{◌≡◌, ◌<◌, ◌==◌, ℕ, zero, suc, ℤ, ◌+ℤ◌, ◌≤ℤ◌, Bool, true, false, not, Some, refl, sym, ap}
use Rattle.std.proofs.Common.{◌∙◌, arith, if◌then◌else◌}
use Rattle.std.proofs.lemmas.Bool.{eqb-true, eqb-false, eq-eqb, not-true}
use Rattle.std.proofs.lemmas.Bool.Decides.{nat_tests}
use Rattle.cm_term.specs.declared.symbol.Sym.{Sym}
use Rattle.cm_term.specs.Questions.{place_in}
use Rattle.cm_term.specs.Symbols.{Roots}
use Rattle.cm_ctx.proofs.Outcomes.{place_below, place_within, place_above}
use Rattle.cm_cond.specs.declared.literal.Ord3.{Ord3}
use Rattle.cm_cond.specs.declared.literal.Ord3.TheVariants as ord
use Rattle.cm_cond.specs.declared.literal.Literal.TheVariants as literal
use Rattle.cm_cond.specs.Form.{is_before}
use Rattle.cm_cond.specs.Holding.{literal_holds, stands_so, same_number, other_number, is_from}
use Rattle.cm_cond.specs.Values.{element_of, number_of, presence_of, raised}
use Rattle.cm_name.specs.Naming.{equality_literal, elements_literal, turned, less_by, numbers_literal, place_literal}
use Rattle.cm_name.specs.Naming.{presence_literal}
use Rattle.cm_name.proofs.Numbers.{Stands, told, tested, turn, turn_back, over, over_back, apart, apart_back}
use Rattle.cm_name.proofs.Numbers.{from_told, from_tested, is_below, is_within, is_above}
use Rattle.cm_name.proofs.Readings.{MayBe, raised_may, raised_is, both_told, both_tested, it_told, it_tested}

abbrev decided : Bool → ℕ
decided b = if b then 0 else 1

abbrev pub elements_so : ℕ → ℕ → ℕ
elements_so m n = decided (m == n)

elements_back : (m n : ℕ) → elements_so n m ≡ elements_so m n
elements_back m n = ap decided (let same : (n == m) ≡ (m == n) = grind (arith, nat_tests) in same)

pub few_elements : (m n d : ℕ) → elements_so m n ≡ d → d < 2
few_elements m n d e = by (m == n) e
  where
    by : (b : Bool) → decided b ≡ d → d < 2
    by true f = omega (arith, f)
    by false f = omega (arith, f)

-- by any values of the symbols
module _ (r : Roots) where
  equality_told : (d : ℕ) (x y : Sym) (m n : ℕ) → d < 2 → MayBe (element_of r x) m → MayBe (element_of r y) n
      → literal_holds r (equality_literal d x y) ≡ true → elements_so m n ≡ d
  equality_told zero x y m n few h k e =
      ap decided (both_told same_number (element_of r x) (element_of r y) m n h k e)
  equality_told (suc zero) x y m n few h k e =
      ap decided
      (not-true (m == n) (both_told other_number (element_of r x) (element_of r y) m n h k e))
  equality_told (suc (suc d)) x y m n few h k e = absurd (omega (arith, few))

  equality_tested : (d : ℕ) (x y : Sym) (m n : ℕ) → element_of r x ≡ Some m → element_of r y ≡ Some n
      → elements_so m n ≡ d → literal_holds r (equality_literal d x y) ≡ true
  equality_tested zero x y m n h k e =
      both_tested same_number (element_of r x) (element_of r y) m n h k (by (m == n) e)
    where
      by : (b : Bool) → decided b ≡ 0 → b ≡ true
      by true f = refl
      by false f = absurd (omega (arith, f))
  equality_tested (suc d) x y m n h k e =
      both_tested other_number (element_of r x) (element_of r y) m n h k (by (m == n) e)
    where
      by : (b : Bool) → decided b ≡ suc d → not b ≡ true
      by true f = absurd (omega (arith, f))
      by false f = refl

  pub elements_told : (d : ℕ) (x y : Sym) (m n : ℕ) → d < 2 → MayBe (element_of r x) m → MayBe (element_of r y) n
      → literal_holds r (elements_literal d x y) ≡ true → elements_so m n ≡ d
  elements_told d x y m n few h k e = by (is_before y x) e
    where
      by : (b : Bool) → literal_holds r (if b then equality_literal d y x else equality_literal d x y) ≡ true
          → elements_so m n ≡ d
      by true f = sym (elements_back m n) ∙ equality_told d y x n m few k h f
      by false f = equality_told d x y m n few h k f

  pub elements_tested : (d : ℕ) (x y : Sym) (m n : ℕ) → element_of r x ≡ Some m → element_of r y ≡ Some n
      → elements_so m n ≡ d → literal_holds r (elements_literal d x y) ≡ true
  elements_tested d x y m n h k e = by (is_before y x)
    where
      by : (b : Bool) → literal_holds r (if b then equality_literal d y x else equality_literal d x y) ≡ true
      by true = equality_tested d y x n m k h (elements_back m n ∙ e)
      by false = equality_tested d x y m n h k e

  pub numbers_told : (op : Ord3) (k l : ℤ) (x y : Sym) (m n : ℤ) → MayBe (number_of r x) m → MayBe (number_of r y) n
      → literal_holds r (numbers_literal op k l x y) ≡ true → Stands op (m +ℤ k) (n +ℤ l)
  numbers_told op k l x y m n h g e = by (is_before y x) e
    where
      by : (b : Bool) → literal_holds r (if b then literal.Order y (less_by l k) (turned op) x
          else literal.Order x (less_by k l) op y) ≡ true → Stands op (m +ℤ k) (n +ℤ l)
      by true f = turn op (m +ℤ k) (n +ℤ l) (apart (turned op) n l m k (told (turned op) (n +ℤ less_by l k) m
          (both_told (stands_so (turned op)) (raised (number_of r y) (less_by l k)) (number_of r x) (n +ℤ less_by l k) m
          (raised_may (number_of r y) n (less_by l k) g) h f)))
      by false f = apart op m k n l (told op (m +ℤ less_by k l) n
          (both_told (stands_so op) (raised (number_of r x) (less_by k l)) (number_of r y) (m +ℤ less_by k l) n
          (raised_may (number_of r x) m (less_by k l) h) g f))

  pub numbers_tested : (op : Ord3) (k l : ℤ) (x y : Sym) (m n : ℤ) → number_of r x ≡ Some m → number_of r y ≡ Some n
      → Stands op (m +ℤ k) (n +ℤ l) → literal_holds r (numbers_literal op k l x y) ≡ true
  numbers_tested op k l x y m n h g s = by (is_before y x)
    where
      by : (b : Bool) → literal_holds r (if b then literal.Order y (less_by l k) (turned op) x
          else literal.Order x (less_by k l) op y) ≡ true
      by true = both_tested (stands_so (turned op)) (raised (number_of r y) (less_by l k)) (number_of r x)
          (n +ℤ less_by l k) m (raised_is (number_of r y) n (less_by l k) g) h
          (tested (turned op) (n +ℤ less_by l k) m
          (apart_back (turned op) n l m k (turn_back op (m +ℤ k) (n +ℤ l) s)))
      by false = both_tested (stands_so op) (raised (number_of r x) (less_by k l)) (number_of r y)
          (m +ℤ less_by k l) n (raised_is (number_of r x) m (less_by k l) h) g
          (tested op (m +ℤ less_by k l) n (apart_back op m k n l s))

  -- against a number, the offset moved over
  pub against_told : (op : Ord3) (k n : ℤ) (x : Sym) (m : ℤ) → MayBe (number_of r x) m
      → literal_holds r (literal.Against x op (less_by n k)) ≡ true → Stands op (m +ℤ k) n
  against_told op k n x m h e =
      over op m k n (told op m (less_by n k) (it_told (λ z. stands_so op z (less_by n k)) (number_of r x) m h e))

  pub against_tested : (op : Ord3) (k n : ℤ) (x : Sym) (m : ℤ) → number_of r x ≡ Some m → Stands op (m +ℤ k) n
      → literal_holds r (literal.Against x op (less_by n k)) ≡ true
  against_tested op k n x m h s =
      it_tested (λ z. stands_so op z (less_by n k)) (number_of r x) m h
      (tested op m (less_by n k) (over_back op m k n s))

  pub place_told : (k lo hi : ℤ) (d : ℕ) (x : Sym) (m : ℤ) → lo ≤ℤ hi → d < 3 → MayBe (number_of r x) m
      → literal_holds r (place_literal k lo hi d x) ≡ true → place_in lo hi (m +ℤ k) ≡ d
  place_told k lo hi zero x m ends few h e =
      (place_below lo hi (m +ℤ k) ends).1 (against_told ord.Less k lo x m h e)
  place_told k lo hi (suc zero) x m ends few h e =
      (place_within lo hi (m +ℤ k) ends).1 (from_told lo hi (m +ℤ k)
      (it_told (is_from lo hi) (raised (number_of r x) k) (m +ℤ k) (raised_may (number_of r x) m k h) e))
  place_told k lo hi (suc (suc zero)) x m ends few h e =
      (place_above lo hi (m +ℤ k) ends).1 (against_told ord.Greater k hi x m h e)
  place_told k lo hi (suc (suc (suc d))) x m ends few h e = absurd (omega (arith, few))

  pub place_tested : (k lo hi : ℤ) (d : ℕ) (x : Sym) (m : ℤ) → number_of r x ≡ Some m → place_in lo hi (m +ℤ k) ≡ d
      → literal_holds r (place_literal k lo hi d x) ≡ true
  place_tested k lo hi zero x m h e = against_tested ord.Less k lo x m h (is_below lo hi (m +ℤ k) e)
  place_tested k lo hi (suc zero) x m h e =
      let w = is_within lo hi (m +ℤ k) e in
      it_tested (is_from lo hi) (raised (number_of r x) k) (m +ℤ k) (raised_is (number_of r x) m k h)
      (from_tested lo hi (m +ℤ k) w.0 w.1)
  place_tested k lo hi (suc (suc d)) x m h e =
      against_tested ord.Greater k hi x m h (is_above lo hi (m +ℤ k) d e)

  pub presence_told : (d : ℕ) (x : Sym) (n : ℕ) → d < 2 → n < 2 → MayBe (presence_of r x) (n == 1)
      → literal_holds r (presence_literal d x) ≡ true → n ≡ d
  presence_told zero x n few small h e =
      let other = not-true (n == 1) (it_told not (presence_of r x) (n == 1) h e) in
      let no_one = eqb-false n 1 other in omega (arith, small, no_one)
  presence_told (suc zero) x n few small h e = eqb-true n 1 (it_told (λ b. b) (presence_of r x) (n == 1) h e)
  presence_told (suc (suc d)) x n few small h e = absurd (omega (arith, few))

  pub presence_tested : (d : ℕ) (x : Sym) (n : ℕ) → n < 2 → presence_of r x ≡ Some (n == 1) → n ≡ d
      → literal_holds r (presence_literal d x) ≡ true
  presence_tested zero x n small h e =
      it_tested not (presence_of r x) (n == 1) h (ap (λ m. not (m == 1)) e)
  presence_tested (suc d) x n small h e =
      let one : n ≡ 1 = omega (arith, small, e) in
      it_tested (λ b. b) (presence_of r x) (n == 1) h (eq-eqb n 1 one)
