-- Numerals of numbers with a sign.
use Rattle.std.proofs.Common.{arith, ◌≡◌, ◌≢◌, ℤ, pos, negsuc, ◌≤ℤ◌, ℕ, suc, ◌^◌, ◌<◌, List, ◌∷◌, decimal, FitsSigned}
use Rattle.std.proofs.Common.{sym, subst, ◌∙◌}
use Rattle.std.specs.Fmt.{signed_decimal}
use Rattle.std.specs.Int.{w64}
use Rattle.std.specs.List.{AllByRecursion}
use Rattle.std.proofs.lemmas.Fmt.{signed_decimal_injective}
use Rattle.std.proofs.lemmas.Int.{ints}
use Rattle.cm_text.specs.Numeral.{IsDigit}
use Rattle.cm_text.proofs.Numerals.{numeral_is}
use Rattle.cm_text.proofs.Fronts.{same_tail}

pub fits_between : (low n high : ℤ) → FitsSigned w64 low → FitsSigned w64 high → low ≤ℤ n → n ≤ℤ high → FitsSigned w64 n
fits_between low n high fl fh l h = search (arith, ints)

-- a text has the numeral of one number
pub one_number : (text : List ℕ) (m n : ℤ) → FitsSigned w64 m → FitsSigned w64 n → text ≡ signed_decimal m
    → text ≡ signed_decimal n → m ≡ n
one_number text m n fm fn is is' = signed_decimal_injective m n fm.sfits fn.sfits (sym is ∙ is')

no_sign : (text : List ℕ) → AllByRecursion (IsDigit 10) (45 ∷ text) → ⊥
no_sign text digits = omega (arith, digits.0.below)

-- behind a `-` stands the numeral of the number's opposite
pub behind_sign : (digits : List ℕ) → ((n : ℕ) → n < 2 ^ 63 → digits ≢ decimal (suc n)) → (n : ℤ) → FitsSigned w64 n
    → 45 ∷ digits ≢ signed_decimal n
behind_sign digits none (pos n) fits e = no_sign digits (subst (AllByRecursion (IsDigit 10)) (sym e)
    (numeral_is 10 n (omega arith) (omega arith) (omega (arith, fits.sfits))).digits)
behind_sign digits none (negsuc n) fits e = none n fits.sfits (same_tail 45 45 digits (decimal (suc n)) e)
