-- The digits at the front of a text.
use Rattle.std.proofs.Common.{arith, ◌≡◌, ◌≢◌, ℕ, ◌+◌, ◌*◌, ◌%◌, ◌^◌, ◌<◌, ◌≤◌, List, [], ◌∷◌, ◌++◌, length, take, drop}
use Rattle.std.proofs.Common.{get_or, ap, sym, subst, refl, ◌∙◌, inl, inr}
use Rattle.std.specs.List.{AllByRecursion}
use Rattle.std.specs.Str.Parse.{AllDigits, digits_value}
use Rattle.std.proofs.lemmas.Bool.{cases_lt}
use Rattle.std.proofs.lemmas.List.{get_or-take, length-take, take-append-drop, take_at, take_more, append-nil}
use Rattle.std.specs.Char.{digit_value}
use Rattle.std.proofs.lemmas.Int.Digits.{digits_value-lt, digits_value_more}
use Rattle.std.proofs.lemmas.Nat.{mul-mod_first}
use Rattle.std.proofs.Math.Nat.{mod-add-mod, pow-le-pow_right}
use Rattle.std.proofs.lemmas.Str.Parse.{digits_value-take-le}
use Rattle.cm_text.specs.Numeral.{BeginsWithDigit, IsDigit, numeral}
use Rattle.cm_text.specs.Run.{IsRun, WritesMore}
use Rattle.cm_text.proofs.Numerals.{IsNumeral, numeral_is, numeral_length, numeral_of}

pub all_push : {X : Type 0} (P : X → Type 0) (xs : List X) (x : X) → AllByRecursion P xs → P x
    → AllByRecursion P (xs ++ x ∷ [])
all_push P [] x all p = (p, tt)
all_push P (y ∷ ys) x all p = (all.0, all_push P ys x all.1 p)

pub same_tail : (x y : ℕ) (xs ys : List ℕ) → x ∷ xs ≡ y ∷ ys → xs ≡ ys
same_tail x y xs ys e = cc

pub same_head : (x y : ℕ) (xs ys : List ℕ) → x ∷ xs ≡ y ∷ ys → x ≡ y
same_head x y xs ys e = cc

-- digits at the front begin each front behind which no digit stands
front_begins : (base : ℕ) (xs ys a b : List ℕ) → AllByRecursion (IsDigit base) xs → ¬ BeginsWithDigit base b
    → xs ++ a ≡ ys ++ b → (more : List ℕ) × (ys ≡ xs ++ more)
front_begins base [] ys a b digits none e = (ys, refl)
front_begins base (x ∷ xs) [] a b digits none e = absurd (none (subst (BeginsWithDigit base) e digits.0))
front_begins base (x ∷ xs) (y ∷ ys) a b digits none e =
    let r = front_begins base xs ys a b digits.1 none (same_tail x y (xs ++ a) (ys ++ b) e) in
    (r.0, ap (λ h. h ∷ ys) (sym (same_head x y (xs ++ a) (ys ++ b) e)) ∙ ap (λ l. x ∷ l) r.1)

-- a text has one longest front of digits
pub one_front : (base : ℕ) (xs ys a b : List ℕ) → AllByRecursion (IsDigit base) xs → AllByRecursion (IsDigit base) ys
    → ¬ BeginsWithDigit base a → ¬ BeginsWithDigit base b → xs ++ a ≡ ys ++ b → (xs ≡ ys) × (a ≡ b)
one_front base [] [] a b dx dy na nb e = (refl, e)
one_front base [] (y ∷ ys) a b dx dy na nb e = absurd (na (subst (BeginsWithDigit base) (sym e) dy.0))
one_front base (x ∷ xs) [] a b dx dy na nb e = absurd (nb (subst (BeginsWithDigit base) e dx.0))
one_front base (x ∷ xs) (y ∷ ys) a b dx dy na nb e =
    let r = one_front base xs ys a b dx.1 dy.1 na nb (same_tail x y (xs ++ a) (ys ++ b) e) in
    (ap (λ h. h ∷ xs) (same_head x y (xs ++ a) (ys ++ b) e) ∙ ap (λ l. y ∷ l) r.0, r.1)

value_grows : (base : ℕ) (xs more : List ℕ) → 1 ≤ base → digits_value base xs ≤ digits_value base (xs ++ more)
value_grows base xs more some = subst (λ l. digits_value base l ≤ digits_value base (xs ++ more))
    (take_at xs more (length xs) refl) (digits_value-take-le base (xs ++ more) (length xs) some)

-- where some digits at the front write too much, no numeral of the numbers up to `most` stands there
pub none_at_more : (base most : ℕ) (text : List ℕ) (count : ℕ) → 2 ≤ base → base ≤ 16 → most < base ^ 64
    → WritesMore base most text count → (n : ℕ) (rest : List ℕ) → n ≤ most → ¬ BeginsWithDigit base rest
    → text ≢ numeral base n ++ rest
none_at_more base most text count low high fits more n rest within none e =
    let is = numeral_is base n low high (omega (arith, fits, within)) in
    let b = front_begins base (take count text) (numeral base n) (drop count text) rest more.digits none
    (take-append-drop count text ∙ e) in
    omega (
      arith,
      more.above,
      within,
      value_grows base (take count text) b.0 (omega arith),
      ap (digits_value base) b.1,
      is.value,
    )

run_is : (base : ℕ) (text : List ℕ) (count value n : ℕ) (rest : List ℕ) → IsRun base text count value
    → IsNumeral base (numeral base n) n → ¬ BeginsWithDigit base rest → text ≡ numeral base n ++ rest
    → (take count text ≡ numeral base n) × (drop count text ≡ rest)
run_is base text count value n rest run is none e = one_front base (take count text) (numeral base n)
    (drop count text) rest run.digits is.digits run.ends none (take-append-drop count text ∙ e)

-- where no digit stands at the front, no numeral does
pub none_at_none : (base most : ℕ) (text : List ℕ) (value : ℕ) → 2 ≤ base → base ≤ 16 → most < base ^ 64
    → IsRun base text 0 value → (n : ℕ) (rest : List ℕ) → n ≤ most → ¬ BeginsWithDigit base rest
    → text ≢ numeral base n ++ rest
none_at_none base most text value low high fits run n rest within none e =
    let is = numeral_is base n low high (omega (arith, fits, within)) in
    omega (arith, is.some, ap length (run_is base text 0 value n rest run is none e).0)

-- nor where the digits have a needless leading zero
pub none_at_zero : (base most : ℕ) (text : List ℕ) (count value : ℕ) → 2 ≤ base → base ≤ 16 → most < base ^ 64
    → IsRun base text count value → 1 < count → get_or text 0 0 ≡ 48 → (n : ℕ) (rest : List ℕ) → n ≤ most
    → ¬ BeginsWithDigit base rest → text ≢ numeral base n ++ rest
none_at_zero base most text count value low high fits run several zero n rest within none e =
    let is = numeral_is base n low high (omega (arith, fits, within)) in
    let same = (run_is base text count value n rest run is none e).0 in
    let first : get_or (numeral base n) 0 0 ≡ 48 = ap (λ l. get_or l 0 0) (sym same)
    ∙ get_or-take count text 0 0 (omega arith) ∙ zero in
    omega (arith, is.plain first, ap length same, length-take count text, run.within)

-- nor where there are more digits than any of the numbers has
pub none_at_long : (base most longest : ℕ) (text : List ℕ) (count value : ℕ) → 2 ≤ base → base ≤ 16
    → 1 ≤ longest → longest ≤ 64 → most < base ^ longest → IsRun base text count value → longest < count
    → (n : ℕ) (rest : List ℕ) → n ≤ most → ¬ BeginsWithDigit base rest → text ≢ numeral base n ++ rest
none_at_long base most longest text count value low high one few fits run long n rest within none e =
    let room : n < base ^ 64 = omega (arith, fits, within, pow-le-pow_right {n = base} (omega arith) few) in
    let is = numeral_is base n low high room in
    let same = (run_is base text count value n rest run is none e).0 in
    let short : length (numeral base n) ≤ longest = numeral_length base longest n low one few
    (omega (arith, fits, within)) in
    omega (arith, ap length same, length-take count text, run.within, short)

-- nor where the digits write too much
pub none_at_above : (base most : ℕ) (text : List ℕ) (count value : ℕ) → 2 ≤ base → base ≤ 16 → most < base ^ 64
    → IsRun base text count value → most < value
    → (n : ℕ) (rest : List ℕ) → n ≤ most → ¬ BeginsWithDigit base rest → text ≢ numeral base n ++ rest
none_at_above base most text count value low high fits run above n rest within none e =
    let is = numeral_is base n low high (omega (arith, fits, within)) in
    let same = (run_is base text count value n rest run is none e).0 in
    omega (arith, above, within, is.value, ap (digits_value base) same, run.written)

all_digits : (base : ℕ) (cs : List ℕ) → AllByRecursion (IsDigit base) cs → AllDigits base cs
all_digits base [] all = tt
all_digits base (c ∷ cs) all = (all.0.below, all_digits base cs all.1)

-- so many digits write less than the power of the base
pub run_below : (base longest : ℕ) (text : List ℕ) (count value : ℕ) → 2 ≤ base → IsRun base text count value
    → count ≤ longest → value < base ^ longest
run_below base longest text count value low run few =
    let size : length (take count text) ≡ count = omega (arith, length-take count text, run.within) in
    let below : digits_value base (take count text) < base ^ count =
    subst (λ k. digits_value base (take count text) < base ^ k) size
    (digits_value-lt base (take count text) (all_digits base (take count text) run.digits)) in
    omega (arith, below, run.written, pow-le-pow_right {n = base} (omega arith) few)

-- one digit more behind a number modulo another
pub digit_modulo : (n base d m : ℕ) → (n % m * base % m + d) % m ≡ (n * base + d) % m
digit_modulo n base d m = ap (λ k. (k + d) % m) (mul-mod_first n base m) ∙ mod-add-mod (n * base) m d

-- and else the digits are the numeral of their value
pub run_numeral : (base : ℕ) (text : List ℕ) (count value : ℕ) → 2 ≤ base → base ≤ 16 → value < base ^ 64
    → IsRun base text count value → 0 < count → (1 < count → get_or text 0 0 ≢ 48)
    → text ≡ numeral base value ++ drop count text
run_numeral base text count value low high fits run some plain =
    let size : length (take count text) ≡ count = omega (arith, length-take count text, run.within) in
    let is : IsNumeral base (take count text) value = record {
      some = omega (arith, size);
      digits = run.digits;
      plain = λ zero. alone count size some plain (sym (get_or-take count text 0 0 some) ∙ zero);
      value = run.written;
    } in
    sym (take-append-drop count text) ∙ ap (λ l. l ++ drop count text) (numeral_of base (take count text)
    value low high fits is)
  where
    alone : (k : ℕ) → length (take count text) ≡ k → 0 < k → (1 < k → get_or text 0 0 ≢ 48) → get_or text 0 0 ≡ 48
        → length (take count text) ≡ 1
    alone k size some plain zero = elim (cases_lt 1 k) [
      | inl several ↦ absurd (plain several zero)
      | inr one ↦ omega (arith, size, one, some)
    ]

-- one digit more
pub one_more : (base : ℕ) (text : List ℕ) (i n d : ℕ) → i < length text → AllByRecursion (IsDigit base) (take i text)
    → digits_value base (take i text) ≡ n → IsDigit base (get_or text i 0) → d ≡ digit_value (get_or text i 0)
    → AllByRecursion (IsDigit base) (take (i + 1) text) × (digits_value base (take (i + 1) text) ≡ n * base + d)
one_more base text i n d within digits written digit is = (
  subst (AllByRecursion (IsDigit base)) (sym (take_more text i 0 within)) (all_push (IsDigit base) (take i text)
      (get_or text i 0) digits digit),
  digits_value_more base text i within ∙ (λ j. written j * base + sym is j),
)

-- two numerals behind which no digit stands are one, and so is what stands behind them
pub same_numeral : (base m n : ℕ) (a b : List ℕ) → 2 ≤ base → base ≤ 16 → m < base ^ 64 → n < base ^ 64
    → ¬ BeginsWithDigit base a → ¬ BeginsWithDigit base b → numeral base m ++ a ≡ numeral base n ++ b
    → (m ≡ n) × (a ≡ b)
same_numeral base m n a b low high fits fits' na nb e =
    let is = numeral_is base m low high fits in
    let is' = numeral_is base n low high fits' in
    let same = one_front base (numeral base m) (numeral base n) a b is.digits is'.digits na nb e in
    (sym is.value ∙ ap (digits_value base) same.0 ∙ is'.value, same.1)

-- a numeral with something behind it that is no digit is no numeral
pub no_numeral : (base m n : ℕ) (rest : List ℕ) → 2 ≤ base → base ≤ 16 → m < base ^ 64 → n < base ^ 64
    → ¬ BeginsWithDigit base rest → numeral base m ++ rest ≡ numeral base n → rest ≡ []
no_numeral base m n rest low high fits fits' none e =
    (same_numeral base m n rest [] low high fits fits' none (λ no. no) (e ∙ sym (append-nil (numeral base n)))).1
