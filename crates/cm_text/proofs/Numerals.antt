-- The digits that std writes of a number are the one numeral of it.
use Rattle.std.proofs.Common.{arith, ◌≡◌, ◌≢◌, ℕ, suc, zero, ◌+◌, ◌*◌, ◌/◌, ◌%◌, ◌^◌, ◌<◌, ◌≤◌, Bool, true, false, cond}
use Rattle.std.proofs.Common.{eqb, List, [], ◌∷◌, ◌++◌, length, get_or, map, ap, sym, subst, refl, ◌∙◌, append_assoc}
use Rattle.std.proofs.Common.{eqb-true, inl, inr, pow-suc, div-lt_iff_lt-mul, mod-eq_of_lt, mul-pos}
use Rattle.std.proofs.Common.{le-mul_of_pos_right}
use Rattle.std.specs.List.{AllByRecursion}
use Rattle.std.specs.Char.{digit_value}
use Rattle.std.specs.Fmt.{digit_glyph, digits, digits_onto}
use Rattle.std.specs.Int.Digits.{AllBelowBase, digits_of}
use Rattle.std.specs.Str.Parse.{digits_value, digits_value_after}
use Rattle.std.proofs.lemmas.Bool.{cases_lt, eqb-false}
use Rattle.std.proofs.lemmas.Fmt.{digits_is_IsNumeral}
use Rattle.std.proofs.lemmas.Str.{digit_value-digit_char}
use Rattle.std.proofs.lemmas.Int.Digits.{all_below_base_digits_of, digits_of_step, first_digits_of, length-digits_of-le}
use Rattle.std.proofs.lemmas.List.{map-append, append-nil, length-map}
use Rattle.std.proofs.lemmas.Nat.{div-mul-add, mod-mul-add}
use Rattle.std.proofs.Math.Nat.{div-eq_of_lt, pow-le-pow_right, pow-zero}
use Rattle.cm_text.specs.Numeral.{IsDigit, numeral}

-- the text is a numeral with this value
pub record IsNumeral (base : ℕ) (text : List ℕ) (n : ℕ) : Type 0 where
  pub some : 0 < length text
  pub digits : AllByRecursion (IsDigit base) text
  pub plain : get_or text 0 0 ≡ 48 → length text ≡ 1
  pub value : digits_value base text ≡ n

-- what a digit's value is written as
abbrev glyph : ℕ → ℕ
glyph d = digit_glyph false d

-- one digit more, behind what stands for the rest
glyphs_step : (base n : ℕ) (acc : List ℕ) → 2 ≤ base → 0 < n → map glyph (digits_of base n) ++ acc
    ≡ map glyph (digits_of base (n / base)) ++ (glyph (n % base) ∷ acc)
glyphs_step base n acc low some =
    ap (λ ds. map glyph ds ++ acc) (digits_of_step base n low some)
    ∙ ap (λ l. l ++ acc) (map-append glyph (digits_of base (n / base)) (n % base ∷ []))
    ∙ append_assoc (map glyph (digits_of base (n / base))) (glyph (n % base) ∷ []) acc

no_digit : (base n : ℕ) → n ≡ 0 → map glyph (digits_of base n) ≡ []
no_digit base n e = ap (λ m. map glyph (digits_of base m)) e

onto_is : (k base n : ℕ) (acc : List ℕ) → 2 ≤ base → 0 < n → n < base ^ k
    → digits_onto k base false n acc ≡ map glyph (digits_of base n) ++ acc
onto_is zero base n acc low some fits = absurd (omega (arith, fits, pow-zero base))
onto_is (suc k) base n acc low some fits = by (eqb (n / base) 0) refl (λ more. onto_is k base (n / base)
    (glyph (n % base) ∷ acc) low more ((div-lt_iff_lt-mul {k = base} {x = n} {y = base ^ k} (omega arith)).1
    (omega (arith, fits, pow-suc base k))))
  where
    by : (t : Bool) → eqb (n / base) 0 ≡ t
        → (0 < n / base → digits_onto k base false (n / base) (glyph (n % base) ∷ acc) ≡ map glyph
        (digits_of base (n / base)) ++ (glyph (n % base) ∷ acc))
        → cond t (glyph (n % base) ∷ acc) (digits_onto k base false (n / base) (glyph (n % base) ∷ acc))
        ≡ map glyph (digits_of base n) ++ acc
    by true e rest = sym (glyphs_step base n acc low some ∙ ap (λ l. l ++ (glyph (n % base) ∷ acc))
        (no_digit base (n / base) (eqb-true _ 0 e)))
    by false e rest = rest (elim (cases_lt 0 (n / base)) [
      | inl more ↦ more
      | inr none ↦ absurd (eqb-false _ 0 e (omega arith))
    ]) ∙ sym (glyphs_step base n acc low some)

numeral_digits : (base n : ℕ) → 2 ≤ base → 0 < n → n < base ^ 64 → numeral base n ≡ map glyph (digits_of base n)
unfolding digits
numeral_digits base n low some fits = onto_is 64 base n [] low some fits ∙ append-nil (map glyph (digits_of base n))

zero_onto : (k base q r : ℕ) → q ≡ 0 → r ≡ 0 → cond (eqb q 0) (glyph r ∷ []) (digits_onto k base false q (glyph r ∷ []))
    ≡ 48 ∷ []
zero_onto k base q r e f = subst (λ q. cond (eqb q 0) (glyph r ∷ []) (digits_onto k base false q (glyph r ∷ []))
    ≡ 48 ∷ []) (sym e) (ap (λ r. glyph r ∷ []) f)

numeral_zero : (base : ℕ) → 2 ≤ base → numeral base 0 ≡ 48 ∷ []
unfolding digits
numeral_zero base low = zero_onto 63 base (0 / base) (0 % base) (omega arith) (omega arith)

digit_glyph_is : (base d : ℕ) → base ≤ 16 → d < base → IsDigit base (glyph d)
digit_glyph_is base d high below =
    let is : digit_value (glyph d) ≡ d = digit_value-digit_char d (omega arith) in
    record { below = omega (arith, is, below); lower = ap glyph is }

glyphs_are_digits : (base : ℕ) (ds : List ℕ) → base ≤ 16 → AllBelowBase base ds
    → AllByRecursion (IsDigit base) (map glyph ds)
glyphs_are_digits base [] high all = tt
glyphs_are_digits base (d ∷ ds) high all = (digit_glyph_is base d high all.0, glyphs_are_digits base ds high all.1)

plain_glyph : (d : ℕ) → 0 < d → d < 16 → glyph d ≢ 48
plain_glyph d some small e = let is : digit_value (glyph d) ≡ d = digit_value-digit_char d (omega arith) in
    omega (arith, is, ap digit_value e)

plain_glyphs : (ds : List ℕ) → 0 < get_or ds 0 0 → AllBelowBase 16 ds → get_or (map glyph ds) 0 0 ≢ 48
plain_glyphs [] some all e = omega (arith, some)
plain_glyphs (d ∷ ds) some all e = plain_glyph d some all.0 e

below_16 : (base : ℕ) (ds : List ℕ) → base ≤ 16 → AllBelowBase base ds → AllBelowBase 16 ds
below_16 base [] high all = tt
below_16 base (d ∷ ds) high all = (omega (arith, all.0), below_16 base ds high all.1)

-- what std writes of a number is a numeral of it
pub numeral_is : (base n : ℕ) → 2 ≤ base → base ≤ 16 → n < base ^ 64 → IsNumeral base (numeral base n) n
numeral_is base n low high fits =
    let std = digits_is_IsNumeral base false low high n fits in
    elim (cases_lt 0 n) [
      | inl some ↦
          let e = numeral_digits base n low some fits in
          let all = all_below_base_digits_of base n low in
          record {
            some = std.0.0;
            digits = subst (AllByRecursion (IsDigit base)) (sym e) (glyphs_are_digits base (digits_of base n) high all);
            plain = λ zero. absurd (plain_glyphs (digits_of base n) (first_digits_of base n low some)
                (below_16 base (digits_of base n) high all) (subst (λ l. get_or l 0 0 ≡ 48) e zero));
            value = std.1;
          }
      | inr none ↦
          let zero_is : n ≡ 0 = omega arith in
          let e : numeral base n ≡ 48 ∷ [] = ap (numeral base) zero_is ∙ numeral_zero base low in
          record {
            some = std.0.0;
            digits = subst (AllByRecursion (IsDigit base)) (sym e) (digit_glyph_is base 0 high (omega arith), tt);
            plain = λ _. ap length e;
            value = std.1;
          }
    ]

-- the digits behind a number's first ones
digits_after : (base n : ℕ) (cs : List ℕ) → 2 ≤ base → 0 < n → AllByRecursion (IsDigit base) cs
    → digits_of base (digits_value_after base n cs) ≡ digits_of base n ++ map digit_value cs
digits_after base n [] low some all = sym (append-nil (digits_of base n))
digits_after base n (c ∷ cs) low some all =
    let m : ℕ = n * base + digit_value c in
    let base_some : 0 < base = omega arith in
    let positive : 0 < m = omega (arith, mul-pos some base_some) in
    digits_after base m cs low positive all.1
    ∙ ap (λ ds. ds ++ map digit_value cs) (digits_of_step base m low positive
    ∙ (λ i. digits_of base (div-mul-add n base (digit_value c) all.0.below i)
    ++ (mod-mul-add n base (digit_value c) all.0.below i ∷ [])))
    ∙ append_assoc (digits_of base n) (digit_value c ∷ []) (map digit_value cs)

glyphs_back : (base : ℕ) (cs : List ℕ) → AllByRecursion (IsDigit base) cs → map glyph (map digit_value cs) ≡ cs
glyphs_back base [] all = refl
glyphs_back base (c ∷ cs) all = ap (λ g. g ∷ map glyph (map digit_value cs)) all.0.lower
    ∙ ap (λ l. c ∷ l) (glyphs_back base cs all.1)

one_digit : (base d : ℕ) → 2 ≤ base → 0 < d → d < base → digits_of base d ≡ d ∷ []
one_digit base d low some below =
    let q : d / base ≡ 0 = div-eq_of_lt below in
    let r : d % base ≡ d = mod-eq_of_lt below in
    digits_of_step base d low some ∙ (λ i. digits_of base (q i) ++ (r i ∷ []))

after_ge : (base n : ℕ) (cs : List ℕ) → 1 ≤ base → n ≤ digits_value_after base n cs
after_ge base n [] some = omega arith
after_ge base n (c ∷ cs) some = omega (
  arith,
  after_ge base (n * base + digit_value c) cs some,
  le-mul_of_pos_right n some,
)

no_more : (l : List ℕ) → length l ≡ 0 → l ≡ []
no_more [] e = refl
no_more (x ∷ xs) e = absurd (omega arith)

-- a numeral is what std writes of its value
pub numeral_of : (base : ℕ) (text : List ℕ) (n : ℕ) → 2 ≤ base → base ≤ 16 → n < base ^ 64 → IsNumeral base text n
    → text ≡ numeral base n
numeral_of base [] n low high fits is = absurd (omega (arith, is.some))
numeral_of base (c ∷ cs) n low high fits is =
    elim (cases_lt 0 (digit_value c)) [
      | inl some ↦
          let d = digit_value c in
          let from_zero : d ≡ 0 * base + d = omega arith in
          let value : digits_value_after base d cs ≡ n = ap (λ m. digits_value_after base m cs) from_zero ∙ is.value in
          let digits : digits_of base n ≡ d ∷ map digit_value cs = ap (digits_of base) (sym value)
          ∙ digits_after base d cs low some is.digits.1 ∙ ap (λ l. l ++ map digit_value cs)
          (one_digit base d low some is.digits.0.below) in
          sym (glyphs_back base (c ∷ cs) is.digits) ∙ ap (map glyph) (sym digits)
          ∙ sym (numeral_digits base n low (omega (arith, after_ge base d cs (omega arith), value, some)) fits)
      | inr none ↦
          let zero_is : digit_value c ≡ 0 = omega arith in
          let first : c ≡ 48 = sym is.digits.0.lower ∙ ap glyph zero_is in
          let alone : cs ≡ [] = no_more cs (omega (arith, is.plain first)) in
          let value : n ≡ 0 = sym is.value ∙ ap (digits_value_after base (0 * base + digit_value c)) alone
          ∙ omega (arith, zero_is) in
          (λ i. first i ∷ alone i) ∙ sym (ap (numeral base) value ∙ numeral_zero base low)
    ]

-- a number below the k-th power of the base has at most k digits
pub numeral_length : (base k n : ℕ) → 2 ≤ base → 0 < k → k ≤ 64 → n < base ^ k → length (numeral base n) ≤ k
numeral_length base k n low some few fits =
    elim (cases_lt 0 n) [
      | inl positive ↦
          let room : n < base ^ 64 = omega (arith, fits, pow-le-pow_right {n = base} (omega arith) few) in
          omega (
            arith,
            ap length (numeral_digits base n low positive room),
            length-map (digits_of base n) glyph,
            length-digits_of-le base k n low fits,
          )
      | inr none ↦
          let zero_is : n ≡ 0 = omega arith in
          omega (arith, ap length (ap (numeral base) zero_is ∙ numeral_zero base low))
    ]
