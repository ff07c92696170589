-- Runs of bytes of a kind.
use Rattle.std.proofs.Common.{arith, ◌≡◌, ℕ, ◌+◌, ◌-◌, ◌*◌, ◌<◌, ◌≤◌, Bool, true, List, [], ◌∷◌, take, length, get_or}
use Rattle.std.proofs.Common.{ap, ◌∙◌}
use Rattle.std.specs.Char.{digit_value, is_ascii_digit}
use Rattle.std.specs.List.{AllPass, prefix_len}
use Rattle.std.specs.Str.{IsUtf8}
use Rattle.std.specs.Str.Parse.{AllDigits, digits_value}
use Rattle.std.proofs.lemmas.Bool.Decides.{nat_tests}
use Rattle.std.proofs.lemmas.Int.Digits.{digits_value-lt, digits_value_more}
use Rattle.std.proofs.lemmas.List.{get_or-take, length-take}
use Rattle.std.proofs.lemmas.List.Elements.{All-from_get_or, All-get_or, All-head, All-tail, All-weaker}
use Rattle.std.proofs.lemmas.List.Sums.{prefix_len_passes}
use Rattle.std.proofs.lemmas.Str.{IsUtf8-from_ascii, digit_value_digit}
use Rattle.std.proofs.lemmas.Str.Ascii.{IsAscii-from_all}
use Rattle.std.proofs.lemmas.Str.Parse.{digits_value-take-le}
use Rattle.std.proofs.Math.Nat.{pow-le-pow_right}
use Rattle.cm_tokens.specs.Bytes.{is_name_byte}

pub run_passes : (p : ℕ → Bool) (text : List ℕ) → AllPass p (take (prefix_len p text) text)
run_passes p text =
    let n = prefix_len p text in
    All-from_get_or (λ b. p b ≡ true) (take n text) 0 (λ i within.
    let below : i < n = omega (arith, length-take n text) in
    ap p (get_or-take n text i 0 below) ∙ prefix_len_passes p text i 0 below)

name_byte_below : (b : ℕ) → is_name_byte b ≡ true → b < 128
name_byte_below b name = grind (arith, nat_tests)

pub name_utf8 : (run : List ℕ) → AllPass is_name_byte run → IsUtf8 run
name_utf8 run all = IsUtf8-from_ascii run (IsAscii-from_all run (All-weaker (λ b. is_name_byte b ≡ true)
    (λ b. b < 128) name_byte_below run all))

pub digit_bounds : (b : ℕ) → is_ascii_digit b ≡ true → (48 ≤ b) × (b ≤ 57) × (digit_value b + 48 ≡ b)
digit_bounds b digit =
    let low : 48 ≤ b = grind (arith, nat_tests) in
    let high : b ≤ 57 = grind (arith, nat_tests) in
    (low, high, digit_value_digit b (low, high))

digits_all : (digits : List ℕ) → AllPass is_ascii_digit digits → AllDigits 10 digits
digits_all [] all = tt
digits_all (b ∷ bs) all =
    let here = digit_bounds b (All-head (λ b. is_ascii_digit b ≡ true) b bs all) in
    (omega (arith, here.1, here.2), digits_all bs (All-tail (λ b. is_ascii_digit b ≡ true) b bs all))

-- at most seven digits write a number below ten million, and so do fewer of them
pub value_short : (digits : List ℕ) (i : ℕ) → AllPass is_ascii_digit digits → length digits ≤ 7
    → digits_value 10 (take i digits) < 10000000
value_short digits i all short =
    omega (
      arith,
      digits_value-take-le 10 digits i (omega arith),
      digits_value-lt 10 digits (digits_all digits all),
      pow-le-pow_right {n = 10} (omega arith) short,
    )

-- one digit more
pub value_more : (digits : List ℕ) (i : ℕ) → AllPass is_ascii_digit digits → i < length digits
    → (48 ≤ get_or digits i 0) × (get_or digits i 0 ≤ 57)
    × (digits_value 10 (take (i + 1) digits) ≡ digits_value 10 (take i digits) * 10 + (get_or digits i 0 - 48))
value_more digits i all within =
    let here = digit_bounds (get_or digits i 0) (All-get_or (λ b. is_ascii_digit b ≡ true) digits i 0 within all) in
    (here.0, here.1, omega (arith, digits_value_more 10 digits i within, here.2))
