-- How many bytes the first token takes: at least one where there is one, and none of them a newline.
use Rattle.std.proofs.Common.{arith, ◌≡◌, ℕ, ◌+◌, ◌<◌, ◌≤◌, ◌&&◌, ◌||◌, Bool, true, false, cond, eqb, nat_eq, List, []}
use Rattle.std.proofs.Common.{◌∷◌, length, ap, sym, refl, ◌∙◌}
use Rattle.std.specs.Char.{is_ascii_alphabetic, is_ascii_digit}
use Rattle.std.specs.List.{prefix_len, starts_with}
use Rattle.std.proofs.lemmas.Bool.{eqb-true, false≢true}
use Rattle.std.proofs.lemmas.Bool.Decides.{nat_tests}
use Rattle.std.proofs.lemmas.List.Folds.{length-prefix_len}
use Rattle.cm_text.specs.Place.{is_in_line}
use Rattle.cm_tokens.specs.Bytes.{is_name_byte, is_space}
use Rattle.cm_tokens.specs.First.{first_token, mark_among, mark_of, number_of, run_of, word_of}
use Rattle.cm_tokens.specs.Gap.{begins_comment, gap_from, gap_of}
use Rattle.cm_tokens.specs.Spellings.{marks}
use Rattle.cm_tokens.specs.declared.token.Token.{Token}

-- it takes some bytes of the line
pub record IsWithinLine (text : List ℕ) (len : ℕ) : Type 0 where
  pub some : 1 ≤ len
  pub in_line : len ≤ prefix_len is_in_line text

one_more : (p : ℕ → Bool) (b : ℕ) (bs : List ℕ) → p b ≡ true → prefix_len p (b ∷ bs) ≡ 1 + prefix_len p bs
one_more p b bs passes = ap (λ t. cond t (1 + prefix_len p bs) 0) passes

-- the bytes of a kind are no more than those of a wider kind
narrower : (p q : ℕ → Bool) → ((b : ℕ) → p b ≡ true → q b ≡ true) → (bs : List ℕ) → prefix_len p bs ≤ prefix_len q bs
narrower p q wider [] = omega arith
narrower p q wider (b ∷ bs) = by (p b) refl (narrower p q wider bs)
  where
    by : (t : Bool) → p b ≡ t → prefix_len p bs ≤ prefix_len q bs
        → cond t (1 + prefix_len p bs) 0 ≤ prefix_len q (b ∷ bs)
    by true passes less = omega (arith, less, one_more q b bs (wider b passes))
    by false fails less = omega arith

name_in_line : (b : ℕ) → is_name_byte b ≡ true → is_in_line b ≡ true
name_in_line b name = grind (arith, nat_tests)

digit_in_line : (b : ℕ) → is_ascii_digit b ≡ true → is_in_line b ≡ true
digit_in_line b digit = grind (arith, nat_tests)

letter_is_name_byte : (b : ℕ) → is_ascii_alphabetic b ≡ true → is_name_byte b ≡ true
letter_is_name_byte b letter = grind (arith, nat_tests)

run_within : (p : ℕ → Bool) (token_of : List ℕ → Token) (b : ℕ) (bs : List ℕ)
    → ((c : ℕ) → p c ≡ true → is_in_line c ≡ true) → p b ≡ true → IsWithinLine (b ∷ bs) (run_of p token_of (b ∷ bs)).1
run_within p token_of b bs in_line passes =
    let len : (run_of p token_of (b ∷ bs)).1 ≡ prefix_len p (b ∷ bs) = length-prefix_len p (b ∷ bs) in
    record {
      some = omega (arith, len, one_more p b bs passes);
      in_line = omega (arith, len, narrower p is_in_line in_line (b ∷ bs));
    }

both : (s t : Bool) → (s && t) ≡ true → (s ≡ true) × (t ≡ true)
both true t e = (refl, e)
both false t e = absurd (false≢true e)

abbrev is_in_one_line : List ℕ → Bool
is_in_one_line [] = true
is_in_one_line (b ∷ bs) = is_in_line b && is_in_one_line bs

abbrev is_in_one_line_some : List ℕ → Bool
is_in_one_line_some [] = false
is_in_one_line_some (b ∷ bs) = is_in_one_line (b ∷ bs)

abbrev are_in_lines : List (List ℕ × Token) → Bool
are_in_lines [] = true
are_in_lines (m ∷ ms) = is_in_one_line_some m.0 && are_in_lines ms

begins_within : (spelling text : List ℕ) → is_in_one_line spelling ≡ true → starts_with nat_eq text spelling ≡ true
    → length spelling ≤ prefix_len is_in_line text
begins_within [] text all begins = omega arith
begins_within (c ∷ cs) [] all begins = absurd (false≢true begins)
begins_within (c ∷ cs) (b ∷ bs) all begins =
    let first = both (is_in_line c) (is_in_one_line cs) all in
    let same = both (eqb c b) (starts_with nat_eq bs cs) begins in
    let here : is_in_line b ≡ true = ap is_in_line (sym (eqb-true c b same.0)) ∙ first.0 in
    omega (arith, one_more is_in_line b bs here, begins_within cs bs first.1 same.1)

spelling_within : (spelling text : List ℕ) → is_in_one_line_some spelling ≡ true
    → starts_with nat_eq text spelling ≡ true → IsWithinLine text (length spelling)
spelling_within [] text all begins = absurd (false≢true all)
spelling_within (c ∷ cs) text all begins = record {
  some = omega arith;
  in_line =
      begins_within (c ∷ cs) text all begins;
}

mark_within : (ms : List (List ℕ × Token)) (text : List ℕ) → are_in_lines ms ≡ true → 1 ≤ prefix_len is_in_line text
    → IsWithinLine text (mark_among ms text).1
mark_within [] text all some = record { some = omega arith; in_line = some }
mark_within (m ∷ ms) text all some = by (starts_with nat_eq text m.0) refl
    (mark_within ms text (both (is_in_one_line_some m.0) (are_in_lines ms) all).1 some)
  where
    by : (t : Bool) → starts_with nat_eq text m.0 ≡ t → IsWithinLine text (mark_among ms text).1
        → IsWithinLine text (cond t (m.1, length m.0) (mark_among ms text)).1
    by true begins rest = spelling_within m.0 text (both (is_in_one_line_some m.0) (are_in_lines ms) all).0 begins
    by false begins rest = rest

marks_in_line : are_in_lines marks ≡ true
unfolding marks
marks_in_line = refl

not_space : (b : ℕ) (bs : List ℕ) → gap_of (b ∷ bs) ≡ 0 → is_space b ≡ false
unfolding gap_of
not_space b bs none = by (is_space b) (begins_comment (b ∷ bs)) none
  where
    by : (s c : Bool) → cond (s || c) (1 + gap_from c bs) 0 ≡ 0 → s ≡ false
    by true c e = absurd (omega (arith, e))
    by false c e = refl

space_in_line : (b : ℕ) → is_space b ≡ false → is_in_line b ≡ true
space_in_line b other = grind (arith, nat_tests)

first_within : (b : ℕ) (bs : List ℕ) → gap_of (b ∷ bs) ≡ 0 → IsWithinLine (b ∷ bs) (first_token (b ∷ bs)).1
unfolding first_token mark_of
first_within b bs none = by (is_ascii_alphabetic b) (is_ascii_digit b) refl refl
  where
    some : 1 ≤ prefix_len is_in_line (b ∷ bs)
    some = omega (arith, one_more is_in_line b bs (space_in_line b (not_space b bs none)))

    by : (l d : Bool) → is_ascii_alphabetic b ≡ l → is_ascii_digit b ≡ d
        → IsWithinLine (b ∷ bs) (cond l (run_of is_name_byte word_of (b ∷ bs))
        (cond d (run_of is_ascii_digit number_of (b ∷ bs)) (mark_of (b ∷ bs)))).1
    by true d letter digit = run_within is_name_byte word_of b bs name_in_line (letter_is_name_byte b letter)
    by false true letter digit = run_within is_ascii_digit number_of b bs digit_in_line digit
    by false false letter digit = mark_within marks (b ∷ bs) marks_in_line some

-- at a place behind what separates
pub first_in_line : (text : List ℕ) → gap_of text ≡ 0 → (first_token text).1 ≤ prefix_len is_in_line text
unfolding first_token
first_in_line [] none = omega arith
first_in_line (b ∷ bs) none = (first_within b bs none).in_line

pub first_some : (text : List ℕ) → gap_of text ≡ 0 → 0 < length text → 1 ≤ (first_token text).1
first_some [] none some = absurd (omega (arith, some))
first_some (b ∷ bs) none some = (first_within b bs none).some
