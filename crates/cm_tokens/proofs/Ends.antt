-- The end is the last token of a text, and only the last.
use Rattle.std.proofs.Common.{arith, ◌≡◌, ◌≢◌, ℕ, zero, suc, ◌+◌, ◌<◌, ◌≤◌, ◌||◌, Bool, true, false, cond, nat_eq}
use Rattle.std.proofs.Common.{nat_le, nat_lt, take_while, List, [], ◌∷◌, drop, length, ap, sym, refl, ◌∙◌}
use Rattle.std.specs.Char.{is_ascii_alphabetic, is_ascii_digit}
use Rattle.std.specs.List.{starts_with}
use Rattle.std.specs.Str.{bytes_eq}
use Rattle.std.specs.Str.Parse.{digits_value}
use Rattle.std.proofs.lemmas.Bool.{false≢true}
use Rattle.std.proofs.lemmas.Bool.Decides.{nat_tests}
use Rattle.std.proofs.lemmas.List.{drop_all, length-drop}
use Rattle.cm_tokens.specs.First.{first_token, is_numeral, mark_among, mark_of, number_of, run_of, spelled_or, word_of}
use Rattle.cm_tokens.specs.Listing.{EndsOnce, tokens_behind, tokens_of, tokens_within}
use Rattle.cm_tokens.specs.Bytes.{is_name_byte}
use Rattle.cm_tokens.specs.Spellings.{marks, reserved_words}
use Rattle.cm_tokens.specs.declared.token.Placed.{Placed}
use Rattle.cm_tokens.specs.declared.token.Token.{Token}
use Rattle.cm_tokens.specs.declared.token.Token.TheVariants as token
use Rattle.cm_tokens.specs.declared.token.Token.TheVariants.{End}
use Rattle.cm_tokens.proofs.Listings.{after, further, next, start}

abbrev is_end : Token → Bool
is_end End = true
is_end t = false

abbrev has_end : List (List ℕ × Token) → Bool
has_end [] = false
has_end (w ∷ ws) = is_end w.1 || has_end ws

neither : (s t : Bool) → (s || t) ≡ false → (s ≡ false) × (t ≡ false)
neither true t e = absurd (false≢true (sym e))
neither false t e = (refl, e)

no_end : (t : Token) → is_end t ≡ false → t ≢ token.End
no_end t other e = false≢true (sym other ∙ ap is_end e)

either_no_end : (b : Bool) (s t : Token) → is_end s ≡ false → is_end t ≡ false → is_end (cond b s t) ≡ false
either_no_end true s t e f = e
either_no_end false s t e f = f

spelled_no_end : (other : Token) (words : List (List ℕ × Token)) (run : List ℕ) → is_end other ≡ false
    → has_end words ≡ false → is_end (spelled_or other words run) ≡ false
spelled_no_end other [] run none all = none
spelled_no_end other (w ∷ ws) run none all =
    let parts = neither (is_end w.1) (has_end ws) all in
    either_no_end (bytes_eq w.0 run) w.1 (spelled_or other ws run) parts.0 (spelled_no_end other ws run none parts.1)

words_no_end : has_end reserved_words ≡ false
unfolding reserved_words
words_no_end = refl

word_no_end : (run : List ℕ) → is_end (word_of run) ≡ false
unfolding word_of
word_no_end run = spelled_no_end (cond (nat_le (length run) 40) (token.Name run) token.Foreign) reserved_words
    run (either_no_end (nat_le (length run) 40) (token.Name run) token.Foreign refl refl) words_no_end

number_no_end : (digits : List ℕ) → is_end (number_of digits) ≡ false
unfolding number_of
number_no_end digits = either_no_end (is_numeral digits) (token.Number (digits_value 10 digits)) token.Foreign refl refl

marks_no_end : has_end marks ≡ false
unfolding marks
marks_no_end = refl

mark_no_end : (ms : List (List ℕ × Token)) (text : List ℕ) → has_end ms ≡ false → is_end (mark_among ms text).0 ≡ false
mark_no_end [] text all = refl
mark_no_end (m ∷ ms) text all = by (starts_with nat_eq text m.0)
    (mark_no_end ms text (neither (is_end m.1) (has_end ms) all).1)
  where
    by : (t : Bool) → is_end (mark_among ms text).0 ≡ false → is_end (cond t (m.1, length m.0) (mark_among ms text)).0
        ≡ false
    by true rest = (neither (is_end m.1) (has_end ms) all).0
    by false rest = rest

first_no_end : (b : ℕ) (bs : List ℕ) → is_end (first_token (b ∷ bs)).0 ≡ false
unfolding first_token mark_of
first_no_end b bs = by (is_ascii_alphabetic b) (is_ascii_digit b)
  where
    by : (l d : Bool) → is_end (cond l (run_of is_name_byte word_of (b ∷ bs))
        (cond d (run_of is_ascii_digit number_of (b ∷ bs)) (mark_of (b ∷ bs)))).0 ≡ false
    by true d = word_no_end (take_while is_name_byte (b ∷ bs))
    by false true = number_no_end (take_while is_ascii_digit (b ∷ bs))
    by false false = mark_no_end marks (b ∷ bs) marks_no_end

some_no_end : (text : List ℕ) → 0 < length text → is_end (first_token text).0 ≡ false
some_no_end [] some = absurd (omega (arith, some))
some_no_end (b ∷ bs) some = first_no_end b bs

none_end : (text : List ℕ) → text ≡ [] → (first_token text).0 ≡ token.End
unfolding first_token
none_end text none = ap (λ l. (first_token l).0) none

more_ends : (p : Placed) (left : List Placed) → p.token ≢ token.End → EndsOnce left → EndsOnce (p ∷ left)
more_ends p [] other rest = absurd rest
more_ends p (q ∷ qs) other rest = (other, rest)

one_step : (text : List ℕ) (behind : ℕ) (more : Bool) (left : List Placed)
    → nat_lt (start text behind) (length text) ≡ more → (more ≡ true → EndsOnce left)
    → EndsOnce (next text behind ∷ cond more left [])
one_step text behind true left is rest =
    let some : 0 < length (drop (start text behind) text) = omega (
      arith,
      length-drop (start text behind) text,
      (further text behind is).0,
    ) in
    more_ends (next text behind) left (no_end (next text behind).token (some_no_end (drop (start text behind) text)
    some)) (rest refl)
one_step text behind false left is rest =
    let past : length text ≤ start text behind = grind (arith, nat_tests) in
    none_end (drop (start text behind) text) (drop_all (start text behind) text past)

within_ends : (m : ℕ) (text : List ℕ) (behind : ℕ) → length text ≤ m + behind
    → EndsOnce (tokens_within (suc m) text behind)
unfolding tokens_within
within_ends zero text behind fits =
    one_step text behind (nat_lt (start text behind) (length text)) (tokens_within zero text (after text behind)) refl
    (λ within. absurd (omega (arith, fits, (further text behind within).0)))
within_ends (suc m) text behind fits =
    one_step text behind (nat_lt (start text behind) (length text)) (tokens_within (suc m) text (after text behind))
    refl
    (λ within. within_ends m text (after text behind) (omega (arith, fits, further text behind within)))

pub all_end_once : (text : List ℕ) → EndsOnce (tokens_of text)
unfolding tokens_of tokens_behind
all_end_once text = within_ends (length text) text 0 (omega arith)
