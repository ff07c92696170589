-- The token at the front of a text, and how many bytes it takes: the longest one.
use Rattle.std.specs.Prelude.{◌==◌, ◌||◌, ◌&&◌, if◌then◌else◌, nat_eq, nat_le, not, ℕ, Bool, List, [], ◌∷◌, codes}
use Rattle.std.specs.Prelude.{length, slice_index, take_while}
use Rattle.std.specs.Char.{is_ascii_alphabetic, is_ascii_digit}
use Rattle.std.specs.List.{starts_with}
use Rattle.std.specs.Str.{bytes_eq}
use Rattle.std.specs.Str.Parse.{digits_value}
use Rattle.cm_model.specs.Limits.{name_limit}
use Rattle.cm_tokens.specs.Bytes.{is_name_byte}
use Rattle.cm_tokens.specs.Spellings.{marks, reserved_words}
use Rattle.cm_tokens.specs.declared.token.Token.{Token}
use Rattle.cm_tokens.specs.declared.token.Token.TheVariants as token

-- the token that is spelled as the whole run, or another where none of these is
abbrev pub spelled_or : Token → List (List ℕ × Token) → List ℕ → Token
spelled_or other [] run = other
spelled_or other (w ∷ ws) run = if bytes_eq w.0 run then w.1 else spelled_or other ws run

-- a run that begins with a letter: a reserved word, or a name of at most 40 bytes
unfoldable pub word_of : List ℕ → Token
word_of run = spelled_or (if nat_le (length run) name_limit then token.Name run else token.Foreign) reserved_words run

-- `0`, or 1 to 7 digits of which the first is not 0
abbrev pub is_numeral : List ℕ → Bool
is_numeral digits = bytes_eq (codes "0") digits || (nat_le (length digits) 7 && not (slice_index digits 0 == 48))

-- a run of digits
unfoldable pub number_of : List ℕ → Token
number_of digits = if is_numeral digits then token.Number (digits_value 10 digits) else token.Foreign

-- the first of the marks that the text begins with, and its length; where it begins with none, one byte is no token
abbrev pub mark_among : List (List ℕ × Token) → List ℕ → Token × ℕ
mark_among [] text = (token.Foreign, 1)
mark_among (m ∷ ms) text = if starts_with nat_eq text m.0 then (m.1, length m.0) else mark_among ms text

unfoldable pub mark_of : List ℕ → Token × ℕ
mark_of text = mark_among marks text

-- the longest run of such bytes at the front, as one token
abbrev pub run_of : (ℕ → Bool) → (List ℕ → Token) → List ℕ → Token × ℕ
run_of p token_of text = let run = take_while p text in (token_of run, length run)

unfoldable pub first_token : List ℕ → Token × ℕ
first_token [] = (token.End, 0)
first_token (b ∷ bs) =
    if is_ascii_alphabetic b then run_of is_name_byte word_of (b ∷ bs)
    else if is_ascii_digit b then run_of is_ascii_digit number_of (b ∷ bs)
    else mark_of (b ∷ bs)
