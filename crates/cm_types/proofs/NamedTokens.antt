-- The names among the tokens of a text are names.
use Rattle.std.proofs.Common.{◌≡◌, ℕ, zero, suc, ◌+◌, ◌==◌, ◌&&◌, ◌||◌, leb, nat_le, nat_lt, nat_eq, not, Bool, true}
use Rattle.std.proofs.Common.{false, cond, List, [], ◌∷◌, map, drop, length, refl, sym, ap, ◌∙◌, if◌then◌else◌}
use Rattle.std.specs.List.{list_all, take_while, starts_with}
use Rattle.std.specs.Str.{bytes_eq}
use Rattle.std.specs.Str.Parse.{digits_value}
use Rattle.std.specs.Int.{is_in_range}
use Rattle.std.specs.Char.{is_ascii_alphabetic, is_ascii_digit}
use Rattle.std.proofs.lemmas.Bool.{and_from, and_parts}
use Rattle.std.proofs.lemmas.List.Sums.{take_while-cons}
use Rattle.cm_model.specs.Limits.{name_limit}
use Rattle.cm_model.specs.Names as names
use Rattle.cm_model.specs.Names.{is_name, is_letter, is_among, begins_with_letter}
use Rattle.cm_tokens.specs.Bytes as bytes
use Rattle.cm_tokens.specs.First.{spelled_or, word_of, is_numeral, number_of, mark_among, mark_of, run_of, first_token}
use Rattle.cm_tokens.specs.Gap.{gap_of}
use Rattle.cm_tokens.specs.Listing.{tokens_within, tokens_behind, tokens_of}
use Rattle.cm_tokens.specs.Spellings.{reserved_words, marks}
use Rattle.cm_tokens.specs.declared.token.Token.{Token}
use Rattle.cm_tokens.specs.declared.token.Token.TheVariants as token
use Rattle.cm_tokens.specs.declared.token.Placed.{Placed}
use Rattle.cm_types.proofs.DistinctLists.{bytes_sym}
use Rattle.cm_types.proofs.Passing.{is_named}

-- Kinds of bytes

same_letter : (b : ℕ) → is_ascii_alphabetic b ≡ is_letter b
same_letter b = refl

turned : (d u l x : Bool) → (((d || u) || l) || x) ≡ ((u || l) || (d || x))
turned true true l x = refl
turned true false true x = refl
turned true false false x = refl
turned false true l x = refl
turned false false true x = refl
turned false false false x = refl

same_byte : (b : ℕ) → bytes.is_name_byte b ≡ names.is_name_byte b
same_byte b = turned (is_in_range 48 57 b) (is_in_range 65 90 b) (is_in_range 97 122 b) (b == 95)

letter_passes : (b : ℕ) → is_ascii_alphabetic b ≡ true → bytes.is_name_byte b ≡ true
letter_passes b h = by (is_in_range 48 57 b) (is_in_range 65 90 b) (is_in_range 97 122 b) (b == 95) h
  where
    by : (d u l x : Bool) → (u || l) ≡ true → (((d || u) || l) || x) ≡ true
    by true u l x h = refl
    by false true l x h = refl
    by false false true x h = refl
    by false false false x h = absurd cc

run_passes : (p : ℕ → Bool) (xs : List ℕ) → list_all p (take_while p xs) ≡ true
run_passes p [] = refl
run_passes p (x ∷ xs) = ap (list_all p) (take_while-cons p x xs) ∙ by (p x) refl (run_passes p xs)
  where
    by : (c : Bool) → p x ≡ c → list_all p (take_while p xs) ≡ true → list_all p (cond c (x ∷ take_while p xs) [])
        ≡ true
    by true e rest = and_from (p x) (list_all p (take_while p xs)) e rest
    by false e rest = refl

all_same : (p q : ℕ → Bool) → ((x : ℕ) → p x ≡ q x) → (xs : List ℕ) → list_all p xs ≡ list_all q xs
all_same p q same [] = refl
all_same p q same (x ∷ xs) = ap (λ c. c && list_all p xs) (same x) ∙ ap (λ c. q x && c) (all_same p q same xs)

-- Runs

abbrev words_of : List (List ℕ × Token) → List (List ℕ)
words_of ws = map (λ w. w.0) ws

spelled_named : (other : Token) (run : List ℕ) (ws : List (List ℕ × Token)) → list_all (λ w. is_named w.1) ws ≡ true
    → (is_among run (words_of ws) ≡ false → is_named other ≡ true) → is_named (spelled_or other ws run) ≡ true
spelled_named other run [] g h = h refl
spelled_named other run (w ∷ ws) g h = by (bytes_eq w.0 run) refl (λ k. spelled_named other run ws
    (and_parts (is_named w.1) _ g).1 k) h
  where
    by : (c : Bool) → bytes_eq w.0 run ≡ c
        → ((is_among run (words_of ws) ≡ false → is_named other ≡ true) → is_named (spelled_or other ws run) ≡ true)
        → (is_among run (words_of (w ∷ ws)) ≡ false → is_named other ≡ true)
        → is_named (if c then w.1 else spelled_or other ws run) ≡ true
    by true e rest h = (and_parts (is_named w.1) (list_all (λ (w : List ℕ × Token). is_named w.1) ws) g).0
    by false e rest h = rest (λ k. h (ap (λ c. c || is_among run (words_of ws)) (bytes_sym run w.0 ∙ e) ∙ k))

same_words : words_of reserved_words ≡ names.reserved_words
unfolding reserved_words
same_words = refl

words_named : list_all (λ w. is_named w.1) reserved_words ≡ true
unfolding reserved_words
words_named = refl

marks_named : list_all (λ w. is_named w.1) marks ≡ true
unfolding marks
marks_named = refl

abbrev name_run : ℕ → List ℕ → List ℕ
name_run b bs = take_while bytes.is_name_byte (b ∷ bs)

run_begins : (b : ℕ) (bs : List ℕ) → is_ascii_alphabetic b ≡ true → begins_with_letter (name_run b bs) ≡ true
run_begins b bs letter =
    ap begins_with_letter (take_while-cons bytes.is_name_byte b bs
    ∙ ap (λ c. cond c (b ∷ take_while bytes.is_name_byte bs) []) (letter_passes b letter))
    ∙ letter

-- a run that is no reserved word
run_named : (b : ℕ) (bs : List ℕ) → is_ascii_alphabetic b ≡ true → (c : Bool)
    → nat_le (length (name_run b bs)) name_limit ≡ c
    → is_among (name_run b bs) (words_of reserved_words) ≡ false
    → is_named (if c then token.Name (name_run b bs) else token.Foreign) ≡ true
run_named b bs letter false e apart = refl
run_named b bs letter true e apart =
    let run = name_run b bs in
    let letters : list_all names.is_name_byte run ≡ true =
    sym (all_same bytes.is_name_byte names.is_name_byte same_byte run) ∙ run_passes bytes.is_name_byte (b ∷ bs) in
    and_from (begins_with_letter run && list_all names.is_name_byte run) (leb (length run) name_limit && not
    (is_among run names.reserved_words))
    (and_from (begins_with_letter run) (list_all names.is_name_byte run) (run_begins b bs letter) letters)
    (and_from (leb (length run) name_limit) (not (is_among run names.reserved_words)) e
    (ap not (ap (is_among run) (sym same_words) ∙ apart)))

-- a run that begins with a letter is a reserved word's token, or a name's that is one
word_named : (b : ℕ) (bs : List ℕ) → is_ascii_alphabetic b ≡ true → is_named (word_of (name_run b bs)) ≡ true
unfolding word_of
word_named b bs letter =
    let run = name_run b bs in
    let other = if nat_le (length run) name_limit then token.Name run else token.Foreign in
    spelled_named other run reserved_words words_named (λ apart. run_named b bs letter
    (nat_le (length run) name_limit) refl apart)

number_named : (digits : List ℕ) → is_named (number_of digits) ≡ true
unfolding number_of
number_named digits = by (is_numeral digits)
  where
    by : (c : Bool) → is_named (if c then token.Number (digits_value 10 digits) else token.Foreign) ≡ true
    by true = refl
    by false = refl

mark_named : (ms : List (List ℕ × Token)) (text : List ℕ) → list_all (λ w. is_named w.1) ms ≡ true
    → is_named (mark_among ms text).0 ≡ true
mark_named [] text g = refl
mark_named (m ∷ ms) text g = by (starts_with nat_eq text m.0) (mark_named ms text (and_parts (is_named m.1) _ g).1)
  where
    by : (c : Bool) → is_named (mark_among ms text).0 ≡ true
        → is_named (if c then (let x : Token × ℕ = (m.1, length m.0) in x) else mark_among ms text).0 ≡ true
    by true rest = (and_parts (is_named m.1) (list_all (λ (w : List ℕ × Token). is_named w.1) ms) g).0
    by false rest = rest

first_named : (text : List ℕ) → is_named (first_token text).0 ≡ true
unfolding first_token mark_of
first_named [] = refl
first_named (b ∷ bs) = by (is_ascii_alphabetic b) refl (is_ascii_digit b)
  where
    by : (c : Bool) → is_ascii_alphabetic b ≡ c → (d : Bool)
        → is_named (if c then run_of bytes.is_name_byte word_of (b ∷ bs) else
        (if d then run_of is_ascii_digit number_of (b ∷ bs) else mark_of (b ∷ bs))).0 ≡ true
    by true e d = word_named b bs e
    by false e true = number_named (take_while is_ascii_digit (b ∷ bs))
    by false e false = mark_named marks (b ∷ bs) marks_named

abbrev token_in : Placed → Token
token_in p = p.token

kept : (c : Bool) (rest : List Placed) → list_all is_named (map token_in rest) ≡ true
    → list_all is_named (map token_in (if c then rest else [])) ≡ true
kept true rest h = h
kept false rest h = refl

within_named : (n : ℕ) (text : List ℕ) (behind : ℕ) → list_all is_named (map token_in (tokens_within n text behind))
    ≡ true
unfolding tokens_within
within_named zero text behind = refl
within_named (suc n) text behind =
    let at = behind + gap_of (drop behind text) in
    let first = first_token (drop at text) in
    and_from (is_named first.0) _ (first_named (drop at text)) (kept (nat_lt at (length text)) (tokens_within n text
    (at + first.1)) (within_named n text (at + first.1)))

-- THE NAMES OF A TEXT.
pub all_named : (text : List ℕ) → list_all is_named (map token_in (tokens_of text)) ≡ true
unfolding tokens_of tokens_behind
all_named text = within_named (suc (length text)) text 0
