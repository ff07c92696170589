-- How what separates goes on.
use Rattle.std.proofs.Common.{arith, ◌≡◌, ℕ, suc, ◌+◌, ◌<◌, ◌||◌, ◌&&◌, Bool, true, false, cond, eqb, List, [], ◌∷◌}
use Rattle.std.proofs.Common.{drop, length, get_or, Some, None, inl, inr, ap, sym, refl, ◌∙◌}
use Rattle.std.specs.List.{prefix_len, slice_get}
use Rattle.std.proofs.lemmas.Bool.{cases_lt, false≢true}
use Rattle.std.proofs.lemmas.List.{drop-drop, drop_all, drop_more}
use Rattle.std.proofs.lemmas.Bool.Decides.{nat_tests}
use Rattle.std.proofs.lemmas.Option.{get_or_from_slice_get, none-some, slice_get-get_or, slice_get_within}
use Rattle.cm_text.specs.Place.{is_in_line}
use Rattle.cm_text.specs.Standing.{Standing}
use Rattle.cm_tokens.specs.Bytes.{is_space}
use Rattle.cm_tokens.specs.Gap.{begins_comment, gap_from, gap_of}

no_comment : (x : ℕ) (xs : List ℕ) → eqb x 47 ≡ false → begins_comment (x ∷ xs) ≡ false
no_comment x [] e = refl
no_comment x (y ∷ ys) e = ap (λ b. b && eqb y 47) e

no_slash : (x : ℕ) → is_space x ≡ true → eqb x 47 ≡ false
no_slash x space = grind (arith, nat_tests)

first_step : (s c : Bool) (rest : Bool → ℕ) → s ≡ true → c ≡ false → cond (s || c) (1 + rest c) 0 ≡ 1 + rest false
first_step true false rest e g = refl
first_step s true rest e g = absurd (false≢true (sym g))
first_step false c rest e g = absurd (false≢true e)

comment_step : (s c : Bool) (rest : Bool → ℕ) → c ≡ true → cond (s || c) (1 + rest c) 0 ≡ 1 + rest true
comment_step true true rest e = refl
comment_step false true rest e = refl
comment_step s false rest e = absurd (false≢true e)

-- a space, and what separates behind it
pub gap_space : (x : ℕ) (xs : List ℕ) → is_space x ≡ true → gap_of (x ∷ xs) ≡ 1 + gap_of xs
unfolding gap_of
gap_space x xs space = first_step (is_space x) (begins_comment (x ∷ xs)) (λ c. gap_from c xs) space
    (no_comment x xs (no_slash x space))

-- neither a space nor a comment
pub gap_other : (x : ℕ) (xs : List ℕ) → is_space x ≡ false → begins_comment (x ∷ xs) ≡ false → gap_of (x ∷ xs) ≡ 0
unfolding gap_of
gap_other x xs space comment = ap (λ b. cond b (1 + gap_from (begins_comment (x ∷ xs)) xs) 0)
    (ap (λ b. b || begins_comment (x ∷ xs)) space ∙ comment)

pub gap_end : gap_of [] ≡ 0
unfolding gap_of
gap_end = refl

-- a comment goes on to before the next newline
gap_line : (xs : List ℕ) → gap_from true xs ≡ prefix_len is_in_line xs + gap_of (drop (prefix_len is_in_line xs) xs)
unfolding gap_of
gap_line [] = refl
gap_line (x ∷ xs) = by (is_in_line x) refl (gap_line xs)
  where
    by : (b : Bool) → is_in_line x ≡ b → gap_from true xs ≡ prefix_len is_in_line xs + gap_from false
        (drop (prefix_len is_in_line xs) xs) → 1 + gap_from b xs ≡ cond b (1 + prefix_len is_in_line xs)
        0 + gap_from false (drop (cond b (1 + prefix_len is_in_line xs) 0) (x ∷ xs))
    by true e rest =
        let n = prefix_len is_in_line xs in
        let more : drop (1 + n) (x ∷ xs) ≡ drop n xs = ap (λ k. drop k (x ∷ xs)) (let e : 1 + n ≡ suc n = omega arith in
        e) in
        omega (arith, rest, ap (gap_from false) more)
    by false e rest =
        let newline : x ≡ 10 = grind (arith, nat_tests) in
        let space : is_space x ≡ true = ap is_space newline in
        omega (
          arith,
          first_step (is_space x) (begins_comment (x ∷ xs)) (λ c. gap_from c xs) space
              (no_comment x xs (no_slash x space)),
        )

comment_is : (xs : List ℕ) → begins_comment xs ≡ true → gap_of xs ≡ gap_from true xs
unfolding gap_of
comment_is [] e = absurd (false≢true e)
comment_is (x ∷ []) e = absurd (false≢true e)
comment_is (x ∷ y ∷ ys) e =
    let slash : x ≡ 47 = grind (arith, nat_tests) in
    let in_line : is_in_line x ≡ true = ap is_in_line slash in
    comment_step (is_space x) (begins_comment (x ∷ y ∷ ys)) (λ c. gap_from c (y ∷ ys)) e
    ∙ ap (λ c. 1 + gap_from c (y ∷ ys)) (sym in_line)

-- a comment, and what separates behind it
pub gap_comment : (xs : List ℕ) → begins_comment xs ≡ true → gap_of xs ≡ prefix_len is_in_line xs + gap_of
    (drop (prefix_len is_in_line xs) xs)
gap_comment xs e = comment_is xs e ∙ gap_line xs

pub comment_some : (xs : List ℕ) → begins_comment xs ≡ true → 0 < prefix_len is_in_line xs
comment_some [] e = absurd (false≢true e)
comment_some (x ∷ []) e = absurd (false≢true e)
comment_some (x ∷ y ∷ ys) e =
    let slash : x ≡ 47 = grind (arith, nat_tests) in
    let in_line : is_in_line x ≡ true = ap is_in_line slash in
    let some : prefix_len is_in_line (x ∷ y ∷ ys) ≡ 1 + prefix_len is_in_line (y ∷ ys) =
    ap (λ b. cond b (1 + prefix_len is_in_line (y ∷ ys)) 0) in_line in
    omega (arith, some)

-- the same at a place of a text
front : (text : List ℕ) (at byte : ℕ) → slice_get text at ≡ Some byte → drop at text ≡ byte ∷ drop (at + 1) text
front text at byte here = drop_more text at 0 (slice_get_within text at byte here)
    ∙ ap (λ b. b ∷ drop (at + 1) text) (get_or_from_slice_get text at byte 0 here)

pub at_space : (text : List ℕ) (at byte : ℕ) → slice_get text at ≡ Some byte → is_space byte ≡ true
    → gap_of (drop at text) ≡ 1 + gap_of (drop (at + 1) text)
at_space text at byte here space = ap gap_of (front text at byte here) ∙ gap_space byte (drop (at + 1) text) space

pub at_other : (text : List ℕ) (at byte : ℕ) → slice_get text at ≡ Some byte → is_space byte ≡ false
    → begins_comment (drop at text) ≡ false → gap_of (drop at text) ≡ 0
at_other text at byte here space comment =
    let from = front text at byte here in
    ap gap_of from ∙ gap_other byte (drop (at + 1) text) space (ap begins_comment (sym from) ∙ comment)

pub at_end : (text : List ℕ) (at : ℕ) → slice_get text at ≡ None → gap_of (drop at text) ≡ 0
at_end text at none =
    elim (cases_lt at (length text)) [
      | inl within ↦ absurd (none-some (get_or text at 0) (sym none ∙ slice_get-get_or text at 0 within))
      | inr past ↦ ap gap_of (drop_all at text past) ∙ gap_end
    ]

pub at_comment : (text : List ℕ) (at : ℕ) → begins_comment (drop at text) ≡ true
    → let n = prefix_len is_in_line (drop at text) in gap_of (drop at text) ≡ n + gap_of (drop (at + n) text)
at_comment text at e =
    let n = prefix_len is_in_line (drop at text) in
    gap_comment (drop at text) e ∙ ap (λ l. n + gap_of l) (drop-drop n at text)

-- a cursor that moved over a part of what separates
pub moved : (new old : Standing) (n : ℕ) → new ≡ record { text = old.text; at = old.at + n }
    → gap_of (drop old.at old.text) ≡ n + gap_of (drop (old.at + n) old.text)
    → new.at + gap_of (drop new.at new.text) ≡ old.at + gap_of (drop old.at old.text)
moved new old n e part =
    let whole : Standing → ℕ = λ s. s.at + gap_of (drop s.at s.text) in
    ap whole e ∙ omega (arith, part)

-- nothing separates behind what separates
gap_twice_from : (in_comment : Bool) (xs : List ℕ) → gap_of (drop (gap_from in_comment xs) xs) ≡ 0
unfolding gap_of
gap_twice_from in_comment [] = refl
gap_twice_from true (x ∷ xs) = ap (λ k. gap_from false (drop k (x ∷ xs))) (let e : 1 + gap_from (is_in_line x) xs
    ≡ suc (gap_from (is_in_line x) xs) = omega arith in e) ∙ gap_twice_from (is_in_line x) xs
gap_twice_from false (x ∷ xs) = by (is_space x || begins_comment (x ∷ xs)) refl
    (gap_twice_from (begins_comment (x ∷ xs)) xs)
  where
    by : (t : Bool) → (is_space x || begins_comment (x ∷ xs)) ≡ t
        → gap_from false (drop (gap_from (begins_comment (x ∷ xs)) xs) xs) ≡ 0
        → gap_from false (drop (cond t (1 + gap_from (begins_comment (x ∷ xs)) xs) 0) (x ∷ xs)) ≡ 0
    by true e rest = ap (λ k. gap_from false (drop k (x ∷ xs))) (let e : 1 + gap_from (begins_comment (x ∷ xs)) xs
        ≡ suc (gap_from (begins_comment (x ∷ xs)) xs) = omega arith in e) ∙ rest
    by false e rest = ap (λ t. cond t (1 + gap_from (begins_comment (x ∷ xs)) xs) 0) e

pub gap_twice : (xs : List ℕ) → gap_of (drop (gap_of xs) xs) ≡ 0
unfolding gap_of
gap_twice xs = gap_twice_from false xs
