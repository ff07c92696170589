-- How the tokens of a text go on.
use Rattle.std.proofs.Common.{arith, ◌≡◌, ℕ, zero, suc, ◌+◌, ◌<◌, ◌≤◌, Bool, true, false, cond, nat_eq, nat_lt, List}
use Rattle.std.proofs.Common.{[], ◌∷◌, drop, length, ap, sym, refl, ◌∙◌}
use Rattle.std.proofs.lemmas.Bool.Decides.{nat_tests}
use Rattle.std.proofs.lemmas.List.{length-drop, drop-drop}
use Rattle.cm_model.specs.declared.place.Place.{Place}
use Rattle.cm_text.specs.Place.{place_in}
use Rattle.cm_text.specs.Standing.{Standing}
use Rattle.cm_tokens.specs.First.{first_token}
use Rattle.cm_tokens.specs.Gap.{gap_of}
use Rattle.cm_tokens.specs.Listing.{tokens_behind, tokens_within}
use Rattle.cm_tokens.specs.declared.token.Placed.{Placed}
use Rattle.cm_tokens.specs.declared.token.Token.{Token}
use Rattle.cm_tokens.proofs.Firsts.{first_some}
use Rattle.cm_tokens.proofs.Gaps.{gap_twice}

-- the place of the next token
abbrev pub start : List ℕ → ℕ → ℕ
start text behind = behind + gap_of (drop behind text)

stops : (text : List ℕ) (behind : ℕ) → gap_of (drop (start text behind) text) ≡ 0
stops text behind = ap gap_of (sym (drop-drop (gap_of (drop behind text)) behind text)) ∙ gap_twice (drop behind text)

-- the place behind the next token
abbrev pub after : List ℕ → ℕ → ℕ
after text behind = start text behind + (first_token (drop (start text behind) text)).1

pub further : (text : List ℕ) (behind : ℕ) → nat_lt (start text behind) (length text) ≡ true
    → (start text behind < length text) × (behind < after text behind)
further text behind within =
    let at = start text behind in
    let below : at < length text = grind (arith, nat_tests) in
    (below, omega (arith, first_some (drop at text) (stops text behind) (omega (arith, below, length-drop at text))))

where_more : (more : Bool) (xs ys : List Placed) → (more ≡ true → xs ≡ ys) → cond more xs [] ≡ cond more ys []
where_more true xs ys same = same refl
where_more false xs ys same = refl

abbrev pub next : List ℕ → ℕ → Placed
next text behind = record {
  token = (first_token (drop (start text behind) text)).0;
  at =
      place_in text (start text behind);
}

-- a larger bound gives the same tokens
enough : (m n : ℕ) (text : List ℕ) (behind : ℕ) → length text ≤ m + behind → length text ≤ n + behind
    → tokens_within (suc m) text behind ≡ tokens_within (suc n) text behind
unfolding tokens_within
enough zero n text behind fits fits' =
    ap (λ l. next text behind ∷ l) (where_more (nat_lt (start text behind) (length text))
    (tokens_within zero text (after text behind)) (tokens_within n text (after text behind))
    (λ within. absurd (omega (arith, fits, further text behind within))))
enough (suc m) zero text behind fits fits' =
    ap (λ l. next text behind ∷ l) (where_more (nat_lt (start text behind) (length text))
    (tokens_within (suc m) text (after text behind)) (tokens_within zero text (after text behind))
    (λ within. absurd (omega (arith, fits', further text behind within))))
enough (suc m) (suc n) text behind fits fits' =
    ap (λ l. next text behind ∷ l) (where_more (nat_lt (start text behind) (length text))
    (tokens_within (suc m) text (after text behind)) (tokens_within (suc n) text (after text behind))
    (λ within. enough m n text (after text behind) (omega (arith, fits, further text behind within))
    (omega (arith, fits', further text behind within))))

one_less : (size : ℕ) (text : List ℕ) (behind : ℕ) → size ≡ length text → 0 < size → 0 < behind
    → tokens_within size text behind ≡ tokens_within (suc size) text behind
one_less zero text behind is some moved = absurd (omega (arith, some))
one_less (suc m) text behind is some moved = enough m (suc m) text behind (omega (arith, is, moved)) (omega (arith, is))

-- the next token, and those behind it
pub tokens_step : (text : List ℕ) (behind : ℕ) → tokens_behind text behind ≡ next text behind
    ∷ cond (nat_lt (start text behind) (length text)) (tokens_behind text (after text behind)) []
unfolding tokens_behind tokens_within
tokens_step text behind =
    ap (λ l. next text behind ∷ l) (where_more (nat_lt (start text behind) (length text))
    (tokens_within (length text) text (after text behind)) (tokens_behind text (after text behind))
    (λ within. one_less (length text) text (after text behind) refl (omega (arith, further text behind within))
    (omega (arith, further text behind within))))

ends : (text : List ℕ) (at : ℕ) (empty : Bool) (left : List Placed) → empty ≡ nat_eq (length (drop at text)) 0
    → cond (nat_lt at (length text)) left [] ≡ cond empty [] left
ends text at true left is = ap (λ t. cond t left []) (let e : nat_lt at (length text) ≡ false =
    grind (arith, nat_tests, length-drop at text) in e)
ends text at false left is = ap (λ t. cond t left []) (let e : nat_lt at (length text) ≡ true =
    grind (arith, nat_tests, length-drop at text) in e)

-- what is read: over what separates, then the token
pub read_is : (old gap new : Standing) (token : Token) (len : ℕ) (at : Place) (rest : List ℕ) (empty : Bool)
    → gap ≡ record { text = old.text; at = start old.text old.at } → at ≡ place_in gap.text gap.at
    → rest ≡ drop gap.at gap.text → (token, len) ≡ first_token rest
    → new ≡ record { text = gap.text; at = gap.at + len } → empty ≡ nat_eq (length rest) 0
    → tokens_behind old.text old.at ≡ record { token = token; at = at } ∷ cond empty [] (tokens_behind new.text new.at)
read_is old gap new token len at rest empty gap_is at_is rest_is first_is new_is empty_is =
    let text = old.text in
    let s = start text old.at in
    let behind : Standing → List ℕ = λ g. drop g.at g.text in
    let place : Standing → Place = λ g. place_in g.text g.at in
    let left : Standing → List Placed = λ g. tokens_behind g.text g.at in
    let rest_at : rest ≡ drop s text = rest_is ∙ ap behind gap_is in
    let first_at : (token, len) ≡ first_token (drop s text) = first_is ∙ ap first_token rest_at in
    let token_at : token ≡ (first_token (drop s text)).0 = λ i. (first_at i).0 in
    let len_at : len ≡ (first_token (drop s text)).1 = λ i. (first_at i).1 in
    let place_at : at ≡ place_in text s = at_is ∙ ap place gap_is in
    let new_at : tokens_behind new.text new.at ≡ tokens_behind text (after text old.at) = ap left new_is
    ∙ (λ i. tokens_behind (gap_is i).text ((gap_is i).at + len_at i)) in
    let empty_at : empty ≡ nat_eq (length (drop s text)) 0 = empty_is ∙ ap (λ (l : List ℕ). nat_eq (length l) 0)
    rest_at in
    tokens_step text old.at
    ∙ ap (λ l. next text old.at ∷ l) (ends text s empty (tokens_behind text (after text old.at)) empty_at
    ∙ ap (λ (l : List Placed). cond empty [] l) (sym new_at))
    ∙ (λ i. record { token = sym token_at i; at = sym place_at i } ∷ cond empty [] (tokens_behind new.text new.at))
