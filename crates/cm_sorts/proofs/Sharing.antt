-- What is marked with one number is marked with another too.
use Rattle.std.proofs.Common.{◌≡◌, ◌≢◌, ◌<◌, ◌≤◌, ◌+◌, ◌-◌, ◌/◌, ◌%◌, ◌==◌, ◌&&◌, ◌||◌, inl, inr, ℕ, suc, zero, Bool}
use Rattle.std.proofs.Common.{true, false, not, min, max, nat_lt, List, [], ◌∷◌, ◌++◌, length, slice_index_or, refl}
use Rattle.std.proofs.Common.{sym, ap, ◌∙◌, arith}
use Rattle.std.proofs.lemmas.Bool.{cases_eq, cases_lt, eq-eqb, ne_eqb, and_parts, not-true, eqb-false}
use Rattle.std.proofs.lemmas.Bool.Decides.{nat_tests}
use Rattle.std.proofs.lemmas.List.{get_or_append_left, get_or-append_right, get_or_past}
use Rattle.std.proofs.lemmas.Nat.Bits.{bit_at-zero}
use Rattle.cm_sorts.specs.inner.Pairs.{pairs_below, place, is_set, are_marked, is_pair}
use Rattle.cm_sorts.specs.inner.Words.{is_shared}
use Rattle.cm_sorts.proofs.Triangle.{pairs_below_grow, set_within, or_false}

pub unmarked_self : (words : List ℕ) (x : ℕ) → are_marked words x x ≡ false
unfolding are_marked
unmarked_self words x = rw (eq-eqb x x refl) refl

min_comm : (x y : ℕ) → min x y ≡ min y x
min_comm x y = omega arith

max_comm : (x y : ℕ) → max x y ≡ max y x
max_comm x y = omega arith

pub are_marked_comm : (words : List ℕ) (x y : ℕ) → are_marked words x y ≡ are_marked words y x
unfolding are_marked place
are_marked_comm words x y =
    let turned : (x == y) ≡ (y == x) = grind (arith, nat_tests) in
    rw (turned, min_comm x y, max_comm x y) refl

-- the bit of a pair with a lesser number comes earlier
earlier : (keep gone other : ℕ) → keep < gone → gone ≢ other → keep ≢ other → place keep other ≤ place gone other
unfolding place
earlier keep gone other h p q = elim (cases_lt other gone) [
  | inl e ↦
      let greater : max gone other ≡ gone = omega arith in
      let grow : pairs_below (max keep other) + max keep other ≤ pairs_below gone =
      pairs_below_grow (max keep other) gone (omega arith) in
      rw greater (omega arith)
  | inr f ↦
      let one : max gone other ≡ other = omega arith in
      let two : max keep other ≡ other = omega arith in
      rw (one, two) (omega arith)
]

pub mark_room : (words : List ℕ) (keep gone other : ℕ) → keep < gone → are_marked words gone keep ≡ false
    → are_marked words gone other ≡ true → place keep other / 64 < length words
unfolding are_marked
mark_room words keep gone other h may is =
    let parts = and_parts (not (gone == other)) (is_set words (place gone other)) is in
    let apart : gone ≢ other = eqb-false gone other (not-true (gone == other) parts.0) in
    let other_one : keep ≢ other = λ e. let same : are_marked words gone keep ≡ are_marked words gone other =
    ap (are_marked words gone) e in cc in
    let before : place keep other ≤ place gone other = earlier keep gone other h apart other_one in
    let within : place gone other / 64 < length words = set_within words (place gone other) parts.1 in
    omega arith

pub still_unmarked : (words : List ℕ) (keep gone n : ℕ) → keep < gone → are_marked words gone keep ≡ false
    → (are_marked words gone keep || is_shared words keep gone n gone keep) ≡ false
still_unmarked words keep gone n h may = rw (may, unmarked_self words gone, ne_eqb gone keep (omega arith))
    (grind (arith, nat_tests))

-- one number more
shared_more : (M : ℕ → Bool) (keep c i j : ℕ)
    → (((i == keep && (nat_lt j c && M j)) || (j == keep && (nat_lt i c && M i))) || (M c && is_pair keep c i j))
    ≡ ((i == keep && (nat_lt j (c + 1) && M j)) || (j == keep && (nat_lt i (c + 1) && M i)))
shared_more M keep c i j = grind (arith, nat_tests)

or_assoc : (p q r : Bool) → ((p || q) || r) ≡ (p || (q || r))
or_assoc true q r = refl
or_assoc false q r = refl

pub share_more : (old now new : List ℕ) (keep gone c : ℕ) → keep < gone
    → ((i j : ℕ) → are_marked now i j ≡ (are_marked old i j || is_shared old keep gone c i j))
    → ((i j : ℕ) → are_marked new i j ≡ (are_marked now i j || (are_marked now gone c && is_pair keep c i j)))
    → (i j : ℕ) → are_marked new i j ≡ (are_marked old i j || is_shared old keep gone (c + 1) i j)
share_more old now new keep gone c h before step i j =
    let none : is_shared old keep gone c gone c ≡ false = rw (
      ne_eqb gone keep (omega arith),
      unmarked_self old gone,
    ) (grind (arith, nat_tests)) in
    let same : are_marked now gone c ≡ are_marked old gone c = before gone c ∙ ap (λ b. are_marked old gone c || b) none
    ∙ or_false (are_marked old gone c) in
    step i j ∙ rw (before i j, same) (or_assoc (are_marked old i j) (is_shared old keep gone c i j)
    (are_marked old gone c && is_pair keep c i j) ∙ ap (λ b. are_marked old i j || b)
    (shared_more (are_marked old gone) keep c i j))

zero_index : (words : List ℕ) (i : ℕ) → slice_index_or (words ++ 0 ∷ []) i 0 ≡ slice_index_or words i 0
zero_index words i = elim (cases_lt i (length words)) [
  | inl e ↦ get_or_append_left words (0 ∷ []) 0 i e
  | inr f ↦ get_or-append_right words (0 ∷ []) (length words) i 0 refl f ∙ zero_at (i - length words)
      ∙ sym (get_or_past words i 0 f)
]
  where
    zero_at : (k : ℕ) → slice_index_or (0 ∷ []) k (let z : ℕ = 0 in z) ≡ 0
    zero_at zero = refl
    zero_at (suc k) = refl

pub zero_set : (words : List ℕ) (k : ℕ) → is_set (words ++ 0 ∷ []) k ≡ is_set words k
unfolding is_set
zero_set words k = rw (zero_index words (k / 64)) refl

pub nothing_marked : (x y : ℕ) → are_marked [] x y ≡ false
unfolding are_marked is_set
nothing_marked x y = elim (cases_eq x y) [
  | inl e ↦ rw (eq-eqb x y e) refl
  | inr f ↦ rw (ne_eqb x y f, bit_at-zero (place x y % 64)) refl
]
