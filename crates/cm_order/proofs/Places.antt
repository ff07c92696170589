-- Where differences stand.
use Rattle.std.proofs.Common.{◌≡◌, ◌<◌, ◌≤◌, ◌+◌, ◌-◌, ◌*◌, ◌==◌, inl, inr, ℕ, ℤ, suc, pos, ◌+ℤ◌, cond, max, List, ◌++◌}
use Rattle.std.proofs.Common.{length, take, refl, ap, ◌∙◌, arith}
use Rattle.std.specs.Int.{int_min}
use Rattle.std.proofs.lemmas.Bool.{cases_lt, cases_order, le-leb, lt-leb, eq-eqb, ne_eqb}
use Rattle.std.proofs.lemmas.Int.{ints}
use Rattle.std.proofs.lemmas.List.{get_or-take, get_or_append_left}
use Rattle.std.proofs.lemmas.Nat.{mul-le}
use Rattle.std.proofs.Math.Nat.{mul-suc, suc-mul}
use Rattle.cm_order.specs.inner.Shells.{place, entry, number_at, relaxed, lowered, with_edge}
use Rattle.cm_order.proofs.Runs.{relaxed_above, relaxed_below, relaxed_in}

pub square_grow : (a b : ℕ) → a < b → a * a + a + a + 1 ≤ b * b
square_grow a b h =
    let more : suc a * suc a ≤ b * b = mul-le (suc a) (suc a) b b (omega arith) (omega arith) in
    omega (arith, mul-suc (suc a) a, suc-mul a a)

pub place_lower : (x y : ℕ) → y ≤ x → place x y ≡ x * x + y
unfolding place
place_lower x y h = rw (le-leb y x h) refl

pub place_upper : (x y : ℕ) → x < y → place x y ≡ y * y + y + 1 + x
unfolding place
place_upper x y h = rw (lt-leb y x h) refl

pub place_within : (n x y : ℕ) → x < n → y < n → place x y < n * n
place_within n x y h k = elim (cases_lt x y) [
  | inl e ↦ let grow : y * y + y + y + 1 ≤ n * n = square_grow y n k in omega (arith, place_upper x y e)
  | inr e ↦ let grow : x * x + x + x + 1 ≤ n * n = square_grow x n h in omega (arith, place_lower x y e)
]

pub add_comm_int : (a b : ℤ) → (a +ℤ b) ≡ (b +ℤ a)
add_comm_int a b = grind (arith, ints)

-- what two runs leave of one shell
pub shell_at : (old mid new column row : List ℤ) (m i j : ℕ) (by over : List ℤ) → m < length column
    → length by ≡ m + 1 → ((k : ℕ) → k < m + 1 → number_at by k ≡ number_at row k)
    → length over ≡ m → ((k : ℕ) → k < m → number_at over k ≡ number_at column k)
    → ((p : ℕ) → number_at mid p ≡ relaxed old (m * m) by (number_at column m) (length by) p)
    → ((p : ℕ) → number_at new p ≡ relaxed mid (m * m + m + 1) over (number_at row m) (length over) p)
    → entry new i j ≡ (cond (max i j == m) (lowered (entry old) column row i j) (entry old i j))
shell_at old mid new column row m i j by over h by_long by_is over_long over_is first second = elim (cases_lt i j) [
  | inl e ↦
      let p_is : place i j ≡ j * j + j + 1 + i = place_upper i j e in
      let greatest : max i j ≡ j = omega arith in
      rw greatest (elim (cases_order j m) [
        | inl f ↦
            let p_is_m : place i j ≡ m * m + m + 1 + i = p_is ∙ ap (λ n. n * n + n + 1 + i) f in
            let before : number_at mid (place i j) ≡ number_at old (place i j) = first (place i j)
            ∙ relaxed_above old (m * m) by (number_at column m) (length by) (place i j) (omega arith) in
            let back : place i j - (m * m + m + 1) ≡ i = omega arith in
            rw (eq-eqb j m f) (second (place i j) ∙ relaxed_in mid (m * m + m + 1) over (number_at row m)
            (length over) (place i j) (omega arith) (omega arith)
            ∙ rw (before, back, over_is i (omega arith), f) (ap (int_min (entry old i m))
            (add_comm_int (number_at row m) (number_at column i))))
        | inr (inl f) ↦
            let grow : j * j + j + j + 1 ≤ m * m = square_grow j m f in
            rw (ne_eqb j m (omega arith)) (second (place i j) ∙ relaxed_below mid (m * m + m + 1) over
            (number_at row m) (length over) (place i j) (omega arith)
            ∙ first (place i j) ∙ relaxed_below old (m * m) by (number_at column m) (length by) (place i j)
            (omega arith))
        | inr (inr f) ↦
            let grow : m * m + m + m + 1 ≤ j * j = square_grow m j f in
            rw (ne_eqb j m (omega arith)) (second (place i j) ∙ relaxed_above mid (m * m + m + 1) over
            (number_at row m) (length over) (place i j) (omega arith)
            ∙ first (place i j) ∙ relaxed_above old (m * m) by (number_at column m) (length by) (place i j)
            (omega arith))
      ])
  | inr e ↦
      let p_is : place i j ≡ i * i + j = place_lower i j e in
      let greatest : max i j ≡ i = omega arith in
      rw greatest (elim (cases_order i m) [
        | inl f ↦
            let p_is_m : place i j ≡ m * m + j = p_is ∙ ap (λ n. n * n + j) f in
            let back : place i j - m * m ≡ j = omega arith in
            rw (eq-eqb i m f) (second (place i j) ∙ relaxed_below mid (m * m + m + 1) over (number_at row m)
            (length over) (place i j) (omega arith)
            ∙ first (place i j) ∙ relaxed_in old (m * m) by (number_at column m) (length by) (place i j)
            (omega arith) (omega arith)
            ∙ rw (back, by_is j (omega arith), f) refl)
        | inr (inl f) ↦
            let grow : i * i + i + i + 1 ≤ m * m = square_grow i m f in
            rw (ne_eqb i m (omega arith)) (second (place i j) ∙ relaxed_below mid (m * m + m + 1) over
            (number_at row m) (length over) (place i j) (omega arith)
            ∙ first (place i j) ∙ relaxed_below old (m * m) by (number_at column m) (length by) (place i j)
            (omega arith))
        | inr (inr f) ↦
            let grow : m * m + m + m + 1 ≤ i * i = square_grow m i f in
            rw (ne_eqb i m (omega arith)) (second (place i j) ∙ relaxed_above mid (m * m + m + 1) over
            (number_at row m) (length over) (place i j) (omega arith)
            ∙ first (place i j) ∙ relaxed_above old (m * m) by (number_at column m) (length by) (place i j)
            (omega arith))
      ])
]

pub place_in : (n x y : ℕ) (entries : List ℤ) → x < n → y < n → (n + 1) * (n + 1) ≤ length entries
    → place x y < length entries
place_in n x y entries h k long =
    let within : place x y < n * n = place_within n x y h k in
    let more : n * n ≤ (n + 1) * (n + 1) = mul-le n n (n + 1) (n + 1) (omega arith) (omega arith) in
    omega arith

pub entry_front : (n i j : ℕ) (entries : List ℤ) → i < n → j < n → entry (take (n * n) entries) i j ≡ entry entries i j
entry_front n i j entries p q = get_or-take (n * n) entries (place i j) (pos 0) (place_within n i j p q)

-- what one pass leaves
pub edge_after : (n : ℕ) (entries cells column row : List ℤ) (x y : ℕ) (most : ℤ) → x < n → y < n → length cells ≡ n * n
    → ((k : ℕ) → k < n → number_at column k ≡ entry (take (n * n) entries) k x +ℤ most)
    → ((k : ℕ) → k < n → number_at row k ≡ entry (take (n * n) entries) y k)
    → ((i j : ℕ) → i < n → j < n → entry cells i j ≡ lowered (entry (take (n * n) entries)) column row i j)
    → (i j : ℕ) → i < n → j < n → entry (cells ++ (column ++ row)) i j ≡ with_edge (entry entries) x y most i j
edge_after n entries cells column row x y most xn yn long columns rows lowers i j p q =
    let within : place i j < length cells = let k = place_within n i j p q in omega arith in
    get_or_append_left cells (column ++ row) (pos 0) (place i j) within ∙ lowers i j p q
    ∙ rw (
      columns i p,
      rows j q,
      entry_front n i j entries p q,
      entry_front n i x entries p xn,
      entry_front n y j entries yn q,
    ) refl
