-- A pair by its number.
use Rattle.std.proofs.Common.{◌≡◌, ℕ, zero, suc, ◌+◌, ◌-◌, ◌*◌, ◌/◌, ◌<◌, ◌≤◌, List, [], ◌∷◌, ◌++◌, slice_get, Option}
use Rattle.std.proofs.Common.{Some, refl, sym, ap, ◌∙◌, subst, arith}
use Rattle.std.proofs.Math.Nat.{mul-div_right}
use Rattle.cm_model.specs.Pairs.{row, pairs_from, pairs_of}

abbrev pub triangle : ℕ → ℕ
triangle zero = 0
triangle (suc m) = suc m + triangle m

double : (n : ℕ) → 2 * triangle n ≡ n * (n + 1)
double zero = refl
double (suc m) = grind (arith, double m)

pub count_of : (n : ℕ) → n * (n + 1) / 2 ≡ triangle n
count_of n = ap (λ x. x / 2) (sym (double n)) ∙ mul-div_right (triangle n) (omega arith)

in_row : (i j m k : ℕ) (more : List (ℕ × ℕ)) → k < m → slice_get (row i j m ++ more) k ≡ Some (i, j + k)
in_row i j zero k more lt = absurd (omega arith)
in_row i j (suc m) zero more lt = ap (λ n. Some (i, n)) (omega arith)
in_row i j (suc m) (suc k) more lt = in_row i (j + 1) m k more (omega arith) ∙ ap (λ n. Some (i, n)) (omega arith)

past_row : (i j m k l : ℕ) (more : List (ℕ × ℕ)) → k ≡ m + l → slice_get (row i j m ++ more) k ≡ slice_get more l
past_row i j zero k l more e = ap (slice_get more) (omega (arith, e))
past_row i j (suc m) zero l more e = absurd (omega (arith, e))
past_row i j (suc m) (suc k) l more e = past_row i (j + 1) m k l more (omega (arith, e))

pub pair_here : (i m k : ℕ) → k < m → slice_get (pairs_from i m) k ≡ Some (i, i + k)
pair_here i zero k lt = absurd (omega arith)
pair_here i (suc m) k lt = in_row i i (suc m) k (pairs_from (i + 1) m) lt

pub pair_later : (i m n k l : ℕ) → m ≡ suc n → k ≡ m + l → slice_get (pairs_from i m) k ≡ slice_get
    (pairs_from (i + 1) n) l
pair_later i zero n k l e f = absurd (omega (arith, e))
pair_later i (suc m) n k l e f = past_row i i (suc m) k l (pairs_from (i + 1) m) f
    ∙ ap (λ x. slice_get (pairs_from (i + 1) x) l) (omega (arith, e))

pub triangle_left : (m n k l : ℕ) → m ≡ suc n → k ≡ m + l → k < triangle m → l < triangle n
triangle_left zero n k l e f lt = absurd (omega (arith, e))
triangle_left (suc m) n k l e f lt =
    let same : triangle m ≡ triangle n = ap triangle (omega (arith, e)) in omega (arith, same, e, f)

pub triangle_some : (m k : ℕ) → k < triangle m → 0 < m
triangle_some zero k lt = absurd (omega arith)
triangle_some (suc m) k lt = omega arith

-- where the search for the k-th of n calls' pairs stands
abbrev pub Stands : ℕ → ℕ → Option (ℕ × ℕ) → ℕ → Type 0
Stands a n pair left = (slice_get (pairs_from a (n - a)) left ≡ pair) × (left < triangle (n - a)) × (a ≤ n)

pub begins : (n k : ℕ) → k < n * (n + 1) / 2 → Stands 0 n (slice_get (pairs_of n) k) k
begins n k lt =
    let e : n ≡ n - 0 = omega arith in
    let counted : k < triangle n = subst (λ x. k < x) (count_of n) lt in
    (ap (λ m. slice_get (pairs_from 0 m) k) (sym e), subst (λ m. k < triangle m) e counted, omega arith)

pub goes_on : (a n left m : ℕ) (pair : Option (ℕ × ℕ)) → m ≡ n - a → m ≤ left → Stands a n pair left
    → Stands (a + 1) n pair (left - m)
goes_on a n left m pair e le h =
    let some : 0 < n - a = triangle_some (n - a) left h.1 in
    let next : n - a ≡ suc (n - (a + 1)) = omega (arith, some) in
    let parts : left ≡ n - a + (left - m) = omega (arith, e, le) in (
      sym (pair_later a (n - a) (n - (a + 1)) left (left - m) next parts) ∙ h.0,
      triangle_left (n - a) (n - (a + 1)) left (left - m) next parts h.1,
      omega (arith, some),
    )

pub ends : (a n left m : ℕ) (pair : Option (ℕ × ℕ)) → m ≡ n - a → left < m → Stands a n pair left
    → pair ≡ Some (a, a + left)
ends a n left m pair e lt h = sym h.0 ∙ pair_here a (n - a) left (omega (arith, e))
