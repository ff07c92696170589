-- The final terms of the written cells, from a cell on.
use Rattle.std.proofs.Common.{◌≡◌, ◌≤◌, ℕ, zero, suc, Bool, true, false, List, [], ◌∷◌, length, drop, slice_get, Some}
use Rattle.std.proofs.Common.{refl, sym, ap, ◌∙◌, ◌+◌, ◌++◌, append_assoc, arith}
use Rattle.std.proofs.Math.ListN.{drop_of_length-le}
use Rattle.cm_term.specs.declared.term.Term.{Term}
use Rattle.cm_exec.specs.declared.comparison.Sides.{Sides}
use Rattle.cm_beside.specs.Beside.{finals, sides}

-- with a cell's terms before others, if it was written
abbrev pub put : Bool → Sides → List Sides → List Sides
put true s rest = s ∷ rest
put false s rest = rest

abbrev pub from : ℕ → List Bool → List Term → List Term → List Sides
from i bs xs ys = finals (drop i bs) (drop i xs) (drop i ys)

pub one_cell : (i : ℕ) (bs : List Bool) (xs ys : List Term) (b : Bool) (x y : Term) → slice_get bs i ≡ Some b
    → slice_get xs i ≡ Some x → slice_get ys i ≡ Some y
    → from i bs xs ys ≡ put b (sides x y) (from (suc i) bs xs ys)
one_cell zero (true ∷ bs) (z ∷ xs) (w ∷ ys) true x y e f g =
    let one : z ≡ x = cc in
    let two : w ≡ y = cc in
    ap (λ v. sides v w ∷ finals bs xs ys) one ∙ ap (λ v. sides x v ∷ finals bs xs ys) two
one_cell zero (false ∷ bs) (z ∷ xs) (w ∷ ys) false x y e f g = refl
one_cell zero (true ∷ bs) xs ys false x y e f g = absurd (cc)
one_cell zero (false ∷ bs) xs ys true x y e f g = absurd (cc)
one_cell zero [] xs ys b x y e f g = absurd (cc)
one_cell zero (c ∷ bs) [] ys b x y e f g = absurd (cc)
one_cell zero (c ∷ bs) (z ∷ xs) [] b x y e f g = absurd (cc)
one_cell (suc i) (c ∷ bs) (z ∷ xs) (w ∷ ys) b x y e f g = one_cell i bs xs ys b x y e f g
one_cell (suc i) [] xs ys b x y e f g = absurd (cc)
one_cell (suc i) (c ∷ bs) [] ys b x y e f g = absurd (cc)
one_cell (suc i) (c ∷ bs) (z ∷ xs) [] b x y e f g = absurd (cc)

pub no_cell : (i : ℕ) (bs : List Bool) (xs ys : List Term) → length bs ≤ i → from i bs xs ys ≡ []
no_cell i bs xs ys le = ap (λ cs. finals cs (drop i xs) (drop i ys)) (drop_of_length-le bs le)

put_first : (b : Bool) (s : Sides) (rest : List Sides) → put b s [] ++ rest ≡ put b s rest
put_first true s rest = refl
put_first false s rest = refl

-- pairs to which a cell's terms were added
pub cell_put : (i : ℕ) (bs : List Bool) (xs ys : List Term) (b : Bool) (x y : Term) → slice_get bs i ≡ Some b
    → slice_get xs i ≡ Some x → slice_get ys i ≡ Some y → (old new all : List Sides) → new ≡ old ++ put b (sides x y) []
    → old ++ from i bs xs ys ≡ all → new ++ from (i + 1) bs xs ys ≡ all
cell_put i bs xs ys b x y e f g old new all added h =
    let next : i + 1 ≡ suc i = omega arith in
    let rest = from (suc i) bs xs ys in
    ap (λ j. new ++ from j bs xs ys) next ∙ ap (λ ps. ps ++ rest) added ∙ append_assoc old (put b (sides x y) []) rest
    ∙ ap (λ ps. old ++ ps) (put_first b (sides x y) rest ∙ sym (one_cell i bs xs ys b x y e f g)) ∙ h
