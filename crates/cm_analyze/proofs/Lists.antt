-- What is so of each item of a list.
use Rattle.std.proofs.Common.{◌≡◌, ℕ, zero, suc, List, [], ◌∷◌, ◌++◌, map, drop, slice_get, Option, Some}
use Rattle.std.proofs.Common.{sym, ap, ◌∙◌, subst, append_assoc, arith, ◌+◌, ◌<◌, length, slice_index_or}
use Rattle.cm_term.specs.declared.term.Term.{Term}
use Rattle.cm_cells.specs.CellTable.{Place, place}
use Rattle.std.specs.List.{AllByRecursion}

pub all_at : {A : Type 0} (P : A → Type 0) (xs : List A) (i : ℕ) (x : A) → AllByRecursion P xs → slice_get xs i ≡ Some x
    → P x
all_at P [] i x h at = absurd (cc)
all_at P (y ∷ xs) zero x h at = let same : y ≡ x = cc in subst P same h.0
all_at P (y ∷ xs) (suc i) x h at = all_at P xs i x h.1 at

pub all_parts : {A : Type 0} (P : A → Type 0) (xs ys : List A) → AllByRecursion P (xs ++ ys)
    → AllByRecursion P xs × AllByRecursion P ys
all_parts P [] ys h = (tt, h)
all_parts P (x ∷ xs) ys h = let rest = all_parts P xs ys h.1 in ((h.0, rest.0), rest.1)

pub dropped : {A : Type 0} (xs : List A) (i : ℕ) (x : A) → slice_get xs i ≡ Some x → drop i xs ≡ x ∷ drop (i + 1) xs
dropped [] i x at = absurd (cc)
dropped (y ∷ xs) zero x at = let same : y ≡ x = cc in ap (λ z. z ∷ xs) same
dropped (y ∷ xs) (suc i) x at =
    let e : suc i + 1 ≡ suc (i + 1) = omega arith in
    dropped xs i x at ∙ ap (λ n. x ∷ drop n (y ∷ xs)) (sym e)

pub all_index : {A : Type 0} (P : A → Type 0) (xs : List A) (i : ℕ) (d : A) → AllByRecursion P xs → i < length xs
    → P (slice_index_or xs i d)
all_index P [] i d h lt = absurd (omega (arith, lt))
all_index P (x ∷ xs) zero d h lt = h.0
all_index P (x ∷ xs) (suc i) d h lt = all_index P xs i d h.1 (omega (arith, lt))

-- a place by its state and key
pub place_at : (qs : List Place) (i : ℕ) (s : ℕ) (k : Option Term)
    → slice_get (map (λ (q : Place). q.state) qs) i ≡ Some s → slice_get (map (λ (q : Place). q.key) qs) i ≡ Some k
    → slice_get qs i ≡ Some (place s k)
place_at [] i s k a b = absurd (cc)
place_at (q ∷ qs) zero s k a b =
    let f : q.state ≡ s = cc in
    let g : q.key ≡ k = cc in
    ap (λ n. Some (place n q.key)) f ∙ ap (λ o. Some (place s o)) g
place_at (q ∷ qs) (suc i) s k a b = place_at qs i s k a b

pub key_at : (P : Option Term → Type 0) (qs : List Place) (i : ℕ) (k : Option Term)
    → AllByRecursion (λ (q : Place). P q.key) qs → slice_get (map (λ (q : Place). q.key) qs) i ≡ Some k → P k
key_at P [] i k h at = absurd (cc)
key_at P (q ∷ qs) zero k h at = let same : q.key ≡ k = cc in subst P same h.0
key_at P (q ∷ qs) (suc i) k h at = key_at P qs i k h.1 at

-- one more is done
pub one_more : {A B : Type 0} (f : A → B) (done : List B) (xs : List A) (i : ℕ) (x : A) (y : B) → slice_get xs i ≡ Some x
    → y ≡ f x → (done ++ y ∷ []) ++ map f (drop (i + 1) xs) ≡ done ++ map f (drop i xs)
one_more f done xs i x y at is =
    append_assoc done (y ∷ []) (map f (drop (i + 1) xs))
    ∙ ap (λ z. done ++ z ∷ map f (drop (i + 1) xs)) is
    ∙ ap (λ zs. done ++ map f zs) (sym (dropped xs i x at))
