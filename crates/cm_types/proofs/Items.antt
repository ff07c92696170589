-- Lists, and rules that do not fail.
use Rattle.std.proofs.Common.{◌≡◌, ℕ, zero, suc, ◌==◌, ◌&&◌, ◌||◌, inl, inr, nat_lt, not, Bool, true, false, List, []}
use Rattle.std.proofs.Common.{◌∷◌, ◌++◌, map, length, slice_get, Some, refl, sym, ap, ◌∙◌, subst, eq-eqb}
use Rattle.std.specs.List.{list_all}
use Rattle.std.proofs.lemmas.Bool.{lt-ltb}
use Rattle.std.proofs.lemmas.Bool.Decides.{eqb_tells}
use Rattle.std.proofs.lemmas.List.{append_assoc, append-nil}
use Rattle.std.proofs.lemmas.Option.{slice_get_within}
use Rattle.cm_model.specs.declared.place.Place.{Place}
use Rattle.cm_typing.specs.Told.{rule}

abbrev pub Each : {X : Type 0} → (X → Type 0) → List X → Type 0
Each P [] = Unit {0}
Each P (x ∷ xs) = P x × Each P xs

pub each_at : {X : Type 0} (P : X → Type 0) (xs : List X) (i : ℕ) (x : X) → Each P xs → slice_get xs i ≡ Some x → P x
each_at P [] i x h e = absurd cc
each_at P (y ∷ xs) zero x h e = let p : y ≡ x = cc in subst P p h.0
each_at P (y ∷ xs) (suc i) x h e = each_at P xs i x h.1 e

pub each_more : {X : Type 0} (P : X → Type 0) (xs : List X) (x : X) → Each P xs → P x → Each P (xs ++ x ∷ [])
each_more P [] x h p = (p, tt)
each_more P (y ∷ xs) x h p = (h.0, each_more P xs x h.1 p)

pub each_as : {X : Type 0} (P Q : X → Type 0) → ((x : X) → P x → Q x) → (xs : List X) → Each P xs → Each Q xs
each_as P Q so [] h = tt
each_as P Q so (x ∷ xs) h = (so x h.0, each_as P Q so xs h.1)

pub map_more : {X Y : Type 0} (f : X → Y) (xs : List X) (x : X) → map f (xs ++ x ∷ []) ≡ map f xs ++ f x ∷ []
map_more f [] x = refl
map_more f (y ∷ xs) x = ap (λ l. f y ∷ l) (map_more f xs x)

pub length_map : {X Y : Type 0} (f : X → Y) (xs : List X) → length (map f xs) ≡ length xs
length_map f [] = refl
length_map f (x ∷ xs) = ap suc (length_map f xs)

pub all_more : {X : Type 0} (f : X → Bool) (xs : List X) (x : X) → list_all f xs ≡ true → f x ≡ true
    → list_all f (xs ++ x ∷ []) ≡ true
all_more f [] x h e = ap (λ c. c && true) e
all_more f (y ∷ xs) x h e = step (f y) (list_all f xs) h (λ r. all_more f xs x r e)
  where
    step : (b c : Bool) → (b && c) ≡ true → (c ≡ true → list_all f (xs ++ x ∷ []) ≡ true)
        → (b && list_all f (xs ++ x ∷ [])) ≡ true
    step true c h rest = rest h
    step false c h rest = absurd cc

-- what stands behind others, and at the end
pub stands_behind : {X : Type 0} (xs : List X) (x : X) (ys : List X) → slice_get (xs ++ x ∷ ys) (length xs) ≡ Some x
stands_behind [] x ys = refl
stands_behind (y ∷ xs) x ys = stands_behind xs x ys

pub still_at : {X : Type 0} (xs ys : List X) (i : ℕ) (x : X) → slice_get xs i ≡ Some x → slice_get (xs ++ ys) i ≡ Some x
still_at [] ys i x e = absurd cc
still_at (y ∷ xs) ys zero x e = e
still_at (y ∷ xs) ys (suc i) x e = still_at xs ys i x e

-- a list that goes on
abbrev pub GoesOn : {X : Type 0} → List X → List X → Type 0
GoesOn {X} xs ys = (zs : List X) × (ys ≡ xs ++ zs)

pub goes_still : {X : Type 0} (xs : List X) → GoesOn xs xs
goes_still xs = ([], sym (append-nil xs))

pub goes_by : {X : Type 0} (xs : List X) (x : X) → GoesOn xs (xs ++ x ∷ [])
goes_by xs x = (x ∷ [], refl)

pub goes_further : {X : Type 0} (xs ys zs : List X) → GoesOn xs ys → GoesOn ys zs → GoesOn xs zs
goes_further xs ys zs g h = (g.0 ++ h.0, h.1 ∙ ap (λ l. l ++ h.0) g.1 ∙ append_assoc xs g.0 h.0)

-- the item that is added stands in each list that goes on from there
pub added : {X : Type 0} (xs : List X) (x : X) (all : List X) → GoesOn (xs ++ x ∷ []) all → slice_get all (length xs)
    ≡ Some x
added xs x all g = ap (λ l. slice_get l (length xs)) g.1 ∙ ap (λ l. slice_get l (length xs))
    (append_assoc xs (x ∷ []) g.0) ∙ stands_behind xs x g.0

pub below : {X : Type 0} (xs : List X) (x : X) (all : List X) → GoesOn (xs ++ x ∷ []) all → nat_lt (length xs)
    (length all) ≡ true
below xs x all g = lt-ltb (length xs) (length all) (slice_get_within all (length xs) x (added xs x all g))

-- what a list of faults is made of
pub no_more : {X : Type 0} (a b : List X) → a ++ b ≡ [] → (a ≡ []) × (b ≡ [])
no_more [] b h = (refl, h)
no_more (x ∷ a) b h = absurd cc

pub holds : (b : Bool) (code : ℕ) (at : Place) → (rule b code at).1 ≡ [] → b ≡ true
holds true code at h = refl
holds false code at h = absurd cc

pub not_true : (a : Bool) → not a ≡ true → a ≡ false
not_true true h = absurd cc
not_true false h = refl

pub or_false : (a b : Bool) → (a || b) ≡ false → (a ≡ false) × (b ≡ false)
or_false true b h = absurd cc
or_false false b h = (refl, h)

pub nat_sym : (x y : ℕ) → (x == y) ≡ (y == x)
nat_sym x y = elim (eqb_tells x y) [
  | inl p ↦ p.0 ∙ sym (eq-eqb y x (sym p.1))
  | inr p ↦ p.0 ∙ sym (elim (eqb_tells y x) [ inl q ↦ absurd (p.1 (sym q.1)) | inr q ↦ q.0 ])
]
