-- The order of paths.
use Rattle.std.proofs.Common.{◌≡◌, ◌⊎◌, inl, inr, ℕ, ◌<◌, ltb, Bool, true, false, [], ◌∷◌, ◌++◌, refl, ◌∙◌}
use Rattle.std.proofs.Common.{arith}
use Rattle.std.proofs.lemmas.Bool.{lt-ltb, ltb-true, le-ltb, ltb-false}
use Rattle.cm_forks.specs.Paths.{Path, Before, StartsWith}

-- the first number is less, or it is the same and the rest comes before
head_of : (x y : ℕ) (xs ys : Path) → Before (x ∷ xs) (y ∷ ys) → (x < y) ⊎ ((x ≡ y) × Before xs ys)
head_of x y xs ys h = split (ltb x y) refl (ltb y x) refl h
  where
    split : (a : Bool) → ltb x y ≡ a → (b : Bool) → ltb y x ≡ b
        → Before (x ∷ xs) (y ∷ ys) → (x < y) ⊎ ((x ≡ y) × Before xs ys)
    split true is b is' k = inl (ltb-true x y is)
    split false is true is' k = absurd (let e = rw (is, is') at k in cc)
    split false is false is' k =
        let le = ltb-false x y is in
        let ge = ltb-false y x is' in
        inr (omega (arith, le, ge), rw (is, is') at k)

less : (x y : ℕ) (xs ys : Path) → x < y → Before (x ∷ xs) (y ∷ ys)
less x y xs ys lt = rw (lt-ltb x y lt) refl

same : (x y : ℕ) (xs ys : Path) → x ≡ y → Before xs ys → Before (x ∷ xs) (y ∷ ys)
same x y xs ys e h = rw (le-ltb x y (omega (arith, e)), le-ltb y x (omega (arith, e))) h

pub before_trans : (a b c : Path) → Before a b → Before b c → Before a c
before_trans [] [] c h k = absurd (let e : Before [] [] = h in cc)
before_trans [] (y ∷ ys) [] h k = absurd (let e : Before (y ∷ ys) [] = k in cc)
before_trans [] (y ∷ ys) (z ∷ zs) h k = refl
before_trans (x ∷ xs) [] c h k = absurd (let e : Before (x ∷ xs) [] = h in cc)
before_trans (x ∷ xs) (y ∷ ys) [] h k = absurd (let e : Before (y ∷ ys) [] = k in cc)
before_trans (x ∷ xs) (y ∷ ys) (z ∷ zs) h k =
    let rest = before_trans xs ys zs in
    both rest (head_of x y xs ys h) (head_of y z ys zs k)
  where
    both : (Before xs ys → Before ys zs → Before xs zs)
        → (x < y) ⊎ ((x ≡ y) × Before xs ys) → (y < z) ⊎ ((y ≡ z) × Before ys zs) → Before (x ∷ xs) (z ∷ zs)
    both rest (inl h) (inl k) = less x z xs zs (omega arith)
    both rest (inl h) (inr k) = less x z xs zs (omega arith)
    both rest (inr h) (inl k) = less x z xs zs (omega arith)
    both rest (inr h) (inr k) = same x z xs zs (h.0 ∙ k.0) (rest h.1 k.1)

pub before_self : (a : Path) → Before a a → ⊥
before_self [] h = let e : Before [] [] = h in cc
before_self (x ∷ xs) h = elim (head_of x x xs xs h) [ inl lt ↦ omega arith | inr k ↦ before_self xs k.1 ]

pub before_more : (a : Path) (y : ℕ) (ys : Path) → Before a (a ++ y ∷ ys)
before_more [] y ys = refl
before_more (x ∷ xs) y ys = same x x xs (xs ++ y ∷ ys) refl (before_more xs y ys)

pub before_at : (a : Path) (x y : ℕ) (p q : Path) → x < y → Before (a ++ x ∷ p) (a ++ y ∷ q)
before_at [] x y p q h = less x y p q h
before_at (z ∷ a) x y p q h = same z z (a ++ x ∷ p) (a ++ y ∷ q) refl (before_at a x y p q h)

-- what is before is so by its beginning, or begins with the other's
pub before_fronts : (a b x y : Path) → Before (a ++ x) (b ++ y) → Before a b ⊎ StartsWith a b
before_fronts [] [] x y h = inr ([], refl)
before_fronts [] (b ∷ bs) x y h = inl refl
before_fronts (a ∷ more) [] x y h = inr (a ∷ more, refl)
before_fronts (a ∷ more) (b ∷ bs) x y h = elim (head_of a b (more ++ x) (bs ++ y) h) [
  | inl lt ↦ inl (less a b more bs lt)
  | inr e ↦ elim (before_fronts more bs x y e.1) [
    | inl k ↦ inl (same a b more bs e.0 k)
    | inr k ↦ inr (k.0, cc)
  ]
]
