-- The values of a function at the first numbers.
use Rattle.std.proofs.Common.{◌≡◌, ℕ, zero, suc, ◌+◌, ◌<◌, Bool, true, List, [], ◌∷◌, ◌++◌, length, slice_get, Some}
use Rattle.std.proofs.Common.{sym, refl, ap, ◌∙◌, subst, length-append, eq-or-lt_of_le, inl, inr, ◌⊎◌, add-one, arith}
use Rattle.std.specs.Cmp.Derive.{both_true}
use Rattle.std.proofs.lemmas.Bool.{and_parts}
use Rattle.cm_model.specs.WellTyped.{each_from}
use Rattle.cm_samples.specs.Depth.{firsts}

at_end : {X : Type 0} (xs : List X) (y : X) → slice_get (xs ++ y ∷ []) (length xs) ≡ Some y
at_end [] y = refl
at_end (x ∷ xs) y = at_end xs y

before_end : {X : Type 0} (xs : List X) (y : X) (i : ℕ) → i < length xs → slice_get (xs ++ y ∷ []) i ≡ slice_get xs i
before_end [] y i lt = absurd (omega (arith, lt))
before_end (x ∷ xs) y zero lt = refl
before_end (x ∷ xs) y (suc i) lt = before_end xs y i (omega (arith, lt))

each_end : {X : Type 0} (p : ℕ → X → Bool) (k n : ℕ) (xs : List X) (y : X) → n ≡ k + length xs → each_from p k xs ≡ true
    → p n y ≡ true
    → each_from p k (xs ++ y ∷ []) ≡ true
each_end p k n [] y is all one = both_true (subst (λ i. p i y ≡ true) (omega (arith, is)) one) refl
each_end p k n (x ∷ xs) y is all one =
    let parts = and_parts (p k x) (each_from p (k + 1) xs) all in
    both_true parts.0 (each_end p (k + 1) n xs y (omega (arith, is)) parts.1 one)

module _ {X : Type 0} (f : ℕ → X) where
  pub length-firsts : (n : ℕ) → length (firsts f n) ≡ n
  unfolding firsts
  length-firsts zero = refl
  length-firsts (suc n) =
      let before = length-firsts n in
      let more = length-append (firsts f n) (f n ∷ []) in
      omega (arith, before, more)

  at_either : (n i : ℕ) → (i < n → slice_get (firsts f n) i ≡ Some (f i)) → (i ≡ n) ⊎ (i < n)
      → slice_get (firsts f n ++ f n ∷ []) i ≡ Some (f i)
  at_either n i before (inl is) =
      subst (λ k. slice_get (firsts f n ++ f n ∷ []) k ≡ Some (f k)) (sym is)
      (subst (λ k. slice_get (firsts f n ++ f n ∷ []) k ≡ Some (f n)) (length-firsts n) (at_end (firsts f n) (f n)))
  at_either n i before (inr lt) = before_end (firsts f n) (f n) i (subst (λ k. i < k) (sym (length-firsts n)) lt)
      ∙ before lt

  pub firsts_at : (n i : ℕ) → i < n → slice_get (firsts f n) i ≡ Some (f i)
  unfolding firsts
  firsts_at zero i lt = absurd (omega (arith, lt))
  firsts_at (suc n) i lt = at_either n i (firsts_at n i) (eq-or-lt_of_le (omega (arith, lt)))

  pub each_first : (p : ℕ → X → Bool) (n : ℕ) → ((i : ℕ) → i < n → p i (f i) ≡ true) → each_from p 0 (firsts f n) ≡ true
  unfolding firsts
  each_first p zero all = refl
  each_first p (suc n) all =
      let len = length-firsts n in
      each_end p 0 n (firsts f n) (f n) (omega (arith, len)) (each_first p n (λ i lt. all i (omega (arith, lt))))
      (all n (omega arith))

  pub firsts-none : firsts f 0 ≡ []
  unfolding firsts
  firsts-none = refl

  pub firsts-more : (n : ℕ) → firsts f (n + 1) ≡ firsts f n ++ f n ∷ []
  unfolding firsts
  firsts-more n = ap (firsts f) (add-one n)
