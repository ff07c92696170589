-- The order of paths, step by step.
use Rattle.std.proofs.Common.{◌≡◌, ◌≢◌, ◌<◌, ◌≤◌, ◌+◌, ◌==◌, ltb, ℕ, zero, suc, Bool, true, false, ◌&&◌, ◌||◌}
use Rattle.std.proofs.Common.{List, [], ◌∷◌, drop, length, slice_get, Some, refl, sym, ap, ◌∙◌, arith}
use Rattle.std.proofs.lemmas.Bool.Decides.{nat_tests}
use Rattle.std.proofs.lemmas.List.{drop_all}
use Rattle.cm_term.specs.declared.symbol.Step.{Step}
use Rattle.cm_cond.specs.Form.{path_before, step_number}

next : (i : ℕ) → suc i ≡ i + 1
next i = omega arith

-- what is left of two paths goes on behind these steps
goes_on : (xs ys : List Step) (i : ℕ) (s t : Step) → slice_get xs i ≡ Some s → slice_get ys i ≡ Some t
    → path_before (drop i xs) (drop i ys)
    ≡ (ltb (step_number s) (step_number t)
    || (step_number s == step_number t && path_before (drop (i + 1) xs) (drop (i + 1) ys)))
goes_on xs ys i s t x y = more xs ys i x y
    ∙ ap (λ n. ltb (step_number s) (step_number t)
    || (step_number s == step_number t && path_before (drop n xs) (drop n ys))) (next i)
  where
    more : (xs ys : List Step) (i : ℕ) → slice_get xs i ≡ Some s → slice_get ys i ≡ Some t
        → path_before (drop i xs) (drop i ys)
        ≡ (ltb (step_number s) (step_number t)
        || (step_number s == step_number t && path_before (drop (suc i) xs) (drop (suc i) ys)))
    more [] ys i x y = absurd (cc)
    more (a ∷ xs) [] zero x y = absurd (cc)
    more (a ∷ xs) [] (suc i) x y = absurd (cc)
    more (a ∷ xs) (b ∷ ys) zero x y = let e : a ≡ s = cc in let f : b ≡ t = cc in
        ap (λ c. path_before (c ∷ xs) (b ∷ ys)) e ∙ ap (λ c. path_before (s ∷ xs) (c ∷ ys)) f
    more (a ∷ xs) (b ∷ ys) (suc i) x y = more xs ys i x y

-- the two steps differ
pub at_step : (xs ys : List Step) (i : ℕ) (s t : Step) → slice_get xs i ≡ Some s → slice_get ys i ≡ Some t
    → step_number s ≢ step_number t
    → path_before (drop i xs) (drop i ys) ≡ ltb (step_number s) (step_number t)
at_step xs ys i s t x y other = goes_on xs ys i s t x y ∙ by (step_number s == step_number t) refl
  where
    by : (b : Bool) → (step_number s == step_number t) ≡ b
        → (ltb (step_number s) (step_number t) || (b && path_before (drop (i + 1) xs) (drop (i + 1) ys)))
        ≡ ltb (step_number s) (step_number t)
    by true e = absurd (other (grind (arith, nat_tests, e)))
    by false e = over (ltb (step_number s) (step_number t))
      where
        over : (c : Bool) → (c || false) ≡ c
        over true = refl
        over false = refl

-- the two steps are one
pub past_step : (xs ys : List Step) (i : ℕ) (s t : Step) → slice_get xs i ≡ Some s → slice_get ys i ≡ Some t
    → step_number s ≡ step_number t
    → path_before (drop i xs) (drop i ys) ≡ path_before (drop (i + 1) xs) (drop (i + 1) ys)
past_step xs ys i s t x y same = goes_on xs ys i s t x y ∙ by (ltb (step_number s) (step_number t)) refl
    (step_number s == step_number t) refl
  where
    by : (b : Bool) → ltb (step_number s) (step_number t) ≡ b → (c : Bool) → (step_number s == step_number t) ≡ c
        → (b || (c && path_before (drop (i + 1) xs) (drop (i + 1) ys)))
        ≡ path_before (drop (i + 1) xs) (drop (i + 1) ys)
    by true e c d = absurd (grind (arith, nat_tests, same, e))
    by false e true d = refl
    by false e false d = absurd (grind (arith, nat_tests, same, d))

one_more : (i n : ℕ) → ltb i n ≡ ltb (suc i) (suc n)
one_more i n = grind (arith, nat_tests)

-- the second path has ended
pub no_more : (xs ys : List Step) (i : ℕ) → i < length xs → false ≡ ltb i (length ys)
    → path_before (drop i xs) (drop i ys) ≡ false
no_more [] ys i x y = absurd (omega (arith, x))
no_more (a ∷ xs) [] zero x y = refl
no_more (a ∷ xs) [] (suc i) x y = short (drop i xs)
  where
    short : (zs : List Step) → path_before zs [] ≡ false
    short [] = refl
    short (z ∷ zs) = refl
no_more (a ∷ xs) (b ∷ ys) zero x y = absurd (grind (arith, nat_tests, y))
no_more (a ∷ xs) (b ∷ ys) (suc i) x y = no_more xs ys i (omega (arith, x)) (y ∙ sym (one_more i (length ys)))

-- the first path has ended
ended : (ys : List Step) (i : ℕ) → path_before [] (drop i ys) ≡ ltb i (length ys)
ended [] zero = refl
ended [] (suc i) = grind (arith, nat_tests)
ended (b ∷ ys) zero = grind (arith, nat_tests)
ended (b ∷ ys) (suc i) = ended ys i ∙ one_more i (length ys)

pub at_end : (xs ys : List Step) (i : ℕ) → length xs ≤ i → i ≤ length xs
    → path_before (drop i xs) (drop i ys) ≡ ltb (length xs) (length ys)
at_end xs ys i done within =
    let same : i ≡ length xs = omega (arith, done, within) in
    ap (λ zs. path_before zs (drop i ys)) (drop_all i xs done) ∙ ended ys i ∙ ap (λ n. ltb n (length ys)) same
