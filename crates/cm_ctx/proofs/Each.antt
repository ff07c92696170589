-- Facts of each item of a list and its number.
use Rattle.std.proofs.Common.{◌≡◌, ◌<◌, ◌≤◌, ◌+◌, ◌↔◌, ℕ, zero, suc, List, [], ◌∷◌, ◌++◌, map, length, slice_get, Some}
use Rattle.std.proofs.Common.{refl, sym, subst, arith}
use Rattle.cm_ctx.specs.Giving.{EachFrom}

next : (x i : ℕ) → (x + 1) + i ≡ x + suc i
next x i = omega arith

none_more : (x : ℕ) → x + 0 ≡ x
none_more x = omega arith

module _ {A : Type 0} (P : ℕ → A → Type 0) where
  pub each_at : (x : ℕ) (xs : List A) → EachFrom P x xs → (i : ℕ) (a : A) → slice_get xs i ≡ Some a → P (x + i) a
  each_at x [] e i a at = absurd (cc)
  each_at x (b ∷ xs) e zero a at = let same : b ≡ a = cc in
      subst (λ y. P y a) (sym (none_more x)) (subst (P x) same e.0)
  each_at x (b ∷ xs) e (suc i) a at = subst (λ y. P y a) (next x i) (each_at (x + 1) xs e.1 i a at)

  pub each_from : (x : ℕ) (xs : List A) → ((i : ℕ) (a : A) → slice_get xs i ≡ Some a → P (x + i) a) → EachFrom P x xs
  each_from x [] h = tt
  each_from x (b ∷ xs) h = (
    subst (λ y. P y b) (none_more x) (h 0 b refl),
    each_from (x + 1) xs (λ i a at. subst (λ y. P y a) (sym (next x i)) (h (suc i) a at)),
  )

  pub each_append : (x : ℕ) (xs bs : List A) → EachFrom P x (xs ++ bs)
      ↔ (EachFrom P x xs × EachFrom P (x + length xs) bs)
  each_append x [] bs = (
    (λ e. (tt, subst (λ y. EachFrom P y bs) (sym (none_more x)) e)),
    (λ e. subst (λ y. EachFrom P y bs) (none_more x) e.1),
  )
  each_append x (b ∷ xs) bs =
      let rest = each_append (x + 1) xs bs in (
        (λ e. let r = rest.0 e.1 in ((e.0, r.0), subst (λ y. EachFrom P y bs) (next x (length xs)) r.1)),
        (λ e. (e.0.0, rest.1 (e.0.1, subst (λ y. EachFrom P y bs) (sym (next x (length xs))) e.1))),
      )

  -- another fact that follows where the number is in reach
  pub each_so : (Q : ℕ → A → Type 0) (x : ℕ) (xs : List A)
      → ((y : ℕ) (a : A) → x ≤ y → y < x + length xs → P y a → Q y a) → EachFrom P x xs → EachFrom Q x xs
  each_so Q x [] f e = tt
  each_so Q x (a ∷ xs) f e = (
    f x a (omega arith) (omega arith) e.0,
    each_so Q (x + 1) xs (λ y b low high. f y b (omega arith) (omega arith)) e.1,
  )

pub each_map : {A B : Type 0} (P : ℕ → B → Type 0) (f : A → B) (x : ℕ) (xs : List A) → EachFrom P x (map f xs)
    ↔ EachFrom (λ y a. P y (f a)) x xs
each_map P f x [] = ((λ e. tt), (λ e. tt))
each_map P f x (a ∷ xs) = let rest = each_map P f (x + 1) xs in ((λ e. (e.0, rest.0 e.1)), (λ e. (e.0, rest.1 e.1)))

none_before : (i : ℕ) → 0 + i ≡ i
none_before i = omega arith

pub each_there : {A : Type 0} (P : ℕ → A → Type 0) (xs : List A) → ((i : ℕ) (a : A) → slice_get xs i ≡ Some a → P i a)
    ↔ EachFrom P 0 xs
each_there P xs = (
  (λ h. each_from P 0 xs (λ i a at. subst (λ y. P y a) (sym (none_before i)) (h i a at))),
  (λ e i a at. subst (λ y. P y a) (none_before i) (each_at P 0 xs e i a at)),
)

-- what is so of each item of two lists, one behind the other
pub each_there_append : {A : Type 0} (P : ℕ → A → Type 0) (xs ys : List A)
    → ((i : ℕ) (a : A) → slice_get (xs ++ ys) i ≡ Some a → P i a)
    ↔ (((i : ℕ) (a : A) → slice_get xs i ≡ Some a → P i a) × EachFrom P (length xs) ys)
each_there_append P xs ys =
    let all = each_there P (xs ++ ys) in
    let first = each_there P xs in
    let cut = each_append P 0 xs ys in (
      (λ h. let c = cut.0 (all.0 h) in (first.1 c.0, subst (λ x. EachFrom P x ys) (none_before (length xs)) c.1)),
      (λ h. all.1 (cut.1 (first.0 h.0, subst (λ x. EachFrom P x ys) (sym (none_before (length xs))) h.1))),
    )

pub each_pair : {A : Type 0} (P Q : ℕ → A → Type 0) (x : ℕ) (xs : List A) → EachFrom (λ y a. P y a × Q y a) x xs
    ↔ (EachFrom P x xs × EachFrom Q x xs)
each_pair P Q x [] = ((λ e. (tt, tt)), (λ e. tt))
each_pair P Q x (a ∷ xs) = let rest = each_pair P Q (x + 1) xs in (
  (λ e. let r = rest.0 e.1 in ((e.0.0, r.0), (e.0.1, r.1))),
  (λ e. ((e.0.0, e.1.0), rest.1 (e.0.1, e.1.1))),
)
