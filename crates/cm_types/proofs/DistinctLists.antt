-- Names that are all different, with one more among them.
use Rattle.std.proofs.Common.{◌≡◌, ℕ, ◌==◌, ◌&&◌, ◌||◌, ◌⊎◌, inl, inr, not, Bool, true, false, List, [], ◌∷◌, ◌++◌, map}
use Rattle.std.proofs.Common.{refl, ap, ◌∙◌}
use Rattle.std.specs.List.{list_any}
use Rattle.std.specs.Str.{bytes_eq}
use Rattle.std.proofs.lemmas.Bool.{and_parts}
use Rattle.cm_model.specs.Names.{is_among, are_distinct}
use Rattle.cm_typing.specs.declared.names.Entry.{Entry}
use Rattle.cm_typing.specs.Names.{Names, is_taken, more}
use Rattle.cm_types.proofs.Items.{nat_sym, not_true, or_false}

pub bytes_sym : (a b : List ℕ) → bytes_eq a b ≡ bytes_eq b a
bytes_sym [] [] = refl
bytes_sym [] (y ∷ b) = refl
bytes_sym (x ∷ a) [] = refl
bytes_sym (x ∷ a) (y ∷ b) = ap (λ c. c && bytes_eq a b) (nat_sym x y) ∙ ap (λ c. (y == x) && c) (bytes_sym a b)

pub one_of : (a b : Bool) → (a || b) ≡ true → (a ≡ true) ⊎ (b ≡ true)
one_of true b h = inl refl
one_of false b h = inr h

pub or_first : (a b : Bool) → a ≡ true → (a || b) ≡ true
or_first true b h = refl
or_first false b h = absurd cc

pub or_second : (a b : Bool) → b ≡ true → (a || b) ≡ true
or_second true b h = refl
or_second false b h = h

-- among names with one more
pub among_more : (m n : List ℕ) (xs ys : List (List ℕ)) → is_among m (xs ++ n ∷ ys) ≡ true
    → (bytes_eq m n ≡ true) ⊎ (is_among m (xs ++ ys) ≡ true)
among_more m n [] ys h = one_of (bytes_eq m n) (is_among m ys) h
among_more m n (x ∷ xs) ys h = step (one_of (bytes_eq m x) (is_among m (xs ++ n ∷ ys)) h) (λ k. among_more m n xs ys k)
  where
    step : ((bytes_eq m x ≡ true) ⊎ (is_among m (xs ++ n ∷ ys) ≡ true))
        → (is_among m (xs ++ n ∷ ys) ≡ true → (bytes_eq m n ≡ true) ⊎ (is_among m (xs ++ ys) ≡ true))
        → (bytes_eq m n ≡ true) ⊎ (is_among m (x ∷ (xs ++ ys)) ≡ true)
    step (inl a) rest = inr (or_first (bytes_eq m x) (is_among m (xs ++ ys)) a)
    step (inr a) rest = elim (rest a) [
      | inl b ↦ inl b
      | inr b ↦ inr (or_second (bytes_eq m x)
          (is_among m (xs ++ ys)) b)
    ]

-- not among names with one more
pub apart_more : (m n : List ℕ) (xs ys : List (List ℕ)) → is_among m (xs ++ ys) ≡ false → bytes_eq m n ≡ false
    → is_among m (xs ++ n ∷ ys) ≡ false
apart_more m n [] ys h e = ap (λ c. c || is_among m ys) e ∙ h
apart_more m n (x ∷ xs) ys h e =
    let p = or_false (bytes_eq m x) (is_among m (xs ++ ys)) h in
    ap (λ c. c || is_among m (xs ++ n ∷ ys)) p.0 ∙ apart_more m n xs ys p.1 e

pub distinct_more : (n : List ℕ) (xs ys : List (List ℕ)) → are_distinct (xs ++ ys) ≡ true → is_among n (xs ++ ys)
    ≡ false
    → are_distinct (xs ++ n ∷ ys) ≡ true
distinct_more n [] ys h e = ap (λ c. not c && are_distinct ys) e ∙ h
distinct_more n (x ∷ xs) ys h e =
    let p = and_parts (not (is_among x (xs ++ ys))) (are_distinct (xs ++ ys)) h in
    let q = or_false (bytes_eq n x) (is_among n (xs ++ ys)) e in
    ap (λ c. not c && are_distinct (xs ++ n ∷ ys))
    (apart_more x n xs ys (not_true (is_among x (xs ++ ys)) p.0) (bytes_sym x n ∙ q.0))
    ∙ distinct_more n xs ys p.1 q.1

-- what is taken in a table stands among its names
pub taken_is : (n : List ℕ) (l : Names) → is_taken n l ≡ is_among n (map (λ e. e.0) l)
unfolding is_taken
taken_is n [] = refl
taken_is n (e ∷ l) = ap (λ c. bytes_eq n e.0 || c) (taken_is n l)

pub taken_more : (m n : List ℕ) (d : Names) (e : Entry) → (is_taken m d ≡ true) ⊎ (bytes_eq m n ≡ true)
    → is_taken m (more d n e) ≡ true
unfolding is_taken
taken_more m n [] e (inl a) = absurd cc
taken_more m n [] e (inr a) = ap (λ c. c || false) a
taken_more m n (x ∷ d) e (inl a) = elim (one_of (bytes_eq m x.0) (list_any (λ (e : List ℕ × Entry). bytes_eq m e.0) d)
    a) [
      | inl b ↦ or_first (bytes_eq m x.0) _ b
      | inr b ↦ or_second (bytes_eq m x.0) _ (taken_more m n d e (inl b))
    ]
taken_more m n (x ∷ d) e (inr a) = or_second (bytes_eq m x.0) _ (taken_more m n d e (inr a))

pub false_if : (a : Bool) → (a ≡ true → ⊥) → a ≡ false
false_if true h = absurd (h refl)
false_if false h = refl
