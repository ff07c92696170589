-- Steps of a comparison of two lists, field by field.
use Rattle.std.proofs.Common.{◌≡◌, ℕ, ◌+◌, ◌<◌, ◌≤◌, Bool, true, false, List, [], ◌∷◌, map, length, drop, get_or, refl}
use Rattle.std.proofs.Common.{sym, ap, ◌∙◌, if◌then◌else◌, arith}
use Rattle.std.proofs.lemmas.List.{drop_more, drop_all}
use Rattle.cm_term.specs.declared.term.Term.{Term}
use Rattle.cm_cells.specs.declared.compare.Met.{Met}
use Rattle.cm_cells.specs.declared.compare.Met.TheVariants as meet
use Rattle.cm_cells.specs.Comparison.{comparing, fields_compared}
use Rattle.cm_cells.specs.Touching.{Answering, asked}
use Rattle.cm_cells.specs.inner.Meeting.{met, Compares, ComparesAll}

-- what is left to compare from the i-th field on
abbrev pub rest_from : List Term → List Term → ℕ → (Bool → Answering) → Answering
rest_from ts us i k = fields_compared Answering (map (comparing Answering asked) (drop i ts)) (drop i us) k

-- what a loop over the fields keeps
abbrev pub Keeps : List Term → List Term → ℕ → List ℕ → List ℕ → Type 0
Keeps ts us i rest answers =
    (k : Bool → Answering) →
    rest_from ts us i k rest ≡ fields_compared Answering (map (comparing Answering asked) ts) us k answers

module _ (ts us : List Term) (i : ℕ) (t u : Term) (lt : i < length ts) (lu : i < length us)
    (et : t ≡ get_or ts i t) (eu : u ≡ get_or us i u) where
  one : (k : Bool → Answering)
      → rest_from ts us i k ≡ comparing Answering asked t u (λ s. if s then rest_from ts us (i + 1) k else k false)
  one k =
      ap (λ xs. fields_compared Answering (map (comparing Answering asked) xs) (drop i us) k) (drop_more ts i t lt)
      ∙ ap (λ ys. fields_compared Answering (map (comparing Answering asked) (get_or ts i t ∷ drop (i + 1) ts)) ys k)
      (drop_more us i u lu)
      ∙ ap (λ x. comparing Answering asked x (get_or us i u) (λ s. if s then rest_from ts us (i + 1) k else k false))
      (sym et)
      ∙ ap (λ y. comparing Answering asked t y (λ s. if s then rest_from ts us (i + 1) k else k false)) (sym eu)

  -- the comparison of the fields goes on as that of these two does
  pub on : (m : Met) (rest answers : List ℕ) → Keeps ts us i rest answers → Compares t u rest m → (k : Bool → Answering)
      → fields_compared Answering (map (comparing Answering asked) ts) us k answers
      ≡ met m (λ s. if s then rest_from ts us (i + 1) k else k false)
  on m rest answers keeps h k =
      sym (keeps k) ∙ ap (λ f. f rest) (one k) ∙ h (λ s. if s then rest_from ts us (i + 1) k else k false)

-- the right list ends first
pub short : (ts us : List Term) (i : ℕ) (rest answers : List ℕ) → i < length ts → length us ≤ i
    → Keeps ts us i rest answers → (k : Bool → Answering)
    → fields_compared Answering (map (comparing Answering asked) ts) us k answers ≡ k false rest
short (t ∷ ts) us i rest answers lt le keeps k =
    sym (keeps k)
    ∙ ap (λ xs. fields_compared Answering (map (comparing Answering asked) xs) (drop i us) k rest)
    (drop_more (t ∷ ts) i t lt)
    ∙ ap (λ ys. fields_compared Answering (map (comparing Answering asked)
    (get_or (t ∷ ts) i t ∷ drop (i + 1) (t ∷ ts))) ys k rest) (drop_all i us le)
short [] us i rest answers lt le keeps k = absurd (omega arith)

-- the left list ended, and whether the right one did
pub ended : (ts us : List Term) (i : ℕ) (rest answers : List ℕ) (b : Bool) → length ts ≤ i
    → (b ≡ true → length us ≤ i) → (b ≡ false → i < length us) → Keeps ts us i rest answers → (k : Bool → Answering)
    → fields_compared Answering (map (comparing Answering asked) ts) us k answers ≡ k b rest
ended ts us i rest answers true le yes_ no_ keeps k =
    sym (keeps k)
    ∙ ap (λ xs. fields_compared Answering (map (comparing Answering asked) xs) (drop i us) k rest) (drop_all i ts le)
    ∙ ap (λ ys. fields_compared Answering [] ys k rest) (drop_all i us (yes_ refl))
ended ts (u ∷ us) i rest answers false le yes_ no_ keeps k =
    sym (keeps k)
    ∙ ap (λ xs. fields_compared Answering (map (comparing Answering asked) xs) (drop i (u ∷ us)) k rest)
    (drop_all i ts le)
    ∙ ap (λ ys. fields_compared Answering [] ys k rest) (drop_more (u ∷ us) i u (no_ refl))
ended ts [] i rest answers false le yes_ no_ keeps k = absurd (let bad = no_ refl in omega arith)
