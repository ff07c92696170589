-- Steps of an inspection of two lists, field by field.
use Rattle.std.proofs.Common.{◌≡◌, ℕ, ◌+◌, ◌<◌, ◌≤◌, Bool, true, false, List, [], ◌∷◌, ◌++◌, map, length, drop, get_or}
use Rattle.std.proofs.Common.{refl, sym, ap, ◌∙◌, subst}
use Rattle.std.proofs.lemmas.List.{drop_more, drop_all}
use Rattle.cm_value.specs.declared.value.Value.{Value}
use Rattle.cm_world.specs.Path.{Inspecting, inspection_logged, fields_logged}
use Rattle.cm_world.specs.inner.Ran.{Inspects, InspectsAll}

-- what is left to inspect from the i-th field on, and what comes after
abbrev pub left_over : List Value → List Value → ℕ → List ℕ → List ℕ
left_over vs ws i rest = fields_logged (map inspection_logged (drop i vs)) (drop i ws) rest

-- what a loop over the fields keeps
abbrev pub Keeps : List Value → List Value → ℕ → List ℕ → List ℕ → Type 0
Keeps vs ws i before log = (rest : List ℕ) → before ++ fields_logged (map inspection_logged vs) ws rest
    ≡ log ++ left_over vs ws i rest

module _ (vs ws : List Value) (i : ℕ) (v w : Value) (lv : i < length vs) (lw : i < length ws) (ev : v ≡ get_or vs i v)
    (ew : w ≡ get_or ws i w) where
  one : (rest : List ℕ) → left_over vs ws i rest ≡ inspection_logged v w (left_over vs ws (i + 1) rest)
  one rest =
      ap (λ xs. fields_logged (map inspection_logged xs) (drop i ws) rest) (drop_more vs i v lv)
      ∙ ap (λ ys. fields_logged (map inspection_logged (get_or vs i v ∷ drop (i + 1) vs)) ys rest) (drop_more ws i w lw)
      ∙ ap (λ x. inspection_logged x (get_or ws i w) (left_over vs ws (i + 1) rest)) (sym ev)
      ∙ ap (λ y. inspection_logged v y (left_over vs ws (i + 1) rest)) (sym ew)

  pub on : (r : Bool) (before log after : List ℕ) → Keeps vs ws i before log → Inspects v w r log after
      → r ≡ true → Keeps vs ws (i + 1) before after
  on r before log after keeps h is rest =
      let g : Inspects v w true log after = subst (λ b. Inspects v w b log after) is h in
      keeps rest ∙ ap (λ xs. log ++ xs) (one rest) ∙ g (left_over vs ws (i + 1) rest)

  pub out : (r : Bool) (before log after : List ℕ) → Keeps vs ws i before log → Inspects v w r log after
      → r ≡ false → InspectsAll vs ws false before after
  out r before log after keeps h is rest =
      let g : Inspects v w false log after = subst (λ b. Inspects v w b log after) is h in
      keeps rest ∙ ap (λ xs. log ++ xs) (one rest) ∙ g (left_over vs ws (i + 1) rest)

pub whole : (vs ws : List Value) (i : ℕ) (before log : List ℕ) → length vs ≤ i → Keeps vs ws i before log
    → InspectsAll vs ws true before log
whole vs ws i before log le keeps rest = keeps rest ∙ ap (λ xs. log ++ fields_logged (map inspection_logged xs)
    (drop i ws) rest) (drop_all i vs le)

no_more : (ms : List (Inspecting (List ℕ))) (rest : List ℕ) → fields_logged ms [] rest ≡ rest
no_more [] rest = refl
no_more (m ∷ ms) rest = refl

pub short : (vs ws : List Value) (i : ℕ) (before log : List ℕ) → length ws ≤ i → Keeps vs ws i before log
    → InspectsAll vs ws true before log
short vs ws i before log le keeps rest =
    keeps rest ∙ ap (λ ys. log ++ fields_logged (map inspection_logged (drop i vs)) ys rest) (drop_all i ws le)
    ∙ ap (λ xs. log ++ xs) (no_more (map inspection_logged (drop i vs)) rest)
