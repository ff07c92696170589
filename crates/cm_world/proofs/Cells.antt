-- Steps of an inspection of the written cells.
use Rattle.std.proofs.Common.{◌≡◌, ℕ, zero, suc, ◌+◌, ◌<◌, ◌≤◌, Bool, true, false, List, [], ◌∷◌, ◌++◌, length, drop}
use Rattle.std.proofs.Common.{get_or, refl, sym, ap, ◌∙◌, subst, arith}
use Rattle.std.proofs.lemmas.List.{drop_more, drop_all}
use Rattle.cm_eval.specs.declared.log.CellName.{CellName}
use Rattle.cm_eval.specs.State.{Store, look_up}
use Rattle.cm_world.specs.Path.{cell_inspected, cells_inspected}
use Rattle.cm_world.specs.inner.Ran.{Inspection, AreDeclared}

-- what is left to inspect from the i-th cell on
abbrev pub left_over : Store → Store → List CellName → List Bool → ℕ → List ℕ
left_over s u cs ws i = cells_inspected s u (drop i cs) (drop i ws)

-- what a loop over the cells keeps
abbrev pub Keeps : Store → Store → List CellName → List Bool → ℕ → List ℕ → List ℕ → Type 0
Keeps s u cs ws i before log = before ++ cells_inspected s u cs ws ≡ log ++ left_over s u cs ws i

module _ (s u : Store) (cs : List CellName) (ws : List Bool) (i : ℕ) (c : CellName) (w : Bool) (lc : i < length cs)
    (lw : i < length ws)
    (ec : c ≡ get_or cs i c) (ew : get_or ws i false ≡ w) where
  one : left_over s u cs ws i ≡ cells_inspected s u (c ∷ drop (i + 1) cs) (w ∷ drop (i + 1) ws)
  one =
      ap (λ xs. cells_inspected s u xs (drop i ws)) (drop_more cs i c lc)
      ∙ ap (λ ys. cells_inspected s u (get_or cs i c ∷ drop (i + 1) cs) ys) (drop_more ws i false lw)
      ∙ ap (λ x. cells_inspected s u (x ∷ drop (i + 1) cs) (get_or ws i false ∷ drop (i + 1) ws)) (sym ec)
      ∙ ap (λ y. cells_inspected s u (c ∷ drop (i + 1) cs) (y ∷ drop (i + 1) ws)) ew

  -- the cell was not written
  pub skips : (before log : List ℕ) → Keeps s u cs ws i before log → w ≡ false → Keeps s u cs ws (i + 1) before log
  skips before log keeps is =
      keeps ∙ ap (λ xs. log ++ xs) (one ∙ ap (λ y. cells_inspected s u (c ∷ drop (i + 1) cs) (y ∷ drop (i + 1) ws)) is)

  module _ (r : Bool) (before log after : List ℕ) (keeps : Keeps s u cs ws i before log) (written : w ≡ true)
      (h : Inspection (cell_inspected (look_up s c) (look_up u c)) r log after) where
    goes : before ++ cells_inspected s u cs ws ≡ log ++ cell_inspected (look_up s c) (look_up u c)
        (left_over s u cs ws (i + 1))
    goes = keeps ∙ ap (λ xs. log ++ xs) (one ∙ ap (λ y. cells_inspected s u (c ∷ drop (i + 1) cs) (y ∷ drop (i + 1) ws))
        written)

    pub on : r ≡ true → Keeps s u cs ws (i + 1) before after
    on is =
        let g : Inspection (cell_inspected (look_up s c) (look_up u c)) true log after =
        subst (λ b. Inspection (cell_inspected (look_up s c) (look_up u c)) b log after) is h in
        goes ∙ g (left_over s u cs ws (i + 1))

    pub out : r ≡ false → after ≡ before ++ cells_inspected s u cs ws
    out is =
        let g : Inspection (cell_inspected (look_up s c) (look_up u c)) false log after =
        subst (λ b. Inspection (cell_inspected (look_up s c) (look_up u c)) b log after) is h in
        sym (goes ∙ g (left_over s u cs ws (i + 1)))

nothing : (xs : List ℕ) → xs ++ [] ≡ xs
nothing [] = refl
nothing (x ∷ xs) = ap (λ ys. x ∷ ys) (nothing xs)

no_more : (s u : Store) (cs : List CellName) → cells_inspected s u cs [] ≡ []
no_more s u [] = refl
no_more s u (c ∷ cs) = refl

pub short : (s u : Store) (cs : List CellName) (ws : List Bool) (i : ℕ) (before log : List ℕ) → length ws ≤ i
    → Keeps s u cs ws i before log → log ≡ before ++ cells_inspected s u cs ws
short s u cs ws i before log le keeps =
    sym (keeps ∙ ap (λ ys. log ++ cells_inspected s u (drop i cs) ys) (drop_all i ws le)
    ∙ ap (λ xs. log ++ xs) (no_more s u (drop i cs)) ∙ nothing log)

pub whole : (s u : Store) (cs : List CellName) (ws : List Bool) (i : ℕ) (before log : List ℕ) → length cs ≤ i
    → Keeps s u cs ws i before log → log ≡ before ++ cells_inspected s u cs ws
whole s u cs ws i before log le keeps =
    sym (keeps ∙ ap (λ xs. log ++ cells_inspected s u xs (drop i ws)) (drop_all i cs le) ∙ nothing log)

pub declared_at : (n : ℕ) (cs : List CellName) (i : ℕ) (c : CellName) → i < length cs → c ≡ get_or cs i c
    → AreDeclared n cs → c.state < n
declared_at n [] i c lt e h = absurd (omega arith)
declared_at n (d ∷ cs) zero c lt e h = subst (λ (x : CellName). x.state < n) (sym e) h.0
declared_at n (d ∷ cs) (suc i) c lt e h = declared_at n cs i c (omega arith) e h.1
