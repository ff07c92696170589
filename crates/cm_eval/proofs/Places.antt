-- Where a cell's exception is found.
use Rattle.std.proofs.Common.{◌≡◌, ℕ, zero, suc, ◌<◌, true, false, List, [], ◌∷◌, Some, None, length, get_or, refl, ap}
use Rattle.std.proofs.Common.{arith}
use Rattle.cm_eval.specs.declared.log.CellName.{CellName}
use Rattle.cm_eval.specs.declared.state.Except.{Except}
use Rattle.cm_eval.specs.State.{same_cell}
use Rattle.cm_eval.specs.inner.Places.{Finds}
use Rattle.cm_eval.proofs.Same.{same_cell_equal}

-- none of the first n exceptions is for the cell
abbrev pub Apart : List Except → CellName → ℕ → Type 0
Apart es c n = (k : ℕ) (d : Except) → k < n → same_cell (get_or es k d).cell c ≡ false

pub found : (es : List Except) (c : CellName) (i : ℕ) (d : Except) → i < length es → Apart es c i
    → same_cell (get_or es i d).cell c ≡ true → Finds es c (Some i)
found [] c i d lt apart same = absurd (omega arith)
found (e ∷ es) c zero d lt apart same =
    (omega arith, (λ o. rw same refl), (λ v. rw (same, same_cell_equal e.cell c same) refl))
found (e ∷ es) c (suc i) d lt apart same =
    let first : same_cell e.cell c ≡ false = apart zero d (omega arith) in
    let more = found es c i d (omega arith) (λ k o l. apart (suc k) o (omega arith)) same in
    (omega arith, (λ o. rw first (more.1 o)), (λ v. rw first (ap (λ xs. e ∷ xs) (more.2 v))))

pub not_found : (es : List Except) (c : CellName) → Apart es c (length es) → Finds es c None
not_found [] c apart = (refl, λ v. refl)
not_found (e ∷ es) c apart =
    let first : same_cell e.cell c ≡ false = apart zero e (omega arith) in
    let more = not_found es c (λ k o l. apart (suc k) o (omega arith)) in
    (rw first more.0, λ v. rw first (ap (λ xs. e ∷ xs) (more.1 v)))
