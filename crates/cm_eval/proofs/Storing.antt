-- The look-up after a cell has got another value.
use Rattle.std.proofs.Common.{◌≡◌, Bool, true, false, List, [], ◌∷◌, Some, None, slice_get, refl, sym, ap, ◌∙◌}
use Rattle.std.proofs.Common.{if◌then◌else◌}
use Rattle.std.proofs.lemmas.Bool.{false_from_ne_true}
use Rattle.cm_value.specs.declared.value.Value.{Value}
use Rattle.cm_eval.specs.declared.log.CellName.{CellName}
use Rattle.cm_eval.specs.declared.state.Except.{Except}
use Rattle.cm_eval.specs.State.{Store, look_up, put, same_cell, exception_of, exceptions_with, or_default}
use Rattle.cm_eval.proofs.Same.{same_cell_equal, same_cell_self}

module _ (c : CellName) (v : Value) where
  stored : (es : List Except) → exception_of (exceptions_with es c v) c ≡ Some v
  stored [] = ap (λ b. if b then Some v else None) (same_cell_self c)
  stored (e ∷ es) = by (same_cell e.cell c) refl (stored es)
    where
      by : (b : Bool) → same_cell e.cell c ≡ b → exception_of (exceptions_with es c v) c ≡ Some v
          → exception_of (if b then record e { value = v } ∷ es else e ∷ exceptions_with es c v) c ≡ Some v
      by true is later = ap (λ b. if b then Some v else exception_of es c) is
      by false is later = ap (λ b. if b then Some e.value else exception_of (exceptions_with es c v) c) is ∙ later

  pub exception_elsewhere : (d : CellName) → same_cell c d ≡ false → (es : List Except)
      → exception_of (exceptions_with es c v) d ≡ exception_of es d
  exception_elsewhere d apart [] = ap (λ b. if b then Some v else None) apart
  exception_elsewhere d apart (e ∷ es) = by (same_cell e.cell c) refl (exception_elsewhere d apart es)
    where
      other : same_cell e.cell c ≡ true → same_cell e.cell d ≡ false
      other is = ap (λ x. same_cell x d) (same_cell_equal e.cell c is) ∙ apart

      by : (b : Bool) → same_cell e.cell c ≡ b → exception_of (exceptions_with es c v) d ≡ exception_of es d
          → exception_of (if b then record e { value = v } ∷ es else e ∷ exceptions_with es c v) d
          ≡ exception_of (e ∷ es) d
      by true is later =
          ap (λ b. if b then Some v else exception_of es d) (other is)
          ∙ sym (ap (λ b. if b then Some e.value else exception_of es d) (other is))
      by false is later = ap (λ o. if same_cell e.cell d then Some e.value else o) later

-- the cell has the value
pub look_up_put : (s : Store) (c : CellName) (v : Value) → look_up (put s c v) c ≡ Some v
look_up_put s c v = ap (λ o. or_default o (slice_get s.defaults c.state)) (stored c v s.exceptions)

-- another cell has the value that it had
pub look_up_elsewhere : (s : Store) (c d : CellName) (v : Value) → (c ≡ d → ⊥) → look_up (put s c v) d ≡ look_up s d
look_up_elsewhere s c d v apart =
    ap (λ o. or_default o (slice_get s.defaults d.state))
    (exception_elsewhere c v d (false_from_ne_true (same_cell c d) (λ e. apart (same_cell_equal c d e))) s.exceptions)
