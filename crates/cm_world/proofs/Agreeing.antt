-- Two states with the same defaults are equal where they agree at the exceptions of both.
use Rattle.std.proofs.Common.{◌≡◌, suc, Bool, true, false, List, [], ◌∷◌, get_or, Option, Some, None, slice_get, refl}
use Rattle.std.proofs.Common.{sym, ap, ◌∙◌, subst, arith, if◌then◌else◌}
use Rattle.cm_model.specs.Tables.{Tables}
use Rattle.cm_value.specs.declared.value.Value.{Value}
use Rattle.cm_eval.specs.declared.log.CellName.{CellName}
use Rattle.cm_eval.specs.declared.state.Except.{Except}
use Rattle.cm_eval.specs.State.{Store, exception_of, same_cell, or_default}
use Rattle.cm_eval.proofs.Same.{same_cell_equal}
use Rattle.cm_world.specs.Commuting.{SameState}
use Rattle.cm_world.specs.inner.Ran.{Agree, AllAgree}

-- the cell is that of one of the exceptions, or it has none
at_cell : (t : Tables) (s u : Store) (c : CellName) (es : List Except) → AllAgree t s u es → (o : Option Value)
    → exception_of es c ≡ o → (o ≡ None → Agree t s u c) → Agree t s u c
at_cell t s u c [] all o is none = none (sym is)
at_cell t s u c (e ∷ es) all o is none =
    by (same_cell e.cell c) refl
    (λ h. at_cell t s u c es (λ i d lt. all (suc i) d (omega arith)) o
    (sym (ap (λ b. if b then Some e.value else exception_of es c) h) ∙ is) none)
  where
    by : (b : Bool) → same_cell e.cell c ≡ b → (same_cell e.cell c ≡ false → Agree t s u c) → Agree t s u c
    by true h later = subst (Agree t s u) (same_cell_equal e.cell c h) (all 0 e (omega arith))
    by false h later = later h

pub agreeing : (t : Tables) (s u : Store) → s.defaults ≡ u.defaults → AllAgree t s u s.exceptions
    → AllAgree t s u u.exceptions → SameState t s u
agreeing t s u same left right c =
    at_cell t s u c s.exceptions left (exception_of s.exceptions c) refl (λ none.
    at_cell t s u c u.exceptions right (exception_of u.exceptions c) refl (λ nor is.
    ap (λ o. or_default o (slice_get s.defaults c.state)) none
    ∙ ap (λ ds. slice_get ds c.state) same
    ∙ sym (ap (λ o. or_default o (slice_get u.defaults c.state)) nor)))

pub all_agree : (t : Tables) (s u : Store) (es : List Except) → SameState t s u → AllAgree t s u es
all_agree t s u es same i d lt = same (get_or es i d).cell
