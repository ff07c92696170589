-- A new cell's invariant, by its code.
use Rattle.std.proofs.Common.{◌≡◌, ℕ, true, false, List, [], ◌∷◌, slice_get, Option, Some, None}
use Rattle.std.proofs.Common.{refl, sym, ap, ◌∙◌}
use Rattle.std.specs.Option.{option_map}
use Rattle.std.proofs.lemmas.Option.{slice_get-map}
use Rattle.cm_model.specs.Tables.{Tables}
use Rattle.cm_model.specs.declared.body.Expr.{Expr}
use Rattle.cm_model.specs.declared.body.StateDecl.{StateDecl}
use Rattle.cm_code.specs.declared.instr.Instr.{Instr}
use Rattle.cm_code.specs.Code.{code_meaning, codes_from}
use Rattle.cm_code.proofs.RightTurns.{invariant_right}
use Rattle.cm_eval.specs.declared.code.Code.{Code}
use Rattle.cm_eval.specs.Compiled.{IsCodeOf, invariant_code_of}
use Rattle.cm_term.specs.declared.term.Term.{Term}
use Rattle.cm_cells.specs.CellTable.{CellTable}
use Rattle.cm_exec.specs.declared.operand.Operand.{Operand}
use Rattle.cm_exec.specs.Terms.{Plan, Doing, terms}
use Rattle.cm_exec.specs.Run.{Telling, checking, checked, invariant_in, declared_in, invariants_of}
use Rattle.cm_exec.specs.Running.{is_there, if_there, invariant_or_none}

module _ (m : Tables) (ps : List Term) (t : Term) (cs : CellTable) (more : Telling) where
  abbrev by_code : Option (Option (List Instr)) → Plan
  by_code i = code_meaning Term Operand Doing terms (codes_from Term Operand Doing terms [] []) (if_there i) (t ∷ [])
      terms.replies ps

  one : (inv : Option Expr) (i : Option (Option (List Instr))) → i ≡ Some (invariant_code_of m.ints inv)
      → is_there i ≡ true → checked (invariant_in m.ints ps inv) t cs more ≡ checking (by_code i) cs more
  one None i e there = absurd (let not_there : is_there i ≡ false = ap is_there e in cc)
  one (Some x) i e there = ap (λ p. checking p cs more)
      (sym (ap by_code e ∙ ap (λ (f : Doing). f ps) (invariant_right Term Operand Doing terms m.ints x t)))

  of_state : (o : Option StateDecl) (i : Option (Option (List Instr)))
      → i ≡ option_map (λ d. invariant_code_of m.ints d.inv) o → is_there i ≡ true
      → checked (invariant_or_none (declared_in m.ints ps o)) t cs more ≡ checking (by_code i) cs more
  of_state (Some d) i e there = one d.inv i e there
  of_state None i e there = absurd (let not_there : is_there i ≡ false = ap is_there e in cc)

  none : (inv : Option Expr) (i : Option (Option (List Instr))) → i ≡ Some (invariant_code_of m.ints inv)
      → is_there i ≡ false → checked (invariant_in m.ints ps inv) t cs more ≡ more
  none None i e there = refl
  none (Some x) i e there = absurd (let is : is_there i ≡ true = ap is_there e in cc)

  of_none : (o : Option StateDecl) (i : Option (Option (List Instr)))
      → i ≡ option_map (λ d. invariant_code_of m.ints d.inv) o → is_there i ≡ false
      → checked (invariant_or_none (declared_in m.ints ps o)) t cs more ≡ more
  of_none (Some d) i e there = none d.inv i e there
  of_none None i e there = refl

  module _ (c : Code) (is : IsCodeOf m c) (s : ℕ) where
    at : slice_get c.invariants s ≡ option_map (λ d. invariant_code_of m.ints d.inv) (slice_get m.states s)
    at = ap (λ l. slice_get l s) is.invariants ∙ slice_get-map (λ d. invariant_code_of m.ints d.inv) m.states s

    pub checked_by_code : is_there (slice_get c.invariants s) ≡ true
        → checked (invariant_or_none (invariants_of m ps s)) t cs more
        ≡ checking (by_code (slice_get c.invariants s)) cs more
    checked_by_code there = of_state (slice_get m.states s) (slice_get c.invariants s) at there

    pub unchecked : is_there (slice_get c.invariants s) ≡ false
        → checked (invariant_or_none (invariants_of m ps s)) t cs more ≡ more
    unchecked there = of_none (slice_get m.states s) (slice_get c.invariants s) at there
