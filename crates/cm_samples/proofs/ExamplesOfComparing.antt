-- The worked examples of comparison and touch.
use Rattle.std.proofs.Common.{◌≡◌, ℕ, Bool, true, false, pos, [], ◌∷◌, Some, refl, ap, ◌∙◌}
use Rattle.cm_value.specs.declared.value.Value.{Value}
use Rattle.cm_value.specs.declared.value.Value.TheVariants as value
use Rattle.cm_eval.specs.State.{Touched}
use Rattle.cm_eval.specs.Comparison.{comparison}
use Rattle.cm_eval.specs.Evaluation.{named}
use Rattle.cm_eval.specs.Run.{Trace, Blocked, Logs, logged, touch_of}
use Rattle.cm_eval.proofs.Examples.{elem_compared, int_compared, tag_compared, rec_compared, none_compared}
use Rattle.cm_eval.proofs.Examples.{some_compared}
use Rattle.cm_eval.proofs.Examples.{out_elem, out_int, out_tag, out_rec, out_some}

-- the comparison of two values as a run makes it
abbrev compared : Touched → Value → Value → (Bool → Trace) → Trace
compared t = comparison Trace (Blocked t) (λ d more. Logs t d (more d))

-- #0 and #1 differ: 1 is logged
pub elements : (t : Touched) (k : Bool → Trace) →
    logged [] (compared t (value.Elem 0) (value.Elem 1) k) ≡ logged (1 ∷ []) (k false)
elements t k = ap (logged []) (elem_compared t 0 (value.Elem 1) k) ∙ rw (out_elem 1) refl

-- the first fields differ, so the second ones are not compared
pub records_until_a_field_differs : (t : Touched) (k : Bool → Trace) →
    logged [] (compared t (value.Rec (value.Int (pos 2) ∷ value.Tag 1 ∷ []))
    (value.Rec (value.Int (pos 1) ∷ value.Tag 0 ∷ [])) k)
    ≡ logged (2 ∷ []) (k false)
records_until_a_field_differs t k = ap (logged []) (rec_compared t _ _ k)
    ∙ rw (out_rec) (ap (logged []) (int_compared t (pos 2) (value.Int (pos 1)) _) ∙ rw (out_int (pos 1)) refl)

-- both options are inspected, and then their payloads compared
pub payloads : (t : Touched) (k : Bool → Trace) →
    logged [] (compared t (value.Some (value.Elem 3)) (value.Some (value.Elem 3)) k)
    ≡ logged (1 ∷ 1 ∷ 0 ∷ []) (k true)
payloads t k = ap (logged []) (some_compared t (value.Elem 3) (value.Some (value.Elem 3)) k)
    ∙ rw (out_some (value.Elem 3))
    (ap (logged (1 ∷ 1 ∷ [])) (elem_compared t 3 (value.Elem 3) k) ∙ rw (out_elem 3) refl)

-- none and some differ, and both were inspected
pub presence : (t : Touched) (k : Bool → Trace) →
    logged [] (compared t value.None (value.Some (value.Elem 3)) k) ≡ logged (0 ∷ 1 ∷ []) (k false)
presence t k = ap (logged []) (none_compared t (value.Some (value.Elem 3)) k) ∙ rw (out_some (value.Elem 3)) refl

-- two keys that are records: the elements are equal and are logged first, the new number is greater, so the cell is new
pub a_key_that_is_a_record : (t : Touched) (found : ℕ → Trace) (fresh : Trace) →
    logged [] (touch_of (named 0 (Some (value.Rec (value.Elem 0 ∷ value.Int (pos 1) ∷ []))) ∷ []) 0
    (named 0 (Some (value.Rec (value.Elem 0 ∷ value.Int (pos 2) ∷ [])))) t found fresh)
    ≡ logged (0 ∷ 2 ∷ []) fresh
a_key_that_is_a_record t found fresh = simp (rec_compared, elem_compared, int_compared, out_rec, out_elem, out_int)

-- the new key's variant is logged, then the older one's
pub a_key_that_is_a_variant : (t : Touched) (found : ℕ → Trace) (fresh : Trace) →
    logged [] (touch_of (named 0 (Some (value.Tag 0)) ∷ []) 0 (named 0 (Some (value.Tag 1))) t found fresh)
    ≡ logged (1 ∷ 0 ∷ []) fresh
a_key_that_is_a_variant t found fresh = simp (tag_compared, out_tag)

-- the second of the cells touched before is this one; the first is of another state, which logs nothing
pub a_key_that_is_a_number : (t : Touched) (found : ℕ → Trace) (fresh : Trace) →
    logged [] (touch_of (named 1 (Some (value.Int (pos 2))) ∷ named 0 (Some (value.Int (pos 2))) ∷ []) 0
    (named 0 (Some (value.Int (pos 2)))) t found fresh)
    ≡ logged (1 ∷ []) (found 1)
a_key_that_is_a_number t found fresh = simp (int_compared, out_int)
