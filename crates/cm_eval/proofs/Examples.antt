-- What stands behind a value's form, for examples.
use Rattle.std.proofs.Common.{◌≡◌, ℕ, ℤ, Bool, List, map, sym, ap, ◌∙◌}
use Rattle.cm_value.specs.declared.value.Value.{Value, out-Value}
use Rattle.cm_value.specs.declared.value.Value.TheVariants as value
use Rattle.cm_value.specs.declared.value.Value.TheViews.{out-roll-Value}
use Rattle.cm_value.specs.declared.value.Value.TheOpen.{Value-F}
use Rattle.cm_value.proofs.Folds.{fold-elem, fold-int, fold-tag, fold-rec, fold-none, fold-some}
use Rattle.cm_eval.specs.State.{Touched}
use Rattle.cm_eval.specs.Comparison.{Comparing, comparison_step}
use Rattle.cm_eval.specs.Run.{Trace, Blocked, Logs}
use Rattle.cm_eval.specs.inner.Going.{compared_in}

pub out_elem : (n : ℕ) → out-Value (value.Elem n) ≡ Value-F.Elem n
out_elem n = ap out-Value (sym (value.rolls-Elem n)) ∙ out-roll-Value (Value-F.Elem n)

pub out_int : (n : ℤ) → out-Value (value.Int n) ≡ Value-F.Int n
out_int n = ap out-Value (sym (value.rolls-Int n)) ∙ out-roll-Value (Value-F.Int n)

pub out_tag : (n : ℕ) → out-Value (value.Tag n) ≡ Value-F.Tag n
out_tag n = ap out-Value (sym (value.rolls-Tag n)) ∙ out-roll-Value (Value-F.Tag n)

pub out_rec : (vs : List Value) → out-Value (value.Rec vs) ≡ Value-F.Rec vs
out_rec vs = ap out-Value (sym (value.rolls-Rec vs)) ∙ out-roll-Value (Value-F.Rec vs)

pub out_none : out-Value value.None ≡ Value-F.None
out_none = ap out-Value (sym value.rolls-None) ∙ out-roll-Value Value-F.None

pub out_some : (v : Value) → out-Value (value.Some v) ≡ Value-F.Some v
out_some v = ap out-Value (sym (value.rolls-Some v)) ∙ out-roll-Value (Value-F.Some v)

-- a comparison by the form of its left value
abbrev step_in : Touched → Value-F (Comparing Trace) → Comparing Trace
step_in t = comparison_step Trace (Blocked t) (λ d more. Logs t d (more d))

pub elem_compared : (t : Touched) (n : ℕ) (w : Value) (k : Bool → Trace)
    → compared_in t (value.Elem n) w k ≡ step_in t (Value-F.Elem n) w k
elem_compared t n w k = ap (λ (m : Comparing Trace). m w k) (fold-elem (step_in t) n)

pub int_compared : (t : Touched) (n : ℤ) (w : Value) (k : Bool → Trace)
    → compared_in t (value.Int n) w k ≡ step_in t (Value-F.Int n) w k
int_compared t n w k = ap (λ (m : Comparing Trace). m w k) (fold-int (step_in t) n)

pub tag_compared : (t : Touched) (n : ℕ) (w : Value) (k : Bool → Trace)
    → compared_in t (value.Tag n) w k ≡ step_in t (Value-F.Tag n) w k
tag_compared t n w k = ap (λ (m : Comparing Trace). m w k) (fold-tag (step_in t) n)

pub rec_compared : (t : Touched) (vs : List Value) (w : Value) (k : Bool → Trace)
    → compared_in t (value.Rec vs) w k ≡ step_in t (Value-F.Rec (map (compared_in t) vs)) w k
rec_compared t vs w k = ap (λ (m : Comparing Trace). m w k) (fold-rec (step_in t) vs)

pub none_compared : (t : Touched) (w : Value) (k : Bool → Trace)
    → compared_in t value.None w k ≡ step_in t Value-F.None w k
none_compared t w k = ap (λ (m : Comparing Trace). m w k) (fold-none (step_in t))

pub some_compared : (t : Touched) (v w : Value) (k : Bool → Trace) → compared_in t (value.Some v) w k
    ≡ step_in t (Value-F.Some (compared_in t v)) w k
some_compared t v w k = ap (λ (m : Comparing Trace). m w k) (fold-some (step_in t) v)
