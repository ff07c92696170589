-- A comparison in a script and the same in a trace.
use Rattle.std.proofs.Common.{◌≡◌, ℕ, ◌==◌, Bool, true, false, List, [], ◌∷◌, map, Option, Some, None, refl, sym, ap}
use Rattle.std.proofs.Common.{◌∙◌, if◌then◌else◌}
use Rattle.cm_model.specs.declared.ty.IntDecl.{IntDecl}
use Rattle.cm_model.specs.declared.body.StateDecl.{StateDecl}
use Rattle.cm_value.specs.declared.value.Value.{Value}
use Rattle.cm_value.specs.declared.value.Value.TheOpen.{Value-F}
use Rattle.cm_value.specs.declared.value.Value.TheFolds.{fold-roll-Value, map-Value}
use Rattle.cm_eval.specs.Script.{Blocks, Decides}
use Rattle.cm_eval.specs.State.{Store, Touched}
use Rattle.cm_eval.specs.Comparison.{Comparing, comparison, comparison_step, fields_compared, payload_compared, or_stop}
use Rattle.cm_eval.specs.Comparison.{elem_of, int_of, tag_of, parts_of, option_of, variant, distinguished, ordered}
use Rattle.cm_eval.specs.Comparison.{presence}
use Rattle.cm_eval.specs.Evaluation.{Doing}
use Rattle.cm_eval.specs.Run.{Trace, Blocked, Logs, logged, run}
use Rattle.cm_eval.specs.inner.Going.{Compares, Decided, compared_in}
use Rattle.cm_eval.proofs.Folds.{fold_related, Related}

module _ (ints : List IntDecl) (states : List StateDecl) (s : Store) (t : Touched) where
  abbrev go : Doing → Trace
  go = run ints states s t

  abbrev Natural : Comparing Doing → Value → Type 0
  Natural m v = (w : Value) (k : Bool → Doing) → go (m w k) ≡ compared_in t v w (λ b. go (k b))

  abbrev step : Value-F (Comparing Doing) → Comparing Doing
  step = comparison_step Doing Blocks Decides

  abbrev Both : Type 0
  Both = Related (Comparing Doing) Natural step

  abbrev scripts : Value-F Both → Value-F (Comparing Doing)
  scripts = map-Value Both (Comparing Doing) (λ p. p.0.0)

  abbrev values : Value-F Both → Value-F Value
  values = map-Value Both Value (λ p. p.0.1)

  abbrev traces : Value-F Value → Comparing Trace
  traces x = comparison_step Trace (Blocked t) (λ d more. Logs t d (more d))
      (map-Value Value (Comparing Trace) (compared_in t) x)

  fields : (ps : List Both) (vs : List Value) (k : Bool → Doing)
      → go (fields_compared Doing Blocks (map (λ p. p.0.0) ps) vs k) ≡ fields_compared Trace (Blocked t)
      (map (compared_in t) (map (λ p. p.0.1) ps)) vs (λ b. go (k b))
  fields [] [] k = refl
  fields [] (v ∷ vs) k = refl
  fields (p ∷ ps) [] k = refl
  fields (p ∷ ps) (v ∷ vs) k =
      p.1 v (λ b. if b then fields_compared Doing Blocks (map (λ q. q.0.0) ps) vs k else k false)
      ∙ ap (compared_in t p.0.1 v) (λ i b. by_answer (fields ps vs k) b i)
    where
      by_answer : go (fields_compared Doing Blocks (map (λ (q : Both). q.0.0) ps) vs k) ≡ fields_compared
          Trace (Blocked t) (map (compared_in t) (map (λ (q : Both). q.0.1) ps)) vs (λ x. go (k x))
          → (b : Bool) → go (if b then fields_compared Doing Blocks (map (λ (q : Both). q.0.0) ps) vs k else k false)
          ≡ (if b then fields_compared Trace (Blocked t) (map (compared_in t) (map (λ (q : Both). q.0.1) ps))
          vs (λ x. go (k x)) else go (k false))
      by_answer h true = h
      by_answer h false = refl

  forms : (y : Value-F Both) (w : Value) (k : Bool → Doing) → go (step (scripts y) w k) ≡ traces (values y)
      w (λ b. go (k b))
  forms (Value-F.Elem m) w k = found (elem_of w)
    where
      found : (o : Option ℕ) → go (or_stop Blocks o (λ n. Decides (distinguished m n) (λ d. k (d == 0))))
          ≡ or_stop (Blocked t) o (λ n. Logs t (distinguished m n) (go (k (distinguished m n == 0))))
      found (Some n) = refl
      found None = refl
  forms (Value-F.Int m) w k = found (int_of w)
    where
      found : (o : _) → go (or_stop Blocks o (λ n. Decides (ordered m n) (λ d. k (d == 1))))
          ≡ or_stop (Blocked t) o (λ n. Logs t (ordered m n) (go (k (ordered m n == 1))))
      found (Some n) = refl
      found None = refl
  forms (Value-F.Tag m) w k = found (variant m) (tag_of w)
    where
      found : (o p : Option ℕ) → go (or_stop Blocks o
          (λ l. or_stop Blocks p (λ r. Decides l (λ d. Decides r (λ e. k (d == e))))))
          ≡ or_stop (Blocked t) o (λ l. or_stop (Blocked t) p (λ r. Logs t l (Logs t r (go (k (l == r))))))
      found (Some l) (Some r) = refl
      found (Some l) None = refl
      found None p = refl
  forms (Value-F.Rec ps) w k = found (parts_of w)
    where
      found : (o : Option (List Value))
          → go (or_stop Blocks o (λ vs. fields_compared Doing Blocks (map (λ (p : Both). p.0.0) ps) vs k))
          ≡ or_stop (Blocked t) o (λ vs. fields_compared Trace (Blocked t)
          (map (compared_in t) (map (λ (p : Both). p.0.1) ps)) vs (λ b. go (k b)))
      found (Some vs) = fields ps vs k
      found None = refl
  forms Value-F.None w k = found (option_of w)
    where
      found : (o : Option (Option Value))
          → go (or_stop Blocks o (λ p. Decides 0 (λ d. Decides (presence p) (λ e. k (d == e)))))
          ≡ or_stop (Blocked t) o (λ p. Logs t 0 (Logs t (presence p) (go (k (0 == presence p)))))
      found (Some p) = refl
      found None = refl
  forms (Value-F.Some q) w k = found (option_of w)
    where
      paid : (p : Option Value) → go (payload_compared Doing q.0.0 p k) ≡ payload_compared Trace (compared_in t q.0.1)
          p (λ b. go (k b))
      paid (Some v) = q.1 v k
      paid None = refl

      found : (o : Option (Option Value))
          → go (or_stop Blocks o (λ p. Decides 1 (λ d. Decides (presence p) (λ e. payload_compared Doing q.0.0 p k))))
          ≡ or_stop (Blocked t) o (λ p. Logs t 1 (Logs t (presence p) (payload_compared Trace (compared_in t q.0.1)
          p (λ b. go (k b)))))
      found (Some p) = ap (λ x. Logs t 1 (Logs t (presence p) x)) (paid p)
      found None = refl

  pub natural : (v w : Value) (k : Bool → Doing) → go (comparison Doing Blocks Decides v w k)
      ≡ compared_in t v w (λ b. go (k b))
  natural = fold_related (Comparing Doing) Natural step (λ y w k.
      forms y w k ∙ ap (λ (m : Comparing Trace). m w (λ b. go (k b)))
      (sym (fold-roll-Value (Comparing Trace) (comparison_step Trace (Blocked t) (λ d more. Logs t d (more d)))
      (values y))))

-- what came of a comparison, as a decision of a run
pub compared_decided : (v w : Value) (o : Option Bool) (log after : List ℕ) → Compares v w o log after
    → Decided (comparison Doing Blocks Decides v w) o log after
compared_decided v w o log after h = record {
  on = λ ints states s t k.
      ap (logged log) (natural ints states s t v w k) ∙ h t (λ b. run ints states s t (k b));
}
