-- Steps of a comparison of two lists, field by field.
use Rattle.std.proofs.Common.{◌≡◌, ℕ, ◌+◌, ◌<◌, ◌≤◌, Bool, true, false, List, [], ◌∷◌, map, length, drop, get_or}
use Rattle.std.proofs.Common.{Option, Some, None, sym, ap, ◌∙◌, subst, if◌then◌else◌, arith}
use Rattle.std.proofs.lemmas.List.{drop_more, drop_all}
use Rattle.cm_value.specs.declared.value.Value.{Value}
use Rattle.cm_eval.specs.Comparison.{fields_compared}
use Rattle.cm_eval.specs.State.{Touched}
use Rattle.cm_eval.specs.Run.{Trace, Blocked, Stopped, logged}
use Rattle.cm_eval.specs.inner.Going.{Compares, ComparesAll, compared_in, ended_by}

-- what is left to compare from the i-th field on
abbrev pub rest : Touched → List Value → List Value → ℕ → (Bool → Trace) → Trace
rest t vs ws i k = fields_compared Trace (Blocked t) (map (compared_in t) (drop i vs)) (drop i ws) k

-- what a loop over the fields keeps
abbrev pub Keeps : List Value → List Value → ℕ → List ℕ → List ℕ → Type 0
Keeps vs ws i log before = (t : Touched) (k : Bool → Trace) →
    logged log (rest t vs ws i k) ≡ logged before (fields_compared Trace (Blocked t) (map (compared_in t) vs) ws k)

module _ (vs ws : List Value) (i : ℕ) (v w : Value) (lv : i < length vs) (lw : i < length ws) (ev : v ≡ get_or vs i v)
    (ew : w ≡ get_or ws i w) where
  one : (t : Touched) (k : Bool → Trace)
      → rest t vs ws i k ≡ compared_in t v w (λ s. if s then rest t vs ws (i + 1) k else k false)
  one t k =
      ap (λ xs. fields_compared Trace (Blocked t) (map (compared_in t) xs) (drop i ws) k) (drop_more vs i v lv)
      ∙ ap (λ ys. fields_compared Trace (Blocked t) (map (compared_in t) (get_or vs i v ∷ drop (i + 1) vs)) ys k)
      (drop_more ws i w lw)
      ∙ ap (λ x. compared_in t x (get_or ws i w) (λ s. if s then rest t vs ws (i + 1) k else k false)) (sym ev)
      ∙ ap (λ y. compared_in t v y (λ s. if s then rest t vs ws (i + 1) k else k false)) (sym ew)

  pub on : (r : Option Bool) (log after before : List ℕ) → Keeps vs ws i log before → Compares v w r log after
      → r ≡ Some true → Keeps vs ws (i + 1) after before
  on r log after before keeps h is t k =
      sym (subst (λ o. logged log (compared_in t v w (λ s. if s then rest t vs ws (i + 1) k else k false))
      ≡ ended_by o (λ b. logged after (if b then rest t vs ws (i + 1) k else k false)) (Stopped t after)) is
      (h t (λ s. if s then rest t vs ws (i + 1) k else k false)))
      ∙ ap (logged log) (sym (one t k)) ∙ keeps t k

  pub out : (r : Option Bool) (log after before : List ℕ) → Keeps vs ws i log before → Compares v w r log after
      → r ≡ Some false → ComparesAll vs ws (Some false) before after
  out r log after before keeps h is t k =
      sym (keeps t k) ∙ ap (logged log) (one t k)
      ∙ subst (λ o. logged log (compared_in t v w (λ s. if s then rest t vs ws (i + 1) k else k false))
      ≡ ended_by o (λ b. logged after (if b then rest t vs ws (i + 1) k else k false)) (Stopped t after)) is
      (h t (λ s. if s then rest t vs ws (i + 1) k else k false))

  pub stop : (r : Option Bool) (log after before : List ℕ) → Keeps vs ws i log before → Compares v w r log after
      → r ≡ None → ComparesAll vs ws None before after
  stop r log after before keeps h is t k =
      sym (keeps t k) ∙ ap (logged log) (one t k)
      ∙ subst (λ o. logged log (compared_in t v w (λ s. if s then rest t vs ws (i + 1) k else k false))
      ≡ ended_by o (λ b. logged after (if b then rest t vs ws (i + 1) k else k false)) (Stopped t after)) is
      (h t (λ s. if s then rest t vs ws (i + 1) k else k false))

pub short : (vs ws : List Value) (i : ℕ) (log before : List ℕ) → i < length vs → length ws ≤ i
    → Keeps vs ws i log before → ComparesAll vs ws None before log
short (v ∷ vs) ws i log before lt le keeps t k =
    sym (keeps t k)
    ∙ ap (λ xs. logged log (fields_compared Trace (Blocked t) (map (compared_in t) xs) (drop i ws) k))
    (drop_more (v ∷ vs) i v lt)
    ∙ ap (λ ys. logged log (fields_compared Trace (Blocked t)
    (map (compared_in t) (get_or (v ∷ vs) i v ∷ drop (i + 1) (v ∷ vs))) ys k)) (drop_all i ws le)
short [] ws i log before lt le keeps t k = absurd (omega arith)

pub long : (vs ws : List Value) (i : ℕ) (log before : List ℕ) → length vs ≤ i → i < length ws → Keeps vs ws i log before
    → ComparesAll vs ws None before log
long vs (w ∷ ws) i log before le lt keeps t k =
    sym (keeps t k)
    ∙ ap (λ xs. logged log (fields_compared Trace (Blocked t) (map (compared_in t) xs) (drop i (w ∷ ws)) k))
    (drop_all i vs le)
    ∙ ap (λ ys. logged log (fields_compared Trace (Blocked t) [] ys k)) (drop_more (w ∷ ws) i w lt)
long vs [] i log before le lt keeps t k = absurd (omega arith)

pub whole : (vs ws : List Value) (i : ℕ) (log before : List ℕ) → length vs ≤ i → length ws ≤ i
    → Keeps vs ws i log before → ComparesAll vs ws (Some true) before log
whole vs ws i log before le lt keeps t k =
    sym (keeps t k)
    ∙ ap (λ xs. logged log (fields_compared Trace (Blocked t) (map (compared_in t) xs) (drop i ws) k))
    (drop_all i vs le)
    ∙ ap (λ ys. logged log (fields_compared Trace (Blocked t) [] ys k)) (drop_all i ws lt)
