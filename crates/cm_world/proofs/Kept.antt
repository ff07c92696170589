-- What a run keeps of the state and of the touched cells.
use Rattle.std.proofs.Common.{◌≡◌, ℕ, suc, ◌+◌, ◌==◌, Bool, true, false, ◌&&◌, ◌||◌, List, [], ◌∷◌, ◌++◌, length}
use Rattle.std.proofs.Common.{Option, Some, None, slice_get, refl, sym, ap, ◌∙◌, subst, if◌then◌else◌, arith}
use Rattle.cm_model.specs.declared.ty.IntDecl.{IntDecl}
use Rattle.cm_model.specs.declared.body.Expr.{Expr}
use Rattle.cm_model.specs.declared.body.StateDecl.{StateDecl}
use Rattle.cm_value.specs.declared.value.Value.{Value}
use Rattle.cm_eval.specs.declared.log.CellName.{CellName}
use Rattle.cm_eval.specs.Script.{Replies, Blocks, Decides, Reads, Writes}
use Rattle.cm_eval.specs.State.{Store, Touched, look_up, put, with_cell, marked, same_value, same_key, same_cell}
use Rattle.cm_eval.specs.Evaluation.{Doing, invariant_of}
use Rattle.cm_eval.specs.Run.{Trace, Replied, Blocked, Logs, End, Ended, Stopped, logged, run, asked, checked}
use Rattle.cm_eval.specs.Run.{keys_compared, cells_compared, touch_of, added, touched_with, touched_at}
use Rattle.cm_eval.specs.inner.Going.{compared_in}
use Rattle.cm_eval.proofs.Same.{same_cell_equal}
use Rattle.cm_eval.proofs.Comparing.{comparison_goes}

-- whether a cell is among those touched
abbrev pub is_touched : List CellName → CellName → Bool
is_touched [] c = false
is_touched (d ∷ ds) c = same_cell c d || is_touched ds c

last_is : {X : Type 0} (xs : List X) (x : X) → slice_get (xs ++ x ∷ []) (length xs) ≡ Some x
last_is [] x = refl
last_is (y ∷ ys) x = last_is ys x

module _ (Q : Value → Store → Touched → Type 0) where
  -- how a run replies
  abbrev pub Keeps : Trace → Type 0
  Keeps (Replied v s t) = Q v s t
  Keeps (Blocked t) = Unit {0}
  Keeps (Logs t d more) = Keeps more

  abbrev pub EndKeeps : End → Type 0
  EndKeeps (Ended v s t log) = Q v s t
  EndKeeps (Stopped t log) = Unit {0}

  pub logged_keeps : (tr : Trace) (log : List ℕ) → Keeps tr → EndKeeps (logged log tr)
  logged_keeps (Replied v s t) log h = h
  logged_keeps (Blocked t) log h = tt
  logged_keeps (Logs t d more) log h = logged_keeps more (log ++ d ∷ []) h

  asked_keeps : (t : Touched) (d : Doing) (more : Trace) → Keeps more → Keeps (asked t d more)
  asked_keeps t (Replies v) more h = h
  asked_keeps t Blocks more h = tt
  asked_keeps t (Decides d k) more h = asked_keeps t (k d) more h
  asked_keeps t (Reads c k) more h = tt
  asked_keeps t (Writes c v k) more h = tt

  -- a comparison goes on with whether the two are equal
  compared_keeps : (t : Touched) (v w : Value) (k : Bool → Trace) → Keeps (k (same_value v w))
      → Keeps (compared_in t v w k)
  compared_keeps t v w k h = comparison_goes Trace (Blocked t) (λ d more. Logs t d (more d)) Keeps (λ d more g. g)
      tt v w k h

  keys_keep : (k l : Option Value) (t : Touched) (f : Bool → Trace) → Keeps (f (same_key k l))
      → Keeps (keys_compared k l t f)
  keys_keep None None t f h = h
  keys_keep None (Some w) t f h = h
  keys_keep (Some v) None t f h = h
  keys_keep (Some v) (Some w) t f h = compared_keeps t v w f h

  cells_keep : (c d : CellName) (t : Touched) (f : Bool → Trace) → Keeps (f (same_cell c d))
      → Keeps (cells_compared c d t f)
  cells_keep c d t f h = by (c.state == d.state) h
    where
      by : (b : Bool) → Keeps (f (b && same_key c.key d.key))
          → Keeps (if b then keys_compared c.key d.key t f else f false)
      by true h = keys_keep c.key d.key t f h
      by false h = h

  -- a touch finds the cell at its place among those touched, or it is none of them
  touch_keeps : (cells : List CellName) (i : ℕ) (c : CellName) (t : Touched) (found : ℕ → Trace) (fresh : Trace)
      → ((n : ℕ) → slice_get cells n ≡ Some c → Keeps (found (i + n))) → (is_touched cells c ≡ false → Keeps fresh)
      → Keeps (touch_of cells i c t found fresh)
  touch_keeps [] i c t found fresh f g = g refl
  touch_keeps (d ∷ ds) i c t found fresh f g =
      cells_keep c d t (λ s. if s then found i else touch_of ds (i + 1) c t found fresh)
      (by (same_cell c d) refl
      (λ no. touch_keeps ds (i + 1) c t found fresh (λ n is. subst (λ m. Keeps (found m)) (omega arith) (f (suc n) is))
      (λ more. g (neither no more))))
    where
      neither : same_cell c d ≡ false → is_touched ds c ≡ false → (same_cell c d || is_touched ds c) ≡ false
      neither a b = ap (λ x. x || is_touched ds c) a ∙ b

      by : (b : Bool) → same_cell c d ≡ b → (same_cell c d ≡ false → Keeps (touch_of ds (i + 1) c t found fresh))
          → Keeps (if b then found i else touch_of ds (i + 1) c t found fresh)
      by true is later = subst (λ m. Keeps (found m)) (omega arith) (f 0 (ap Some (sym (same_cell_equal c d is))))
      by false is later = later is

  checked_keeps : (ints : List IntDecl) (inv : Option Expr) (v : Value) (t : Touched) (more : Trace)
      → Keeps more → Keeps (checked ints inv v t more)
  checked_keeps ints None v t more h = h
  checked_keeps ints (Some e) v t more h = asked_keeps t (invariant_of ints e v) more h

  module _ (ints : List IntDecl) (states : List StateDecl) (P : Store → Touched → Type 0) where
    -- a touch of a cell, which is new or is found among the touched
    pub touched_keeps : (s : Store) (c : CellName) (t : Touched) (k : Value → ℕ → Touched → Trace) → P s t
        → ((d : StateDecl) → slice_get states c.state ≡ Some d → is_touched t.cells c ≡ false → P s (with_cell t c))
        → ((v : Value) (i : ℕ) (after : Touched) → look_up s c ≡ Some v → slice_get after.cells i ≡ Some c
        → P s after → Keeps (k v i after))
        → Keeps (touched_at ints states s c t k)
    touched_keeps s c t k h grows more = found (slice_get states c.state) refl (look_up s c) refl
      where
        found : (o : Option StateDecl) → slice_get states c.state ≡ o → (p : Option Value) → look_up s c ≡ p
            → Keeps (touched_with ints o p c t k)
        found (Some d) is (Some v) there =
            touch_keeps t.cells 0 c t (λ i. k v i t) (added ints d.inv v c t (k v))
            (λ i at. subst (λ m. Keeps (k v m t)) (omega arith) (more v i t there at h))
            (λ new. checked_keeps ints d.inv v (with_cell t c) (k v (length t.cells) (with_cell t c))
            (more v (length t.cells) (with_cell t c) there (last_is t.cells c) (grows d is new)))
        found (Some d) is None there = tt
        found None is p there = tt

    -- what keeps P when a cell is new and when one is written, and gives Q at a reply
    module _ (adds : (s : Store) (t : Touched) (c : CellName) (d : StateDecl) → slice_get states c.state ≡ Some d
        → is_touched t.cells c ≡ false
        → P s t → P s (with_cell t c))
        (writes : (s : Store) (t : Touched) (c : CellName) (x : Value) (i : ℕ) → slice_get t.cells i ≡ Some c
        → P s t → P (put s c x) (marked t i))
        (ends : (v : Value) (s : Store) (t : Touched) → P s t → Q v s t) where
      run_keeps : (d : Doing) (s : Store) (t : Touched) → P s t → Keeps (run ints states s t d)
      run_keeps (Replies v) s t h = ends v s t h
      run_keeps Blocks s t h = tt
      run_keeps (Decides d k) s t h = run_keeps (k d) s t h
      run_keeps (Reads c k) s t h =
          touched_keeps s c t (λ v i after. run ints states s after (k v)) h (λ d is new. adds s t c d is new h)
          (λ v i after there at g. run_keeps (k v) s after g)
      run_keeps (Writes c x k) s t h =
          touched_keeps s c t (λ v i after. run ints states (put s c x) (marked after i) k) h
          (λ d is new. adds s t c d is new h)
          (λ v i after there at g. run_keeps k (put s c x) (marked after i) (writes s after c x i at g))

      pub script_keeps : (d : Doing) (s : Store) (t : Touched) (log : List ℕ) → P s t
          → EndKeeps (logged log (run ints states s t d))
      script_keeps d s t log h = logged_keeps (run ints states s t d) log (run_keeps d s t h)
