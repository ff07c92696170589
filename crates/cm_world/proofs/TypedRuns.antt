-- A well typed call on a well typed state and log leaves them well typed, and replies with a value of its type.
use Rattle.std.proofs.Common.{◌≡◌, ℕ, zero, suc, ◌+◌, Bool, true, false, not, ◌&&◌, ◌||◌, List, [], ◌∷◌, ◌++◌, map}
use Rattle.std.proofs.Common.{length, Option, Some, None, slice_get, IsTrue, refl, sym, ap, ◌∙◌, subst, if◌then◌else◌}
use Rattle.std.specs.List.{list_all}
use Rattle.std.proofs.lemmas.Bool.{and_parts, and_from, false_from_ne_true}
use Rattle.std.proofs.lemmas.List.{length-append, length-set}
use Rattle.cm_model.specs.Tables.{Tables}
use Rattle.cm_model.specs.WellTyped.{IsWellTyped}
use Rattle.cm_model.specs.declared.body.Call.{Call}
use Rattle.cm_model.specs.declared.body.StateDecl.{StateDecl}
use Rattle.cm_value.specs.declared.value.Value.{Value}
use Rattle.cm_value.specs.Membership.{IsValueOf, are_values_of}
use Rattle.cm_value.proofs.Members.{value_at}
use Rattle.cm_eval.specs.declared.log.CellName.{CellName}
use Rattle.cm_eval.specs.declared.state.Except.{Except}
use Rattle.cm_eval.specs.Script.{Replies, Blocks, Decides, Reads, Writes}
use Rattle.cm_eval.specs.State.{Store, Touched, look_up, put, with_cell, marked, same_cell, exception_of}
use Rattle.cm_eval.specs.State.{exceptions_with, or_default}
use Rattle.cm_eval.specs.Evaluation.{Doing, call_of}
use Rattle.cm_eval.specs.Run.{run, evaluation_of}
use Rattle.cm_eval.proofs.Same.{same_cell_equal, same_cell_self}
use Rattle.cm_eval.proofs.Storing.{exception_elsewhere}
use Rattle.cm_world.specs.World.{IsStateOf, IsCellOf, is_cell, is_cell_in, is_exception, is_value_in, are_apart}
use Rattle.cm_world.specs.World.{is_there}
use Rattle.cm_world.proofs.Kept.{is_touched, Keeps, EndKeeps, logged_keeps, touched_keeps}
use Rattle.cm_world.proofs.TypedScripts.{IsCellValue, IsTypedScript, call_keeps}

-- no cell is touched twice
abbrev pub are_distinct_cells : List CellName → Bool
are_distinct_cells [] = true
are_distinct_cells (c ∷ cs) = not (is_touched cs c) && are_distinct_cells cs

-- the touched cells are cells of the model, each once, with a mark each
pub record IsLogOf (t : Tables) (u : Touched) : Type 0 where
  pub cells : IsTrue (list_all (is_cell t) u.cells)
  pub apart : IsTrue (are_distinct_cells u.cells)
  pub as_many : length u.written ≡ length u.cells

module _ (t : Tables) where
  of_one : {X : Type 0} (x y : X) → Some x ≡ Some y → x ≡ y
  of_one x y h = cc

  found_typed : (es : List Except) → list_all (is_exception t) es ≡ true → (c : CellName) (v : Value)
      → exception_of es c ≡ Some v → IsCellValue t c v
  found_typed [] all c v is = absurd (cc)
  found_typed (e ∷ es) all c v is = by (same_cell e.cell c) refl is
      (found_typed es (and_parts (is_exception t e) (list_all (is_exception t) es) all).1 c v)
    where
      one : IsCellValue t e.cell e.value
      one = (and_parts (is_cell t e.cell) _ (and_parts (is_exception t e) (list_all (is_exception t) es) all).0).1

      by : (b : Bool) → same_cell e.cell c ≡ b → (if b then Some e.value else exception_of es c) ≡ Some v
          → (exception_of es c ≡ Some v → IsCellValue t c v) → IsCellValue t c v
      by true same is later = subst (λ x. IsCellValue t x v) (same_cell_equal e.cell c same)
          (subst (IsCellValue t e.cell) (of_one e.value v is) one)
      by false same is later = later is

  default_typed : (s : Store) → IsStateOf t s → (c : CellName) (v : Value) → IsCellOf t c
      → slice_get s.defaults c.state ≡ Some v → IsCellValue t c v
  default_typed s state c v cell is = by (slice_get t.states c.state) refl cell
    where
      mapped : (ds : List StateDecl) (i : ℕ) (d : StateDecl) → slice_get ds i ≡ Some d
          → slice_get (map (λ (x : StateDecl). x.value) ds) i ≡ Some d.value
      mapped [] i d at = absurd (cc)
      mapped (x ∷ ds) zero d at = ap (λ (y : StateDecl). Some y.value) (of_one x d at)
      mapped (x ∷ ds) (suc i) d at = mapped ds i d at

      by : (o : Option StateDecl) → slice_get t.states c.state ≡ o → is_cell_in t o c ≡ true
          → IsTrue (is_value_in t (slice_get t.states c.state) v)
      by (Some d) at fits =
          ap (λ o. is_value_in t o v) at
          ∙ value_at t (map (λ (x : StateDecl). x.value) t.states) s.defaults c.state d.value v state.defaults
          (mapped t.states c.state d at) is
      by None at fits = absurd (cc)

  -- the value of a cell of a well typed state
  pub look_up_typed : (s : Store) → IsStateOf t s → (c : CellName) (v : Value) → IsCellOf t c → look_up s c ≡ Some v
      → IsCellValue t c v
  look_up_typed s state c v cell is = by (exception_of s.exceptions c) refl is
    where
      by : (o : Option Value) → exception_of s.exceptions c ≡ o → or_default o (slice_get s.defaults c.state) ≡ Some v
          → IsCellValue t c v
      by (Some w) at is = found_typed s.exceptions state.exceptions c v (at ∙ is)
      by None at is = default_typed s state c v cell is

  module _ (c : CellName) (v : Value) (cell : IsCellOf t c) (value : IsCellValue t c v) where
    exceptions_fit : (es : List Except) → list_all (is_exception t) es ≡ true
        → list_all (is_exception t) (exceptions_with es c v) ≡ true
    exceptions_fit [] all = and_from (is_exception t (record { cell = c; value = v })) true
        (and_from (is_cell t c) _ cell value) refl
    exceptions_fit (e ∷ es) all = by (same_cell e.cell c) refl (exceptions_fit es parts.1)
      where
        parts : (is_exception t e ≡ true) × (list_all (is_exception t) es ≡ true)
        parts = and_parts (is_exception t e) (list_all (is_exception t) es) all

        by : (b : Bool) → same_cell e.cell c ≡ b → list_all (is_exception t) (exceptions_with es c v) ≡ true
            → list_all (is_exception t) (if b then record e { value = v } ∷ es else e ∷ exceptions_with es c v) ≡ true
        by true same later =
            and_from (is_exception t (record e { value = v })) (list_all (is_exception t) es)
            (subst (λ x. is_exception t (record { cell = x; value = v }) ≡ true) (sym (same_cell_equal e.cell c same))
            (and_from (is_cell t c) _ cell value)) parts.1
        by false same later = and_from (is_exception t e) (list_all (is_exception t) (exceptions_with es c v))
            parts.0 later

    still_apart : (es : List Except) → are_apart es ≡ true → are_apart (exceptions_with es c v) ≡ true
    still_apart [] all = refl
    still_apart (e ∷ es) all = by (same_cell e.cell c) refl (still_apart es parts.1)
      where
        parts : (not (is_there (exception_of es e.cell)) ≡ true) × (are_apart es ≡ true)
        parts = and_parts (not (is_there (exception_of es e.cell))) (are_apart es) all

        other : same_cell e.cell c ≡ false → same_cell c e.cell ≡ false
        other differ = false_from_ne_true (same_cell c e.cell)
            (λ h. absurd (let yes = sym (ap (λ x. same_cell x c) (same_cell_equal c e.cell h)) ∙ same_cell_self c in
            let not_so = differ in cc))

        by : (b : Bool) → same_cell e.cell c ≡ b → are_apart (exceptions_with es c v) ≡ true
            → are_apart (if b then record e { value = v } ∷ es else e ∷ exceptions_with es c v) ≡ true
        by true same later = all
        by false same later =
            and_from (not (is_there (exception_of (exceptions_with es c v) e.cell)))
            (are_apart (exceptions_with es c v))
            (ap (λ o. not (is_there o)) (exception_elsewhere c v e.cell (other same) es) ∙ parts.0) later

    -- a well typed state with another value of its type in a cell
    pub put_typed : (s : Store) → IsStateOf t s → IsStateOf t (put s c v)
    put_typed s state = record {
      defaults = state.defaults;
      exceptions = exceptions_fit s.exceptions state.exceptions;
      apart = still_apart s.exceptions state.apart;
    }

  touched_more : (cs : List CellName) (c d : CellName) → is_touched (cs ++ d ∷ []) c ≡ (is_touched cs c
      || same_cell c d)
  touched_more [] c d = or_false (same_cell c d)
    where
      or_false : (b : Bool) → (b || false) ≡ b
      or_false true = refl
      or_false false = refl
  touched_more (x ∷ cs) c d = ap (λ b. same_cell c x || b) (touched_more cs c d)
      ∙ or_or (same_cell c x) (is_touched cs c) (same_cell c d)
    where
      or_or : (a b e : Bool) → (a || (b || e)) ≡ ((a || b) || e)
      or_or true b e = refl
      or_or false b e = refl

  distinct_more : (cs : List CellName) (c : CellName) → is_touched cs c ≡ false → are_distinct_cells cs ≡ true
      → are_distinct_cells (cs ++ c ∷ []) ≡ true
  distinct_more [] c new all = refl
  distinct_more (d ∷ cs) c new all =
      and_from (not (is_touched (cs ++ c ∷ []) d)) (are_distinct_cells (cs ++ c ∷ []))
      (ap not (touched_more cs d c ∙ neither (is_touched cs d) (same_cell d c) parts.0 (other apart.0)))
      (distinct_more cs c apart.1 parts.1)
    where
      parts : (not (is_touched cs d) ≡ true) × (are_distinct_cells cs ≡ true)
      parts = and_parts (not (is_touched cs d)) (are_distinct_cells cs) all

      split : (a b : Bool) → (a || b) ≡ false → (a ≡ false) × (b ≡ false)
      split true b h = absurd (cc)
      split false b h = (refl, h)

      apart : (same_cell c d ≡ false) × (is_touched cs c ≡ false)
      apart = split (same_cell c d) (is_touched cs c) new

      other : same_cell c d ≡ false → same_cell d c ≡ false
      other differ = false_from_ne_true (same_cell d c)
          (λ h. absurd (let yes = sym (ap (λ x. same_cell x d) (same_cell_equal d c h)) ∙ same_cell_self d in
          let not_so = differ in cc))

      neither : (a b : Bool) → not a ≡ true → b ≡ false → (a || b) ≡ false
      neither true b h k = absurd (cc)
      neither false b h k = k

  all_more : (cs : List CellName) (c : CellName) → list_all (is_cell t) cs ≡ true → is_cell t c ≡ true
      → list_all (is_cell t) (cs ++ c ∷ []) ≡ true
  all_more [] c all is = and_from (is_cell t c) true is refl
  all_more (d ∷ cs) c all is =
      let parts = and_parts (is_cell t d) (list_all (is_cell t) cs) all in
      and_from (is_cell t d) (list_all (is_cell t) (cs ++ c ∷ [])) parts.0 (all_more cs c parts.1 is)

  -- a log with a new cell, and with a cell marked
  pub cell_logged : (u : Touched) (c : CellName) → IsLogOf t u → IsCellOf t c → is_touched u.cells c ≡ false
      → IsLogOf t (with_cell u c)
  cell_logged u c log cell new = record {
    cells = all_more u.cells c log.cells cell;
    apart = distinct_more u.cells c new log.apart;
    as_many = length-append u.written (false ∷ []) ∙ ap (λ n. n + 1) log.as_many ∙ sym (length-append u.cells (c ∷ []));
  }

  pub mark_logged : (u : Touched) (i : ℕ) → IsLogOf t u → IsLogOf t (marked u i)
  mark_logged u i log = record {
    cells = log.cells;
    apart = log.apart;
    as_many = length-set u.written i true ∙ log.as_many;
  }

  abbrev pub IsTypedEnd : (Value → Type 0) → Value → Store → Touched → Type 0
  IsTypedEnd R v s u = R v × IsStateOf t s × IsLogOf t u

  module _ (R : Value → Type 0) where
    abbrev Good : Store → Touched → Type 0
    Good s u = IsStateOf t s × IsLogOf t u

    -- a typed script on a well typed state and log
    run_typed : (d : Doing) → IsTypedScript t R d → (s : Store) (u : Touched) → Good s u
        → Keeps (IsTypedEnd R) (run t.ints t.states s u d)
    run_typed (Replies v) fits s u good = (fits, good.0, good.1)
    run_typed Blocks fits s u good = tt
    run_typed (Decides d k) fits s u good = run_typed (k d) fits s u good
    run_typed (Reads c k) fits s u good =
        touched_keeps (IsTypedEnd R) t.ints t.states Good s c u (λ v i after. run t.ints t.states s after (k v)) good
        (λ d is new. (good.0, cell_logged u c good.1 fits.0 new))
        (λ v i after there at g. run_typed (k v) (fits.1 v (look_up_typed s good.0 c v fits.0 there)) s after g)
    run_typed (Writes c x k) fits s u good =
        touched_keeps (IsTypedEnd R) t.ints t.states Good s c u (λ v i after. run t.ints t.states (put s c x)
        (marked after i) k) good
        (λ d is new. (good.0, cell_logged u c good.1 fits.0 new))
        (λ v i after there at g. run_typed k fits.2 (put s c x) (marked after i) (
          put_typed c x fits.0 fits.1 s g.0,
          mark_logged after i g.1,
        ))

-- a well typed call on a well typed state and log leaves them so, and replies with a value of its type
pub evaluation_typed : (t : Tables) → IsWellTyped t → (i : ℕ) (d : Call) (args : List Value)
    → slice_get t.calls i ≡ Some d
    → IsTrue (are_values_of t (map (λ p. p.ty) d.params) args) → (s : Store) (u : Touched) (log : List ℕ)
    → IsStateOf t s → IsLogOf t u
    → EndKeeps (IsTypedEnd t (IsValueOf t d.reply)) (evaluation_of t i args s u log)
evaluation_typed t typed i d args at are s u log state touched =
    logged_keeps (IsTypedEnd t (IsValueOf t d.reply)) (run t.ints t.states s u (call_of t i args)) log
    (run_typed t (IsValueOf t d.reply) (call_of t i args) (call_keeps t typed (IsValueOf t d.reply) i
    d args at are (λ v is. is)) s u (state, touched))
