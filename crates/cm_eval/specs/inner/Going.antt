-- What the evaluator's functions say of themselves: a run that was at a script is, after them, at what is done with
-- what came out.
use Rattle.std.specs.Prelude.{◌≡◌, ◌<◌, ℕ, ◌==◌, Bool, if◌then◌else◌, List, [], map, Option, Some, None}
use Rattle.cm_model.specs.Tables.{Tables}
use Rattle.cm_model.specs.declared.ty.IntDecl.{IntDecl}
use Rattle.cm_model.specs.declared.body.Expr.{Expr}
use Rattle.cm_model.specs.declared.body.StateDecl.{StateDecl}
use Rattle.cm_value.specs.declared.value.Value.{Value}
use Rattle.cm_code.specs.declared.instr.Instr.{Instr}
use Rattle.cm_eval.specs.declared.log.CellName.{CellName}
use Rattle.cm_eval.specs.declared.log.Log.{Log}
use Rattle.cm_eval.specs.declared.cells.Found.{Found}
use Rattle.cm_eval.specs.declared.cells.Found.TheVariants as found
use Rattle.cm_eval.specs.declared.drive.Turned.{Turned}
use Rattle.cm_eval.specs.declared.drive.Turned.TheVariants as turned
use Rattle.cm_eval.specs.Script.{Writes}
use Rattle.cm_eval.specs.Comparison.{variant, or_stop, fields_compared, comparison}
use Rattle.cm_eval.specs.State.{Store, Touched}
use Rattle.cm_eval.specs.Evaluation.{Doing, invariant_of}
use Rattle.cm_eval.specs.Run.{Trace, Blocked, Logs, End, Ended, Stopped, logged, run, touch_of, added, checked}
use Rattle.cm_eval.specs.Run.{cells_compared}
use Rattle.cm_eval.specs.Ended.{touched_of, stopped}
use Rattle.cm_eval.specs.Compiled.{invariant_code_of}

-- what is done with what came out, or where nothing did
abbrev pub ended_by : {X : Type 0} → Option X → (X → End) → End → End
ended_by (Some x) k stopped = k x
ended_by None k stopped = stopped

-- the comparison of two values, where it logs to these steps
abbrev pub compared_in : Touched → Value → Value → (Bool → Trace) → Trace
compared_in t = comparison Trace (Blocked t) (λ d more. Logs t d (more d))

-- what came of a comparison
abbrev pub Compares : Value → Value → Option Bool → List ℕ → List ℕ → Type 0
Compares v w r log after = (t : Touched) (k : Bool → Trace) →
    logged log (compared_in t v w k) ≡ ended_by r (λ b. logged after (k b)) (Stopped t after)

-- the same of two lists of values, field by field
abbrev pub ComparesAll : List Value → List Value → Option Bool → List ℕ → List ℕ → Type 0
ComparesAll vs ws r log after = (t : Touched) (k : Bool → Trace) →
    logged log (fields_compared Trace (Blocked t) (map (compared_in t) vs) ws k)
    ≡ ended_by r (λ b. logged after (k b)) (Stopped t after)

-- the same of two numbers of variants
abbrev pub ComparesTags : ℕ → ℕ → Option Bool → List ℕ → List ℕ → Type 0
ComparesTags m n r log after = (t : Touched) (k : Bool → Trace) →
    logged log (or_stop (Blocked t) (variant m) (λ l. or_stop (Blocked t) (variant n)
    (λ r. Logs t l (Logs t r (k (l == r))))))
    ≡ ended_by r (λ b. logged after (k b)) (Stopped t after)

-- something was decided in m, or the run was blocked in it; the state and the cells stay
pub record Decided {X : Type 0} (m : (X → Doing) → Doing) (o : Option X) (log after : List ℕ) : Type 0 where
  pub on : (ints : List IntDecl) (states : List StateDecl) (s : Store) (t : Touched) (k : X → Doing)
      → logged log (run ints states s t (m k)) ≡ ended_by o (λ x. logged after (run ints states s t (k x)))
      (Stopped t after)

-- how a run ends that is at a script, with this state and this log
abbrev pub goes_on : Tables → Store → Log → Doing → End
goes_on t s l d = logged l.steps (run t.ints t.states s (touched_of l) d)

-- something came out of m, or the run was blocked in it
pub record Gives {X : Type 0} (t : Tables) (m : (X → Doing) → Doing) (o : Option X) (s : Store) (l after : Log) : Type
    0 where
  pub on : (k : X → Doing) → goes_on t s l (m k) ≡ ended_by o (λ x. goes_on t s after (k x)) (stopped after)

-- how a run ends after a turn of the machine, by what came of it
abbrev pub turned_by : Turned → Store → Touched → List ℕ → End → End
turned_by turned.On s t log more = more
turned_by (turned.Ended v) s t log more = Ended v s t log
turned_by turned.Blocked s t log more = Stopped t log

-- a run that was at one script is at another, once these decisions are logged
pub record Turns (before : Doing) (r : Turned) (later : Doing) (log after : List ℕ) : Type 0 where
  pub on : (ints : List IntDecl) (states : List StateDecl) (s : Store) (t : Touched)
      → logged log (run ints states s t before) ≡ turned_by r s t after (logged after (run ints states s t later))

-- the same, where state and cells may change
abbrev pub TurnsIn : Tables → Doing → Turned → Doing → Store → Log → Store → Log → Type 0
TurnsIn t before r later s l u after =
    goes_on t s l before ≡ turned_by r u (touched_of after) after.steps (goes_on t u after later)

-- what came of a touch of a cell with this invariant and value
abbrev pub Touches : List IntDecl → Option Expr → Value → CellName → Option ℕ → Log → Log → Type 0
Touches ints e v c o l after = (k : ℕ → Touched → Trace) →
    logged l.steps (touch_of l.cells 0 c (touched_of l) (λ i. k i (touched_of l)) (added ints e v c (touched_of l) k))
    ≡ ended_by o (λ i. logged after.steps (k i (touched_of after))) (stopped after)

-- what came of a cell that is new
abbrev pub Adds : List IntDecl → Option Expr → Value → CellName → Option ℕ → Log → Log → Type 0
Adds ints e v c o l after = (k : ℕ → Touched → Trace) →
    logged l.steps (added ints e v c (touched_of l) k)
    ≡ ended_by o (λ i. logged after.steps (k i (touched_of after))) (stopped after)

-- what came of a cell's invariant, which touches no cell
abbrev pub Asks : List IntDecl → Option Expr → Value → Bool → Log → Log → Type 0
Asks ints e v b l after = (touched_of after ≡ touched_of l) × ((more : Trace) →
    logged l.steps (checked ints e v (touched_of l) more) ≡ (if b then logged after.steps more else stopped after))

-- whether an invariant's run ended with a reply
abbrev pub InvariantRan : List IntDecl → Expr → Value → Bool → List ℕ → List ℕ → Type 0
InvariantRan ints e v b log after = (s : Store) (t : Touched) → (w : Value)
    × (logged log (run ints [] s t (invariant_of ints e v)) ≡ (if b then Ended w s t after else Stopped t after))

-- after a turn there is less to do, or as much, unless the run has ended
abbrev pub GoesDown : ℕ → ℕ → Turned → Type 0
GoesDown before later turned.On = later < before
GoesDown before later (turned.Ended v) = Unit {0}
GoesDown before later turned.Blocked = Unit {0}

-- what came of the search for a cell among those touched
abbrev pub found_by : Found → (ℕ → End) → End → End → End
found_by (found.At i) k fresh blocked = k i
found_by found.Nowhere k fresh blocked = fresh
found_by found.Blocked k fresh blocked = blocked

abbrev pub Searches : List CellName → ℕ → CellName → Found → List ℕ → List ℕ → Type 0
Searches cells i c f log after = (t : Touched) (k : ℕ → Trace) (fresh : Trace) →
    logged log (touch_of cells i c t k fresh) ≡ found_by f (λ n. logged after (k n)) (logged after fresh)
    (Stopped t after)

-- the same of one cell
abbrev pub ComparesCells : CellName → CellName → Option Bool → List ℕ → List ℕ → Type 0
ComparesCells c d r log after = (t : Touched) (k : Bool → Trace) →
    logged log (cells_compared c d t k) ≡ ended_by r (λ b. logged after (k b)) (Stopped t after)

-- what came of a write: whether the run goes on
abbrev pub Puts : Tables → CellName → Value → Bool → Store → Log → Store → Log → Type 0
Puts t c v b s l u after = (d : Doing)
    → goes_on t s l (Writes c v d) ≡ (if b then goes_on t u after d else stopped after)
