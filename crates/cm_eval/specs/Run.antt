-- How a script runs on a state, and what it logs.
use Rattle.std.specs.Prelude.{ℕ, ◌+◌, ◌==◌, Bool, true, false, List, [], ◌∷◌, ◌++◌, length, slice_get, Option, Some}
use Rattle.std.specs.Prelude.{None, if◌then◌else◌}
use Rattle.cm_model.specs.Tables.{Tables}
use Rattle.cm_model.specs.declared.ty.IntDecl.{IntDecl}
use Rattle.cm_model.specs.declared.body.Expr.{Expr}
use Rattle.cm_model.specs.declared.body.StateDecl.{StateDecl}
use Rattle.cm_value.specs.declared.value.Value.{Value}
use Rattle.cm_eval.specs.declared.log.CellName.{CellName}
use Rattle.cm_eval.specs.Script.{Replies, Blocks, Decides, Reads, Writes}
use Rattle.cm_eval.specs.Comparison.{comparison}
use Rattle.cm_eval.specs.State.{Store, Touched, look_up, put, with_cell, marked}
use Rattle.cm_eval.specs.Evaluation.{Doing, call_of, invariant_of}

-- the decisions in order, each with the cells that were touched before it, and the end
pub data Trace : Type 0 where
  Replied : Value → Store → Touched → Trace
  Blocked : Touched → Trace
  Logs : Touched → ℕ → Trace → Trace

-- an invariant's script, which touches no cell: where it replies the run goes on, and else it is blocked
abbrev pub asked : Touched → Doing → Trace → Trace
asked t (Replies v) more = more
asked t Blocks more = Blocked t
asked t (Decides d k) more = Logs t d (asked t (k d) more)
asked t (Reads c k) more = Blocked t
asked t (Writes c v k) more = Blocked t

-- the invariant of a cell that is new, on the cell's value
abbrev pub checked : List IntDecl → Option Expr → Value → Touched → Trace → Trace
checked ints None v t more = more
checked ints (Some e) v t more = asked t (invariant_of ints e v) more

abbrev pub keys_compared : Option Value → Option Value → Touched → (Bool → Trace) → Trace
keys_compared None None t k = k true
keys_compared None (Some w) t k = k false
keys_compared (Some v) None t k = k false
keys_compared (Some v) (Some w) t k = comparison Trace (Blocked t) (λ d more. Logs t d (more d)) v w k

-- a cell beside one that was touched before
abbrev pub cells_compared : CellName → CellName → Touched → (Bool → Trace) → Trace
cells_compared c d t k = if c.state == d.state then keys_compared c.key d.key t k else k false

-- a touch: the cell is compared with those that are left, in the order of first touch, until one is equal;
-- what is done with the number of that one, and where none is
abbrev pub touch_of : List CellName → ℕ → CellName → Touched → (ℕ → Trace) → Trace → Trace
touch_of [] i c t found fresh = fresh
touch_of (d ∷ ds) i c t found fresh = cells_compared c d t (λ s. if s then found i else touch_of ds (i + 1)
    c t found fresh)

-- a cell that is new comes last, and its invariant is asked
abbrev pub added : List IntDecl → Option Expr → Value → CellName → Touched → (ℕ → Touched → Trace) → Trace
added ints inv v c t k = checked ints inv v (with_cell t c) (k (length t.cells) (with_cell t c))

-- the state's declaration and the cell's value, where they are there
abbrev pub touched_with : List IntDecl → Option StateDecl → Option Value → CellName → Touched
    → (Value → ℕ → Touched → Trace) → Trace
touched_with ints (Some d) (Some v) c t k = touch_of t.cells 0 c t (λ i. k v i t) (added ints d.inv v c t (k v))
touched_with ints (Some d) None c t k = Blocked t
touched_with ints None v c t k = Blocked t

-- a touch of a cell; what is done with the cell's value, its number among the touched, and these
abbrev pub touched_at : List IntDecl → List StateDecl → Store → CellName → Touched → (Value → ℕ → Touched → Trace)
    → Trace
touched_at ints states s c = touched_with ints (slice_get states c.state) (look_up s c) c

abbrev pub run : List IntDecl → List StateDecl → Store → Touched → Doing → Trace
run ints states s t (Replies v) = Replied v s t
run ints states s t Blocks = Blocked t
run ints states s t (Decides d k) = Logs t d (run ints states s t (k d))
run ints states s t (Reads c k) = touched_at ints states s c t (λ v i after. run ints states s after (k v))
run ints states s t (Writes c x k) = touched_at ints states s c t (λ v i after. run ints states (put s c x)
    (marked after i) k)

-- how a run ended, with the cells touched and the decisions
pub data End : Type 0 where
  Ended : Value → Store → Touched → List ℕ → End
  Stopped : Touched → List ℕ → End

abbrev pub logged : List ℕ → Trace → End
logged log (Replied v s t) = Ended v s t log
logged log (Blocked t) = Stopped t log
logged log (Logs t d more) = logged (log ++ d ∷ []) more

-- what a call does: its number, its arguments, the state, the cells touched and the decisions before it
abbrev pub evaluation_of : Tables → ℕ → List Value → Store → Touched → List ℕ → End
evaluation_of t i args s touched log = logged log (run t.ints t.states s touched (call_of t i args))
