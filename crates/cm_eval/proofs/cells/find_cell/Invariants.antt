use Rattle.std.proofs.Common.{◌≡◌, ℕ, drop}
use Rattle.cm_eval.specs.State.{Touched}
use Rattle.cm_eval.specs.Run.{Trace, logged, touch_of}
use Rattle.cm_eval.proofs.cells.find_cell.Given as goal

abbrev pub invariant-loop-i : goal.invariant-loop-i
invariant-loop-i l = (t : Touched) (k : ℕ → Trace) (fresh : Trace) →
    logged l.steps (touch_of (drop l.i l.cells) l.i l.cell t k fresh) ≡ logged l.fn.steps
    (touch_of l.fn.cells 0 l.fn.cell t k fresh)
