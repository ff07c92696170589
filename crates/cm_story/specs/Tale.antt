-- What a run asks, as a tree.
use Rattle.std.specs.Prelude.{ℕ}

-- with questions of one kind, cells that are named in one way, values or terms, and ends
pub data Tale (Q C V E : Type 0) : Type 0 where
  -- a question, and what comes after each outcome
  Asks : Q → (ℕ → Tale Q C V E) → Tale Q C V E
  -- a cell that is new, and what comes after with its initial value
  Needs : C → (V → Tale Q C V E) → Tale Q C V E
  Ends : E → Tale Q C V E
