-- Parts with finitely many outcomes, some of which are decided: variants of enums, and whether options are there.
use Rattle.std.specs.Prelude.{◌≡◌, ◌==◌, ◌<◌, ◌≤◌, ◌↔◌, ℕ, if◌then◌else◌, List, slice_get, Some, None}
use Rattle.std.specs.Prelude.{IfSome}
use Rattle.cm_ctx.specs.declared.choice.Choice.{Choice}

-- a number that a choice may have
pub record Fits (c : Choice) (n : ℕ) : Type 0 where
  pub within : n < c.outcomes
  pub decided : IfSome c.decided (λ d. n ≡ d)

-- a valuation gives each choice a number that it may have
abbrev pub Satisfies : List Choice → (ℕ → ℕ) → Type 0
Satisfies cs t = (x : ℕ) (c : Choice) → slice_get cs x ≡ Some c → Fits c (t x)

-- some valuation has the fact
abbrev pub Allows : List Choice → ((ℕ → ℕ) → Type 0) → Type 0
Allows cs P = (t : ℕ → ℕ) × Satisfies cs t × P t

-- the new choices have exactly the valuations of the old ones that have the fact
abbrev pub Keeps : List Choice → List Choice → ((ℕ → ℕ) → Type 0) → Type 0
Keeps old new P = (t : ℕ → ℕ) → Satisfies new t ↔ (Satisfies old t × P t)

-- a choice among so many outcomes: the one is decided where there is one only
abbrev pub choice_of : ℕ → Choice
choice_of n = record { outcomes = n; decided = if n == 1 then Some 0 else None }

-- some outcomes, but at most 64, and the decided one is among them
pub record IsChoice (c : Choice) : Type 0 where
  pub some : 0 < c.outcomes
  pub few : c.outcomes ≤ 64
  pub decided : IfSome c.decided (λ d. d < c.outcomes)
  -- what has one outcome only is decided
  pub single : c.decided ≡ None → 1 < c.outcomes

abbrev pub AreChoices : List Choice → Type 0
AreChoices cs = (x : ℕ) (c : Choice) → slice_get cs x ≡ Some c → IsChoice c
