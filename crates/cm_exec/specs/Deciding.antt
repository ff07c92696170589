-- What a run in the midst of its decisions still does.
use Rattle.std.specs.Prelude.{◌≡◌, ◌<◌, ℕ, ◌+◌, ◌*◌, ◌==◌, Bool, List, Option, Some, None, if◌then◌else◌}
use Rattle.cm_code.specs.declared.instr.Instr.{Instr}
use Rattle.cm_code.specs.declared.event.Machine.{Machine}
use Rattle.cm_code.specs.Machine.{script, handed, told, ranked_in, opened_in}
use Rattle.cm_code.specs.Steps.{steps_left}
use Rattle.cm_eval.specs.Script.{Replies, Blocks, Decides, Reads, Writes, given}
use Rattle.cm_code.specs.declared.event.Then.{Then}
use Rattle.cm_term.specs.declared.atom.Num.{Num}
use Rattle.cm_term.specs.declared.question.Question.TheVariants as question
use Rattle.cm_term.specs.declared.term.Term.{Term}
use Rattle.cm_term.specs.declared.term.Term.TheVariants as term
use Rattle.cm_cells.specs.CellTable.{place}
use Rattle.cm_exec.specs.declared.operand.Operand.{Operand}
use Rattle.cm_exec.specs.declared.decider.Decision.{Decision}
use Rattle.cm_exec.specs.declared.decider.Decision.TheVariants as decision
use Rattle.cm_exec.specs.declared.decider.Waits.{Waits}
use Rattle.cm_exec.specs.declared.decider.Waits.TheVariants as waits
use Rattle.cm_exec.specs.declared.decider.Decider.{Decider}
use Rattle.cm_exec.specs.declared.decider.Reached.{Reached}
use Rattle.cm_exec.specs.declared.decider.Reached.TheVariants as reach
use Rattle.cm_exec.specs.declared.decider.Turned.{Turned}
use Rattle.cm_exec.specs.declared.decider.Turned.TheVariants as turn
use Rattle.cm_exec.specs.Asking.{payload_of}
use Rattle.cm_exec.specs.Terms.{Plan, Doing, terms, played}
use Rattle.cm_exec.specs.declared.comparison.Met.{Met}
use Rattle.cm_exec.specs.Comparing.{asking, IsWaiting, Heads}
use Rattle.cm_exec.specs.Comparing as comparing

-- what a script does after an outcome
abbrev pub after : Plan → ℕ → Plan
after (Decides q f) d = f d
after (Replies t) d = Blocks
after Blocks d = Blocks
after (Reads p f) d = Blocks
after (Writes p t s) d = Blocks

module _ (codes : List (List Instr)) where
  abbrev pub goes_on : Machine Term Operand → Doing
  goes_on = script Term Operand Doing terms codes

  abbrev pub handed_in : Machine Term Operand → Term → Doing
  handed_in = handed Term Operand Doing terms codes

  abbrev pub opened_by : Machine Term Operand → ℕ → Option Term → Doing
  opened_by = opened_in Term Operand Doing terms codes

  -- what is done where a number of a range was wanted, and where an option was inspected
  abbrev pub range_told : Machine Term Operand → Num → ℕ → Doing
  range_told m a d ps = if d == 1 then handed_in m (term.Num a) ps else Blocks

  abbrev pub presence_told : Machine Term Operand → Term → ℕ → ℕ → Doing
  presence_told m t n d ps =
      if d == 1 then given (payload_of ps t) (λ u. opened_by m n (Some u) ps) else opened_by m n None ps

  -- what is done where this is decided
  abbrev pub decides : Machine Term Operand → Decision → Doing
  decides m (decision.Bool a t) ps =
      Decides (question.TagOf a) (λ d. told Term Operand Doing terms codes m t (d == 1) ps)
  decides m (decision.Equality a b t) ps =
      Decides (question.Nums a b) (λ d. told Term Operand Doing terms codes m t (d == 1) ps)
  decides m (decision.Order a b k) ps =
      Decides (question.Nums a b) (λ d. ranked_in Term Operand Doing terms codes m k d ps)
  decides m (decision.Range lo hi a) ps =
      Decides (question.Range a lo hi) (λ d. range_told m a d ps)
  decides m (decision.Presence o t n) ps = Decides (question.OptOf o) (λ d. presence_told m t n d ps)

  abbrev pub awaited : Machine Term Operand → Waits → Doing
  awaited m waits.Nothing ps = goes_on m ps
  awaited m (waits.Asked x) ps = decides m x ps
  awaited m (waits.Answered x d) ps = after (decides m x ps) d
  awaited m (waits.Comparing c t) ps = played (asking ps c) (λ s. told Term Operand Doing terms codes m t s ps)

  abbrev pub doing : Decider → Doing
  doing d ps = awaited d.machine d.waits ps

  -- what is waited for at an event, or the run is blocked
  abbrev pub awaited_if : Machine Term Operand → Option Waits → Doing
  awaited_if m (Some w) ps = awaited m w ps
  awaited_if m None ps = Blocks

  -- whether two numbers are equal, if both are there
  abbrev pub numbers_compared : Machine Term Operand → Option Num → Option Num → Then → Doing
  numbers_compared m x y t ps = given x (λ a. given y (λ b. decides m (decision.Equality a b t) ps))

  abbrev pub goes_if : Bool → Machine Term Operand → Doing
  goes_if on m ps = if on then goes_on m ps else Blocks

  -- what a run has come to
  abbrev pub reached : Reached → Decider → Doing
  reached (reach.Asks q) d ps = Decides q (after (doing d ps))
  reached (reach.Reads s c) d ps = Reads (place s c) (λ t. handed_in d.machine t ps)
  reached (reach.Writes s c t) d ps = Writes (place s c) t (goes_on d.machine ps)
  reached (reach.Replies t) d ps = Replies t
  reached reach.Blocks d ps = Blocks

  abbrev pub turned : Turned → Decider → Doing
  turned turn.On d ps = doing d ps
  turned (turn.To r) d ps = reached r d ps

  -- where something is asked, that is at the head
  abbrev pub AsksAt : Reached → Decider → Type 0
  AsksAt (reach.Asks q) d = (ps : List Term) → doing d ps ≡ Decides q (after (doing d ps))
  AsksAt (reach.Reads s c) d = Unit {0}
  AsksAt (reach.Writes s c t) d = Unit {0}
  AsksAt (reach.Replies t) d = Unit {0}
  AsksAt reach.Blocks d = Unit {0}

  abbrev pub TurnAsks : Turned → Decider → Type 0
  TurnAsks turn.On d = Unit {0}
  TurnAsks (turn.To r) d = AsksAt r d

  -- how much is left to do
  abbrev pub waits_left : Waits → ℕ
  waits_left waits.Nothing = 0
  waits_left (waits.Asked x) = 1
  waits_left (waits.Answered x d) = 1
  waits_left (waits.Comparing c t) = 1

  abbrev pub left_in : Decider → ℕ
  left_in d = 2 * steps_left codes d.machine + waits_left d.waits

  -- there is less to do behind a read or a write
  abbrev pub ComesDown : ℕ → Reached → Decider → Type 0
  ComesDown n (reach.Asks q) d = Unit {0}
  ComesDown n (reach.Reads s c) d = left_in d < n
  ComesDown n (reach.Writes s c t) d = left_in d < n
  ComesDown n (reach.Replies t) d = Unit {0}
  ComesDown n reach.Blocks d = Unit {0}

  abbrev pub GoesDown : ℕ → Turned → Decider → Type 0
  GoesDown n turn.On d = left_in d < n
  GoesDown n (turn.To r) d = ComesDown n r d

-- something was asked
abbrev pub IsAsking : Waits → Type 0
IsAsking waits.Nothing = ⊥
IsAsking (waits.Asked x) = Unit {0}
IsAsking (waits.Answered x d) = ⊥
IsAsking (waits.Comparing c t) = IsWaiting c.stage

-- where it comes to a write it goes on behind that
abbrev pub Awaits : Reached → Decider → Type 0
Awaits (reach.Asks q) d = IsAsking d.waits
Awaits (reach.Reads s c) d = Unit {0}
Awaits (reach.Writes s c t) d = d.waits ≡ waits.Nothing
Awaits (reach.Replies t) d = Unit {0}
Awaits reach.Blocks d = Unit {0}

abbrev pub TurnAwaits : Turned → Decider → Type 0
TurnAwaits turn.On d = Unit {0}
TurnAwaits (turn.To r) d = Awaits r d

-- the comparison that is waited for has met this
abbrev pub IsMet : Met → Then → Waits → Type 0
IsMet m t (waits.Comparing c u) = ((ps : List Term) → Heads m (asking ps c)) × comparing.Awaits m c.stage × (u ≡ t)
IsMet m t waits.Nothing = ⊥
IsMet m t (waits.Asked x) = ⊥
IsMet m t (waits.Answered x d) = ⊥
