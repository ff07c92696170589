-- What a run in its midst still asks.
use Rattle.std.specs.Prelude.{◌≡◌, ◌<◌, ◌≤◌, ℕ, zero, suc, ◌+◌, ◌*◌, slice_get, Bool, true, false, List, [], ◌∷◌}
use Rattle.std.specs.Prelude.{◌++◌, length, Option, Some, None}
use Rattle.cm_term.specs.declared.question.Question.{Question}
use Rattle.cm_term.specs.declared.term.Term.{Term}
use Rattle.cm_cells.specs.declared.search.Touched.{Touched}
use Rattle.cm_cells.specs.declared.search.Touched.TheVariants as touched
use Rattle.cm_cells.specs.CellTable.{Place}
use Rattle.cm_cells.specs.Touching.{touching, next_of}
use Rattle.cm_eval.specs.Compiled.{IsCodeOf}
use Rattle.cm_ctx.specs.declared.piece.Counts.{Counts}
use Rattle.cm_ctx.specs.Contexts.{payloads_of}
use Rattle.cm_exec.specs.Comparing.{Extends}
use Rattle.cm_model.specs.Tables.{Tables}
use Rattle.cm_code.specs.declared.instr.Instr.{Instr}
use Rattle.cm_code.specs.Machine.{or_empty, with_body}
use Rattle.cm_cells.specs.CellTable.{CellTable, place, with_term}
use Rattle.cm_exec.specs.declared.run.Run.{Run}
use Rattle.cm_exec.specs.declared.run.Use.{Use}
use Rattle.cm_exec.specs.declared.run.Use.TheVariants as goal
use Rattle.cm_exec.specs.declared.run.Touch.{Touch}
use Rattle.cm_exec.specs.declared.run.Phase.{Phase}
use Rattle.cm_exec.specs.declared.run.Phase.TheVariants as phase
use Rattle.cm_story.specs.Tale.{Asks, Needs, Ends}
use Rattle.cm_exec.specs.Terms.{Plan}
use Rattle.cm_exec.specs.declared.run.Ask.{Ask}
use Rattle.cm_exec.specs.declared.run.Ask.TheVariants as ask
use Rattle.cm_exec.specs.declared.decider.Decider.{Decider}
use Rattle.cm_exec.specs.declared.decider.Reached.{Reached}
use Rattle.cm_exec.specs.Run.{asked, Telling, Replied, Blocked, Invariant, Used, checking, added, term_in, play}
use Rattle.cm_exec.specs.Run.{invariants_of, settled}
use Rattle.cm_exec.specs.Deciding.{handed_in, doing, left_in}
use Rattle.cm_exec.specs.Deciding as deciding
use Rattle.cm_ctx.specs.declared.piece.Piece.{Piece}
use Rattle.cm_ctx.specs.Asking.{IsNew}
use Rattle.cm_model.specs.Limits.{cell_limit}
use Rattle.cm_term.specs.declared.symbol.Root.TheVariants as root

-- a tale from the answers that are there
abbrev pub Answered : Type 0
Answered = List ℕ → Telling

-- a question takes the next answer, and is asked with these cells where there is none
abbrev pub asks_on : CellTable → Question → (ℕ → Answered) → Answered
asks_on cs q k [] = Asks (asked q cs) (λ d. k d [])
asks_on cs q k (a ∷ rest) = k a rest

-- a touch after these answers
abbrev pub touch_after : CellTable → Place → List ℕ → (ℕ → Telling) → Telling → Telling
touch_after cs p answers found fresh =
    touching Answered (asks_on cs) cs.places 0 p (λ n rest. found n) (λ rest. fresh) answers

-- where a touch has come to, by what comes with further answers
abbrev pub Stands : CellTable → Touched → Answered → (ℕ → Telling) → Telling → Type 0
Stands cs (touched.Ask q) y found fresh = y [] ≡ Asks (asked q cs) (λ d. y (d ∷ []))
Stands cs (touched.Cell n) y found fresh = y [] ≡ found n
Stands cs touched.New y found fresh = y [] ≡ fresh

-- the code of a run's body, and of a state's invariant
abbrev pub codes_of : Run → List (List Instr)
codes_of r = with_body r.code.funs (or_empty (slice_get r.code.calls r.call))

abbrev pub if_there : Option (Option (List Instr)) → List Instr
if_there (Some c) = or_empty c
if_there None = []

abbrev pub invariant_codes : Run → ℕ → List (List Instr)
invariant_codes r s = with_body [] (if_there (slice_get r.code.invariants s))

abbrev pub is_there : Option (Option (List Instr)) → Bool
is_there (Some (Some c)) = true
is_there (Some None) = false
is_there None = false

module _ (t : Tables) (ps : List Term) where
  module _ (r : Run) where
    -- a plan of the run
    abbrev pub goes : Plan → CellTable → Telling
    goes = play (invariants_of t ps) r.order

    -- what is done with a touched cell by its number
    abbrev pub used : Use → Used
    used goal.Reads n cs = goes (handed_in (codes_of r) r.decider.machine (term_in r.order cs n) ps) cs
    used (goal.Writes x) n cs = goes (doing (codes_of r) r.decider ps) (with_term r.order n x cs)

    abbrev pub adds_with : Option Invariant → Touch → CellTable → Telling
    adds_with (Some i) x cs = added i (place x.state x.key) cs (used x.goal)
    adds_with None x cs = Ends (Blocked cs)

    -- of so many cells the last one
    abbrev pub used_last : Use → Used
    used_last u zero cs = Ends (Blocked cs)
    used_last u (suc n) cs = used u n cs

    -- a cell that is none of those touched
    abbrev pub adds : Touch → CellTable → Telling
    adds x cs = adds_with (invariants_of t ps x.state) x cs

    -- a touch in its midst
    abbrev pub touches : Touch → List ℕ → CellTable → Telling
    touches x answers cs =
        touch_after cs (place x.state x.key) answers (λ n. used x.goal n cs) (adds x cs)

    abbrev pub at_phase : Phase → CellTable → Telling
    at_phase phase.Goes cs = goes (doing (codes_of r) r.decider ps) cs
    at_phase (phase.Touches x) cs = touches x x.answers cs
    at_phase (phase.Told x a) cs = touches x (x.answers ++ a ∷ []) cs
    at_phase (phase.Checks s d u) cs =
        checking (doing (invariant_codes r s) d ps) cs (used_last u (length cs.places) cs)
    at_phase (phase.Replied v) cs = Ends (Replied v cs)
    at_phase phase.Blocked cs = Ends (Blocked cs)

  -- what a run still asks, with the cells so far
  abbrev pub telling : Run → CellTable → Telling
  telling r cs = at_phase r r.phase cs

-- what comes after an outcome
abbrev pub told_after : Telling → ℕ → Telling
told_after (Asks q f) d = f d
told_after (Needs p f) d = Needs p f
told_after (Ends e) d = Ends e

-- a run has come to this, with these cells
abbrev pub Comes : Ask → CellTable → Telling → Type 0
Comes (ask.Question q) cs s = s ≡ Asks (asked q cs) (told_after s)
Comes (ask.Reply v) cs s = s ≡ Ends (Replied v cs)
Comes ask.Blocked cs s = s ≡ Ends (Blocked cs)
Comes ask.Cells cs s = (cell_limit ≤ length cs.places) × (p : Place) × (f : Term → Telling) × (s ≡ Needs p f)

abbrev pub ComesIf : Option Ask → CellTable → Telling → Type 0
ComesIf (Some a) cs s = Comes a cs s
ComesIf None cs s = Unit {0}

-- the facts were asked for no cell from this number on
abbrev pub IsRoomy : List Piece → ℕ → Type 0
IsRoomy pieces n = (i : ℕ) → n ≤ i → IsNew pieces (root.Cell i)

-- something was asked with these cells, and no outcome is there
abbrev pub IsAskedWith : Phase → Decider → CellTable → Type 0
IsAskedWith (phase.Touches x) d cs =
    (q : Question) × (touched.Ask q ≡ next_of cs.places (place x.state x.key) x.answers)
IsAskedWith phase.Goes d cs = deciding.IsAsking d.waits
IsAskedWith (phase.Told x a) d cs = ⊥
IsAskedWith (phase.Checks s c u) d cs = deciding.IsAsking c.waits
IsAskedWith (phase.Replied v) d cs = ⊥
IsAskedWith phase.Blocked d cs = ⊥

abbrev pub Awaits : Ask → Run → CellTable → Type 0
Awaits (ask.Question q) r cs = IsAskedWith r.phase r.decider cs
Awaits (ask.Reply v) r cs = Unit {0}
Awaits ask.Blocked r cs = Unit {0}
Awaits ask.Cells r cs = Unit {0}

abbrev pub AwaitsIf : Option Ask → Run → CellTable → Type 0
AwaitsIf (Some a) r cs = Awaits a r cs
AwaitsIf None r cs = Unit {0}

-- how much is left to do
abbrev pub decider_left : Run → ℕ
decider_left r = left_in (codes_of r) r.decider

abbrev pub phase_left : Phase → ℕ → ℕ
phase_left phase.Goes n = n + 1
phase_left (phase.Touches x) n = n + 3
phase_left (phase.Told x a) n = n + 4
phase_left (phase.Checks s d u) n = n + 2
phase_left (phase.Replied v) n = 0
phase_left phase.Blocked n = 0

abbrev pub left_of : Run → ℕ
left_of r = phase_left r.phase (4 * decider_left r)

abbrev pub LeftIf : Option Ask → ℕ → ℕ → Type 0
LeftIf (Some a) before later = Unit {0}
LeftIf None before later = later < before

-- of a state that is there
abbrev pub invariant_or_none : Option Invariant → Invariant
invariant_or_none (Some i) = i
invariant_or_none None = None

-- a run is at what it was at, where new cells have got their terms
abbrev pub Turned : Tables → Run → CellTable → Counts → List Piece → Run → CellTable → Counts → List Piece → Type 0
Turned t r cs c before s ds d after = (ps : List Term) → IsCodeOf t r.code → Extends (payloads_of after) ps →
    settled t cs.places c before (telling t ps r cs) ≡ settled t ds.places d after (telling t ps s ds)

-- where the touch that a run is in has come to
abbrev pub IsTouch : Touched → Phase → CellTable → Type 0
IsTouch n (phase.Touches x) cs = n ≡ next_of cs.places (place x.state x.key) x.answers
IsTouch n phase.Goes cs = ⊥
IsTouch n (phase.Told x a) cs = ⊥
IsTouch n (phase.Checks s d u) cs = ⊥
IsTouch n (phase.Replied v) cs = ⊥
IsTouch n phase.Blocked cs = ⊥

abbrev pub IsThere : {X : Type 0} → Option X → Type 0
IsThere (Some x) = Unit {0}
IsThere None = ⊥

-- the run asks the invariant of a new cell, which has come to this
abbrev pub IsChecking : Run → Reached → Phase → Type 0
IsChecking r e (phase.Checks s d u) = deciding.Awaits e d × deciding.AsksAt (invariant_codes r s) e d
IsChecking r e phase.Goes = ⊥
IsChecking r e (phase.Touches x) = ⊥
IsChecking r e (phase.Told x a) = ⊥
IsChecking r e (phase.Replied v) = ⊥
IsChecking r e phase.Blocked = ⊥

-- what is asked then
abbrev pub checks_as : Tables → List Term → Run → Reached → Phase → CellTable → Telling
checks_as t ps r e (phase.Checks s d u) cs =
    checking (deciding.reached (invariant_codes r s) e d ps) cs (used_last t ps r u (length cs.places) cs)
checks_as t ps r e phase.Goes cs = Ends (Blocked cs)
checks_as t ps r e (phase.Touches x) cs = Ends (Blocked cs)
checks_as t ps r e (phase.Told x a) cs = Ends (Blocked cs)
checks_as t ps r e (phase.Replied v) cs = Ends (Blocked cs)
checks_as t ps r e phase.Blocked cs = Ends (Blocked cs)
