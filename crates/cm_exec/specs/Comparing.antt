-- What a comparison in its midst still asks.
use Rattle.std.specs.Prelude.{◌≡◌, ◌<◌, ℕ, ◌+◌, Bool, true, false, List, [], ◌∷◌, ◌++◌, map, drop, reverse}
use Rattle.std.specs.Prelude.{slice_get, Option, Some, None}
use Rattle.cm_term.specs.declared.term.Term.{Term, out-Term}
use Rattle.cm_term.specs.declared.term.Term.TheOpen.{Term-F}
use Rattle.cm_term.specs.declared.term.Term.TheFolds.{fold-Term}
use Rattle.cm_exec.specs.Asking.{Asking, Stops, Says, Inspects, Meets, bound, Asker, payload_of, right_tag, tags_asked}
use Rattle.cm_exec.specs.Terms.{said_equal}
use Rattle.cm_exec.specs.Asking.{fields_asked, payloads_asked, right_option, options_asked, askers_below, asks_below}
use Rattle.cm_exec.specs.declared.comparison.Pair.{Pair}
use Rattle.cm_exec.specs.declared.comparison.Fields.{Fields}
use Rattle.cm_exec.specs.declared.comparison.Waiting.{Waiting}
use Rattle.cm_exec.specs.declared.comparison.Waiting.TheVariants as wait
use Rattle.cm_exec.specs.declared.comparison.Told.{Told}
use Rattle.cm_exec.specs.declared.comparison.Told.TheVariants as told
use Rattle.cm_exec.specs.declared.comparison.Looked.{Looked}
use Rattle.cm_exec.specs.declared.comparison.Looked.TheVariants as look
use Rattle.cm_exec.specs.declared.comparison.Landed.{Landed}
use Rattle.cm_exec.specs.declared.comparison.Landed.TheVariants as land
use Rattle.cm_exec.specs.declared.comparison.Step.{Step}
use Rattle.cm_exec.specs.declared.comparison.Step.TheVariants as step
use Rattle.cm_exec.specs.declared.comparison.Stage.{Stage}
use Rattle.cm_exec.specs.declared.comparison.Stage.TheVariants as stage
use Rattle.cm_exec.specs.declared.comparison.Met.{Met}
use Rattle.cm_exec.specs.declared.comparison.Met.TheVariants as meet
use Rattle.cm_exec.specs.declared.comparison.Comparison.{Comparison}

-- the longer list begins with the shorter one
abbrev pub Extends : List Term → List Term → Type 0
Extends ps qs = (more : List Term) × (qs ≡ ps ++ more)

-- what is asked after an outcome
abbrev pub answered : Asking → ℕ → Asking
answered (Inspects q f) d = f d
answered (Meets e f) d = f (said_equal e d)
answered Stops d = Stops
answered (Says b) d = Stops

module _ (ps : List Term) where
  -- what is asked of an option's payload
  abbrev pub asker_in : Option ℕ → Term-F Term → Option Asker
  asker_in n (Term-F.Some t) = Some (asks_below ps n t)
  asker_in n (Term-F.Either o) = slice_get (askers_below ps n) o.0
  asker_in n _ = None

  abbrev pub asker_of : Option ℕ → Term → Option Asker
  asker_of n t = asker_in n (out-Term t)

  abbrev pub looks : Pair → Asking
  looks p = asks_below ps p.below p.sides.left p.sides.right

  abbrev pub opens : Pair → Asking
  opens p = payloads_asked (asker_of p.below p.sides.left) (payload_of ps p.sides.right)

  abbrev pub waiting_for : Waiting → Asking
  waiting_for (wait.LeftTag a b) = tags_asked a b
  waiting_for (wait.RightTag d b) = right_tag d b
  waiting_for (wait.LeftOption l r p) =
      options_asked l r (asker_of p.below p.sides.left) (payload_of ps p.sides.right)
  waiting_for (wait.RightOption d r p) =
      right_option d r (asker_of p.below p.sides.left) (payload_of ps p.sides.right)
  waiting_for (wait.Equality e) = Meets e Says

  -- what is asked once an outcome is told
  abbrev pub told_as : Told → Asking
  told_as (told.Waits w) = waiting_for w
  told_as (told.Opens p) = opens p
  told_as (told.Said b) = Says b

  -- the fields of two records from a number on
  abbrev pub fields_of : Fields → Asking
  fields_of f = fields_asked (map (asks_below ps f.below) (drop f.at f.left)) (drop f.at f.right)

  -- the records that a comparison is in, the innermost first, where what came before is equal or not
  abbrev pub after : List Fields → Bool → Asking
  after fs false = Says false
  after [] true = Says true
  after (f ∷ fs) true = bound (fields_of f) (after fs)

  -- a comparison that is at something, the innermost record last
  abbrev pub at : List Fields → Asking → Asking
  at fs a = bound a (after (reverse fs))

  -- two terms that are looked at, or none where what came before is equal
  abbrev pub next_of : List Fields → Option Pair → Asking
  next_of fs (Some p) = at fs (looks p)
  next_of fs None = after (reverse fs) true

  abbrev pub looked : Looked → List Fields → Asking
  looked (look.Waits w) fs = at fs (waiting_for w)
  looked look.Deeper fs = after (reverse fs) true
  looked look.Stops fs = Stops

  abbrev pub landed_at : Landed → List Fields → Asking
  landed_at (land.Waits w) fs = at fs (waiting_for w)
  landed_at (land.Ended b) fs = Says b
  landed_at land.Stuck fs = Stops

  abbrev pub stepped : Step → List Fields → Asking
  stepped (step.Goes p) fs = next_of fs p
  stepped (step.Lands l) fs = landed_at l fs

  abbrev pub staged : Stage → List Fields → Asking
  staged (stage.Fresh p) fs = at fs (looks p)
  staged (stage.Asked w) fs = at fs (waiting_for w)
  staged (stage.Answered w d) fs = answered (at fs (waiting_for w)) d
  staged (stage.Ended b) fs = Says b
  staged stage.Stuck fs = Stops

  -- what a comparison still asks
  abbrev pub asking : Comparison → Asking
  asking c = staged c.stage c.frames

-- an option's payload, and below what its own options have variables
abbrev pub askers_of : List Term → Option (Term × Option ℕ) → Option Asker
askers_of ps (Some p) = Some (asks_below ps p.1 p.0)
askers_of ps None = None

-- a comparison is at what it met
abbrev pub Heads : Met → Asking → Type 0
Heads (meet.Inspects q) a = a ≡ Inspects q (answered a)
Heads (meet.Meets e) a = (f : Bool → Asking) × (a ≡ Meets e f)
Heads (meet.Says b) a = a ≡ Says b
Heads meet.Stops a = a ≡ Stops

-- an outcome is waited for
abbrev pub IsWaiting : Stage → Type 0
IsWaiting (stage.Asked w) = Unit {0}
IsWaiting _ = ⊥

-- something was asked
abbrev pub Awaits : Met → Stage → Type 0
Awaits (meet.Inspects q) s = IsWaiting s
Awaits (meet.Meets e) s = s ≡ stage.Asked (wait.Equality e)
Awaits (meet.Says b) s = Unit {0}
Awaits meet.Stops s = Unit {0}

-- the same where it has landed
abbrev pub IsAwaited : Landed → Type 0
IsAwaited (land.Waits w) = Unit {0}
IsAwaited (land.Ended b) = ⊥
IsAwaited land.Stuck = ⊥

abbrev pub AwaitsAt : Met → Landed → Type 0
AwaitsAt (meet.Inspects q) l = IsAwaited l
AwaitsAt (meet.Meets e) l = l ≡ land.Waits (wait.Equality e)
AwaitsAt (meet.Says b) l = Unit {0}
AwaitsAt meet.Stops l = Unit {0}

-- a variable is below a number, if there is one
abbrev pub IsBelow : ℕ → Option ℕ → Type 0
IsBelow o (Some n) = o < n
IsBelow o None = Unit {0}

-- how much is left to look at before something is asked
abbrev pub all_weights : List ℕ → ℕ
all_weights [] = 0
all_weights (w ∷ ws) = 1 + w + all_weights ws

abbrev pub weight_step : Term-F ℕ → ℕ
weight_step (Term-F.Rec ws) = 2 + all_weights ws
weight_step _ = 1

abbrev pub weight : Term → ℕ
weight = fold-Term ℕ weight_step

abbrev pub frame_weight : Fields → ℕ
frame_weight f = 1 + all_weights (map weight (drop f.at f.left))

abbrev pub frames_weight : List Fields → ℕ
frames_weight [] = 0
frames_weight (f ∷ fs) = frame_weight f + frames_weight fs

abbrev pub next_weight : Option Pair → ℕ
next_weight (Some p) = weight p.sides.left
next_weight None = 0

-- what is left goes down, also before an outcome is told
abbrev pub LandsDown : ℕ → Landed → List Fields → Type 0
LandsDown n (land.Waits w) fs = frames_weight (reverse fs) < n
LandsDown n (land.Ended b) fs = Unit {0}
LandsDown n land.Stuck fs = Unit {0}

abbrev pub GoesDown : ℕ → Step → List Fields → Type 0
GoesDown n (step.Goes p) fs = next_weight p + frames_weight (reverse fs) < n
GoesDown n (step.Lands l) fs = LandsDown n l fs

-- the same of a look
abbrev pub GoesDeeper : ℕ → Looked → List Fields → Type 0
GoesDeeper n look.Deeper fs = frames_weight (reverse fs) < n
GoesDeeper n (look.Waits w) fs = frames_weight (reverse fs) < n
GoesDeeper n look.Stops fs = Unit {0}

-- the same of two that meet
abbrev pub MeetsDown : ℕ → Met → List Fields → Type 0
MeetsDown n (meet.Meets e) fs = frames_weight (reverse fs) < n
MeetsDown n (meet.Inspects q) fs = Unit {0}
MeetsDown n (meet.Says b) fs = Unit {0}
MeetsDown n meet.Stops fs = Unit {0}

-- what was met is no equality
abbrev pub IsNoMeeting : Met → Type 0
IsNoMeeting (meet.Meets e) = ⊥
IsNoMeeting (meet.Inspects q) = Unit {0}
IsNoMeeting (meet.Says b) = Unit {0}
IsNoMeeting meet.Stops = Unit {0}

-- how many may still meet
abbrev pub meeting_weight : Met → List Fields → ℕ
meeting_weight (meet.Meets e) fs = 1 + frames_weight (reverse fs)
meeting_weight (meet.Inspects q) fs = 0
meeting_weight (meet.Says b) fs = 0
meeting_weight meet.Stops fs = 0
