-- What both orders of a pair and the last comparison still ask, where one stands in their midst.
use Rattle.std.specs.Prelude.{◌≡◌, ◌<◌, ◌≤◌, ℕ, List, length, Option, Some, None}
use Rattle.cm_model.specs.Limits.{cell_limit}
use Rattle.cm_model.specs.Tables.{Tables}
use Rattle.cm_eval.specs.Compiled.{IsCodeOf}
use Rattle.cm_term.specs.declared.question.Question.{Question}
use Rattle.cm_term.specs.declared.question.Fact.{Fact}
use Rattle.cm_term.specs.declared.term.Term.{Term}
use Rattle.cm_cells.specs.declared.order.Order.TheVariants as order
use Rattle.cm_cells.specs.CellTable.{CellTable, Place, started_anew}
use Rattle.cm_ctx.specs.declared.piece.Counts.{Counts}
use Rattle.cm_ctx.specs.declared.piece.Piece.{Piece}
use Rattle.cm_ctx.specs.Contexts.{payloads_of}
use Rattle.cm_story.specs.Tale.{Asks, Needs, Ends}
use Rattle.cm_exec.specs.declared.run.Ask.{Ask as Met}
use Rattle.cm_exec.specs.declared.compare.Next.{Next}
use Rattle.cm_exec.specs.Comparing.{Extends}
use Rattle.cm_exec.specs.Settling.{settling_of}
use Rattle.cm_exec.specs.Settling as settle
use Rattle.cm_exec.specs.Pairing.{settling}
use Rattle.cm_exec.specs.Pairing as pairing
use Rattle.cm_exec.specs.Run.{asked, tale_of}
use Rattle.cm_exec.specs.Running.{telling, told_after, IsAskedWith}
use Rattle.cm_exec.specs.Running as running
use Rattle.cm_beside.specs.Beside.{PairTale, followed_by, settles, compared}
use Rattle.cm_beside.specs.Nodes.{after}
use Rattle.cm_beside.specs.Standing.{beyond}
use Rattle.cm_chain.specs.declared.chain.Ask.{Ask}
use Rattle.cm_chain.specs.declared.chain.Ask.TheVariants as ask
use Rattle.cm_chain.specs.declared.chain.Calls.{Calls}
use Rattle.cm_chain.specs.declared.chain.Chain.{Chain}
use Rattle.cm_chain.specs.declared.chain.Replies.{Replies}
use Rattle.cm_chain.specs.declared.chain.Replies.TheVariants as replies
use Rattle.cm_chain.specs.declared.chain.Stage.{Stage}
use Rattle.cm_chain.specs.declared.chain.Stage.TheVariants as stage

module _ (t : Tables) (c : Calls) (ps : List Term) where
  -- behind all four runs: the last comparison
  abbrev pub behind_three : Term → Term → Term → Term → CellTable → PairTale
  behind_three v w x y cs = settles cs (settling_of ps (compared v w x y cs))

  -- behind b in the other order
  abbrev pub behind_two : Term → Term → Term → CellTable → PairTale
  behind_two v w x cs = followed_by (tale_of t c.pair.a c.a order.Ba ps cs) (behind_three v w x)

  -- behind b
  abbrev pub behind_one : Term → Term → CellTable → PairTale
  behind_one v w cs =
      followed_by (tale_of t c.pair.b c.b order.Ba ps (started_anew order.Ba cs)) (behind_two v w)

  -- behind a
  abbrev pub behind_none : Term → CellTable → PairTale
  behind_none v cs = followed_by (tale_of t c.pair.b c.b order.Ab ps cs) (behind_one v)

  -- what comes behind the run that goes on, where these replied before it
  abbrev pub behind : Replies → Term → CellTable → PairTale
  behind replies.None v cs = behind_none v cs
  behind (replies.One v) w cs = behind_one v w cs
  behind (replies.Two v w) x cs = behind_two v w x cs
  behind (replies.Three v w x) y cs = behind_three v w x y cs

  abbrev pub at_stage : Replies → Stage → CellTable → PairTale
  at_stage k (stage.Runs r) cs = followed_by (telling t ps r cs) (behind k)
  at_stage k (stage.Compares e) cs = settles cs (settling ps e)
  at_stage k (stage.Ended w) cs = Ends w

-- what a chain still asks, with the cells so far
abbrev pub left : Tables → List Term → Chain → CellTable → PairTale
left t ps x cs = at_stage t x.calls ps x.replies x.stage cs

-- what comes after an outcome
abbrev pub told : PairTale → ℕ → PairTale
told (Asks a f) d = f d
told (Needs p f) d = Needs p f
told (Ends w) d = Ends w

-- the run that goes on has the model's code
abbrev pub HasCode : Tables → Stage → Type 0
HasCode t (stage.Runs r) = IsCodeOf t r.code
HasCode t (stage.Compares e) = Unit {0}
HasCode t (stage.Ended w) = Unit {0}

pub record IsCoded (t : Tables) (x : Chain) : Type 0 where
  pub code : IsCodeOf t x.calls.code
  pub runs : HasCode t x.stage

-- a question was asked with these cells, and no outcome is there
abbrev pub IsAskedAt : Tables → Question → Stage → CellTable → Type 0
IsAskedAt t q (stage.Runs r) cs =
    IsAskedWith r.phase r.decider cs
    × ((ps : List Term) → IsCodeOf t r.code → telling t ps r cs ≡ Asks (asked q cs) (told_after (telling t ps r cs)))
IsAskedAt t q (stage.Compares e) cs =
    pairing.IsAsking e.progress
    × ((ps : List Term) → settling ps e ≡ settle.Asks q (settle.settling_after (settling ps e)))
IsAskedAt t q (stage.Ended w) cs = ⊥

abbrev pub IsEnded : Stage → Type 0
IsEnded (stage.Runs r) = ⊥
IsEnded (stage.Compares e) = ⊥
IsEnded (stage.Ended w) = Unit {0}

-- a chain has come to this, with these cells
abbrev pub Comes : Tables → Ask → Chain → CellTable → Type 0
Comes t (ask.Question q) x cs = IsAskedAt t q x.stage cs
Comes t ask.Ended x cs = IsEnded x.stage
Comes t ask.Cells x cs =
    (cell_limit ≤ length cs.places)
    × ((ps : List Term) → (p : Place) × (f : Term → PairTale) × (left t ps x cs ≡ Needs p f))

abbrev pub ComesIf : Tables → Option Ask → Chain → CellTable → Type 0
ComesIf t (Some a) x cs = Comes t a x cs
ComesIf t None x cs = Unit {0}

-- a run has come to this, with these cells
abbrev pub HasMet : Tables → Met → Stage → CellTable → Type 0
HasMet t m (stage.Runs r) cs =
    ((ps : List Term) → IsCodeOf t r.code → running.Comes m cs (telling t ps r cs)) × running.Awaits m r cs
HasMet t m (stage.Compares e) cs = ⊥
HasMet t m (stage.Ended w) cs = ⊥

-- the last comparison has come to this
abbrev pub HasSettled : Next → Stage → Type 0
HasSettled n (stage.Compares e) = ((ps : List Term) → pairing.Comes n (settling ps e)) × pairing.Awaits n e.progress
HasSettled n (stage.Runs r) = ⊥
HasSettled n (stage.Ended w) = ⊥

-- whatever is answered, two tales go on alike, each behind its cells
pub record GoOnAlike (t : Tables) (places : List Place) (c : Counts) (s : PairTale) (others : List Place) (d : Counts)
    (u : PairTale) : Type 0 where
  pub alike : (facts : List Fact) (more : List ℕ)
      → beyond facts places (after t s c (length places) more)
      ≡ beyond facts others (after t u d (length others) more)

-- a chain is at what it was at, where new cells have got their terms
abbrev pub Moved : Tables → Chain → CellTable → Counts → Chain → CellTable → Counts → List Piece → Type 0
Moved t x cs c y ds d pieces =
    (ps : List Term) → Extends (payloads_of pieces) ps
    → GoOnAlike t cs.places c (left t ps x cs) ds.places d (left t ps y ds)

-- how many stages are left
abbrev pub runs_left : Replies → ℕ
runs_left replies.None = 5
runs_left (replies.One v) = 4
runs_left (replies.Two v w) = 3
runs_left (replies.Three v w x) = 2

abbrev pub stages_left : Replies → Stage → ℕ
stages_left k (stage.Runs r) = runs_left k
stages_left k (stage.Compares e) = 1
stages_left k (stage.Ended w) = 0

-- where it goes on, fewer are left
abbrev pub FallsIf : Option Ask → Chain → Chain → Type 0
FallsIf (Some a) x y = Unit {0}
FallsIf None x y = stages_left y.replies y.stage < stages_left x.replies x.stage
