-- What comes after an outcome is what was waited for.
use Rattle.std.proofs.Common.{◌≡◌, ℕ, Bool, List, Option, refl}
use Rattle.cm_code.specs.declared.instr.Instr.{Instr}
use Rattle.cm_code.specs.declared.event.Machine.{Machine}
use Rattle.cm_term.specs.declared.term.Term.{Term}
use Rattle.cm_cells.specs.CellTable.{CellTable}
use Rattle.cm_cells.specs.declared.order.Order.{Order}
use Rattle.cm_exec.specs.declared.operand.Operand.{Operand}
use Rattle.cm_exec.specs.declared.comparison.Fields.{Fields}
use Rattle.cm_exec.specs.declared.comparison.Stage.{Stage}
use Rattle.cm_exec.specs.declared.comparison.Stage.TheVariants as stage
use Rattle.cm_exec.specs.declared.comparison.Waiting.TheVariants as wait
use Rattle.cm_exec.specs.declared.decider.Decision.{Decision}
use Rattle.cm_exec.specs.declared.decider.Decision.TheVariants as decision
use Rattle.cm_exec.specs.declared.decider.Waits.{Waits}
use Rattle.cm_exec.specs.declared.decider.Waits.TheVariants as waits
use Rattle.cm_exec.specs.Terms.{Plan, played}
use Rattle.cm_exec.specs.Comparing.{staged, IsWaiting}
use Rattle.cm_exec.specs.Deciding.{after, decides, awaited, IsAsking}
use Rattle.cm_exec.specs.Run.{Telling, Invariant, play, checking}
use Rattle.cm_exec.specs.Running.{told_after}

-- a plan that stands at a decision
abbrev Stands : Plan → Type 0
Stands s = ((inv : ℕ → Option Invariant) (o : Order) (cs : CellTable) (d : ℕ)
    → play inv o (after s d) cs ≡ told_after (play inv o s cs) d)
    × ((cs : CellTable) (more : Telling) (d : ℕ) → checking (after s d) cs more ≡ told_after (checking s cs more) d)

module _ (codes : List (List Instr)) (m : Machine Term Operand) (ps : List Term) where
  decided : (x : Decision) → Stands (decides codes m x ps)
  decided (decision.Bool a t) = (λ inv o cs d. refl, λ cs more d. refl)
  decided (decision.Equality a b t) = (λ inv o cs d. refl, λ cs more d. refl)
  decided (decision.Order a b k) = (λ inv o cs d. refl, λ cs more d. refl)
  decided (decision.Range lo hi a) = (λ inv o cs d. refl, λ cs more d. refl)
  decided (decision.Presence o t n) = (λ inv p cs d. refl, λ cs more d. refl)

  compared : (s : Stage) (fs : List Fields) (k : Bool → Plan) → IsWaiting s → Stands (played (staged ps s fs) k)
  compared (stage.Asked (wait.LeftTag a b)) fs k is = (λ inv o cs d. refl, λ cs more d. refl)
  compared (stage.Asked (wait.RightTag c b)) fs k is = (λ inv o cs d. refl, λ cs more d. refl)
  compared (stage.Asked (wait.LeftOption l r p)) fs k is = (λ inv o cs d. refl, λ cs more d. refl)
  compared (stage.Asked (wait.RightOption c r p)) fs k is = (λ inv o cs d. refl, λ cs more d. refl)
  compared (stage.Asked (wait.Equality e)) fs k is = (λ inv o cs d. refl, λ cs more d. refl)
  compared (stage.Fresh p) fs k is = absurd is
  compared (stage.Answered w d) fs k is = absurd is
  compared (stage.Ended b) fs k is = absurd is
  compared stage.Stuck fs k is = absurd is

  pub stands_asking : (w : Waits) → IsAsking w → Stands (awaited codes m w ps)
  stands_asking (waits.Asked x) is = decided x
  stands_asking (waits.Comparing c t) is = compared c.stage c.frames _ is
  stands_asking waits.Nothing is = absurd is
  stands_asking (waits.Answered x d) is = absurd is
