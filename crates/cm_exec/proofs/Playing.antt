-- A comparison that is played in a plan, by what it has met.
use Rattle.std.proofs.Common.{◌≡◌, ◌<◌, ◌≤◌, ◌+◌, ◌*◌, ℕ, Bool, List, Some, refl, sym, ap, subst, arith}
use Rattle.cm_code.specs.declared.instr.Instr.{Instr}
use Rattle.cm_eval.specs.Script.{Decides, Blocks}
use Rattle.cm_term.specs.declared.question.Question.{Question}
use Rattle.cm_term.specs.declared.question.Equal.{Equal}
use Rattle.cm_exec.specs.Asking.{Asking, Stops, Says, Inspects, Meets}
use Rattle.cm_exec.specs.Terms.{Plan, played, question_of}
use Rattle.cm_exec.specs.Comparing.{answered}
use Rattle.cm_exec.specs.declared.decider.Decider.{Decider}
use Rattle.cm_exec.specs.declared.decider.Reached.TheVariants as reach
use Rattle.cm_exec.specs.declared.decider.Turned.{Turned}
use Rattle.cm_exec.specs.declared.decider.Turned.TheVariants as turn
use Rattle.cm_exec.specs.Deciding.{after, GoesDown}
use Rattle.cm_exec.specs.declared.operand.Operand.{Operand}
use Rattle.cm_term.specs.declared.term.Term.{Term}
use Rattle.cm_code.specs.declared.event.Event.{Event}
use Rattle.cm_code.specs.declared.event.Event.TheVariants as event
use Rattle.cm_code.specs.declared.event.Machine.{Machine}
use Rattle.cm_code.specs.Steps.{steps_left, Falls}

-- the run is not blocked
abbrev pub IsHeld : Event Term Operand → Type 0
IsHeld event.Blocks = ⊥
IsHeld _ = Unit {0}

pub inspected : (a : Asking) (q : Question) (k : Bool → Plan) → a ≡ Inspects q (answered a)
    → played a k ≡ Decides q (after (played a k))
inspected a q k e = subst (λ b. played b k ≡ Decides q (after (played b k))) (sym e) refl

pub meets : (a : Asking) (q : Equal) (f : Bool → Asking) (k : Bool → Plan) → a ≡ Meets q f
    → played a k ≡ Decides (question_of q) (after (played a k))
meets a q f k e = subst (λ b. played b k ≡ Decides (question_of q) (after (played b k))) (sym e) refl

pub says : (a : Asking) (b : Bool) (k : Bool → Plan) → a ≡ Says b → played a k ≡ k b
says a b k e = ap (λ c. played c k) e

pub stops : (a : Asking) (k : Bool → Plan) → a ≡ Stops → played a k ≡ Blocks
stops a k e = ap (λ c. played c k) e

-- less than less
pub goes_further : (codes : List (List Instr)) (n m : ℕ) (r : Turned) (d : Decider) → n ≤ m → GoesDown codes n r d
    → GoesDown codes m r d
goes_further codes n m turn.On d le h = omega (arith, le, h)
goes_further codes n m (turn.To (reach.Asks q)) d le h = h
goes_further codes n m (turn.To (reach.Reads s c)) d le h = omega (arith, le, h)
goes_further codes n m (turn.To (reach.Writes s c t)) d le h = omega (arith, le, h)
goes_further codes n m (turn.To (reach.Replies t)) d le h = h
goes_further codes n m (turn.To reach.Blocks) d le h = h

-- behind an event there is less to do than before
pub fell : (codes : List (List Instr)) (n k : ℕ) (m : Machine Term Operand) (e : Event Term Operand) (r : Turned)
    (d : Decider) → Falls codes n (Some e) m → IsHeld e → k ≡ steps_left codes m → GoesDown codes (2 * k + 2) r d
    → GoesDown codes (2 * n) r d
fell codes n k m e r d falls held same h =
    goes_further codes (2 * k + 2) (2 * n) r d (omega (arith, same, less e held falls)) h
  where
    less : (e : Event Term Operand) → IsHeld e → Falls codes n (Some e) m → steps_left codes m < n
    less (event.Inspects o t) held f = f
    less (event.Compares x y t) held f = f
    less (event.Orders x y k) held f = f
    less (event.Into lo hi o) held f = f
    less (event.Opens v n) held f = f
    less (event.Reads s c) held f = f
    less (event.Writes s c v) held f = f
    less (event.Replies v) held f = f
    less event.Blocks held f = absurd held
