-- What a machine's state stands for: what is left of a run.
use Rattle.std.specs.Prelude.{◌≡◌, ℕ, ◌==◌, Bool, not, List, [], ◌∷◌, ◌++◌, drop, take}
use Rattle.std.specs.Prelude.{reverse, Option, Some, None, slice_get, if◌then◌else◌}
use Rattle.cm_model.specs.declared.body.Op.{Op}
use Rattle.cm_model.specs.declared.body.Op.TheVariants as op
use Rattle.cm_code.specs.declared.instr.Instr.{Instr}
use Rattle.cm_code.specs.declared.event.Then.{Then}
use Rattle.cm_code.specs.declared.event.Then.TheVariants as after
use Rattle.cm_code.specs.declared.event.Ranked.{Ranked}
use Rattle.cm_code.specs.declared.event.Ranked.TheVariants as ranked
use Rattle.cm_code.specs.declared.event.Event.{Event}
use Rattle.cm_code.specs.declared.event.Event.TheVariants as event
use Rattle.cm_code.specs.declared.event.Did.{Did}
use Rattle.cm_code.specs.declared.event.Did.TheVariants as did
use Rattle.cm_code.specs.declared.event.Frame.{Frame}
use Rattle.cm_code.specs.declared.event.Machine.{Machine}
use Rattle.cm_code.specs.Rules.{Rules}
use Rattle.cm_code.specs.Language.{Called, given, fun_at}
use Rattle.cm_code.specs.Code.{Point, next_of, next_with, behind_by, opened, places}
use Rattle.cm_code.specs.Code.{codes_from, instr_of, one, one_value, two, many, key_on}

abbrev pub or_empty : Option (List Instr) → List Instr
or_empty (Some c) = c
or_empty None = []

-- the code with a number
abbrev pub code_at : List (List Instr) → ℕ → List Instr
code_at codes f = or_empty (slice_get codes f)

-- the codes of functions, and that of a body that may call them
abbrev pub with_body : List (List Instr) → List Instr → List (List Instr)
with_body funs body = funs ++ body ∷ []

-- whether an order is one of those that are true
abbrev pub is_ranked : Ranked → ℕ → Bool
is_ranked ranked.Less d = d == 0
is_ranked ranked.NotMore d = not (d == 2)
is_ranked ranked.More d = d == 2
is_ranked ranked.NotLess d = not (d == 0)

-- what is compared, by one of the six comparisons
abbrev pub compared_by : {V O : Type 0} → Op → O → O → Event V O
compared_by op.Eq x y = event.Compares x y after.Flag
compared_by op.Ne x y = event.Compares x y after.Not
compared_by op.Lt x y = event.Orders x y ranked.Less
compared_by op.Le x y = event.Orders x y ranked.NotMore
compared_by op.Gt x y = event.Orders x y ranked.More
compared_by op.Ge x y = event.Orders x y ranked.NotLess

module _ (V O S : Type 0) (r : Rules V O S) where
  -- what is done with a bool, with these places behind the instruction
  abbrev pub then_of : Then → List (Point V O S) → List O → List V → (V → S) → Bool → S
  then_of after.Flag behind ops locals ret s = next_with V O S r behind (r.flag s) ops locals ret
  then_of after.Not behind ops locals ret s = next_with V O S r behind (r.flag (not s)) ops locals ret
  then_of (after.Unless n) behind ops locals ret s =
      if s then next_of V O S r behind ops locals ret else behind_by V O S r behind n ops locals ret
  then_of (after.When n) behind ops locals ret s =
      if s then behind_by V O S r behind n ops locals ret else next_of V O S r behind ops locals ret
  then_of after.Assume behind ops locals ret s = if s then next_of V O S r behind ops locals ret else r.blocks

  -- what is done with an order
  abbrev pub ranked_of : Ranked → List (Point V O S) → List O → List V → (V → S) → ℕ → S
  ranked_of k behind ops locals ret d = next_with V O S r behind (r.flag (is_ranked k d)) ops locals ret

  -- what is done at an event
  abbrev pub event_at : Event V O → List (Point V O S) → List O → List V → (V → S) → S
  event_at (event.Inspects o t) behind ops locals ret = r.inspects o (then_of t behind ops locals ret)
  event_at (event.Compares x y t) behind ops locals ret = r.compares x y (then_of t behind ops locals ret)
  event_at (event.Orders x y k) behind ops locals ret = r.orders x y (ranked_of k behind ops locals ret)
  event_at (event.Into lo hi o) behind ops locals ret = r.into lo hi o (λ v. next_with V O S r behind v ops locals ret)
  event_at (event.Opens v n) behind ops locals ret = r.opens v (opened V O S r n behind ops locals ret)
  event_at (event.Reads s c) behind ops locals ret = r.reads s c (λ v. next_with V O S r behind v ops locals ret)
  event_at (event.Writes s c v) behind ops locals ret = r.writes s c v (next_of V O S r behind ops locals ret)
  event_at (event.Replies v) behind ops locals ret = r.replies v
  event_at event.Blocks behind ops locals ret = r.blocks

  -- what is left of an instruction after the operands and locals were changed
  abbrev pub did_of : Did V O → List (Called V S) → List (Point V O S) → List O → List V → (V → S) → S
  did_of did.Next funs behind ops locals ret = next_of V O S r behind ops locals ret
  did_of (did.Over n) funs behind ops locals ret = behind_by V O S r behind n ops locals ret
  did_of (did.Stops e) funs behind ops locals ret = event_at e behind ops locals ret
  did_of (did.Calls f args) funs behind ops locals ret =
      fun_at V O S r funs f args (λ v. next_with V O S r behind v ops locals ret)
  did_of (did.Returns v) funs behind ops locals ret = ret v

  -- what came of an instruction, with the operands and locals before and after it
  abbrev pub Operates : Instr → List O → List V → Did V O → List O → List V → Type 0
  Operates i before locals d ops more = (funs : List (Called V S)) (behind : List (Point V O S)) (ret : V → S)
      → instr_of V O S r funs i behind (reverse before) locals ret ≡ did_of d funs behind (reverse ops) more ret

  -- the same where the locals stay
  abbrev pub OnOperands : Instr → List O → Did V O → List O → Type 0
  OnOperands i before d ops = (locals : List V) → Operates i before locals d ops locals

  -- what comes of a value that there may be, as another operand
  abbrev pub Given : Option V → List O → Did V O → List O → Type 0
  Given o before d ops = (funs : List (Called V S)) (behind : List (Point V O S)) (locals : List V) (ret : V → S)
      → given V O S r o (λ v. next_with V O S r behind v (reverse before) locals ret)
      ≡ did_of d funs behind (reverse ops) locals ret

  -- what comes of the inspection of the topmost operand
  abbrev pub Inspects : Then → List O → Did V O → List O → Type 0
  Inspects t before d ops = (funs : List (Called V S)) (behind : List (Point V O S)) (locals : List V) (ret : V → S)
      → one V O S r (reverse before) (λ o rest. r.inspects o (then_of t behind rest locals ret))
      ≡ did_of d funs behind (reverse ops) locals ret

  -- the topmost operand, which is a value
  abbrev pub TakesValue : List O → Option V → List O → Type 0
  TakesValue before (Some v) ops = (k : V → List O → S) → one_value V O S r (reverse before) k ≡ k v (reverse ops)
  TakesValue before None ops = (k : V → List O → S) → one_value V O S r (reverse before) k ≡ r.blocks

  -- the two topmost operands, the lower one first
  abbrev pub TakesTwo : List O → Option (O × O) → List O → Type 0
  TakesTwo before (Some p) ops = reverse before ≡ p.1 ∷ p.0 ∷ reverse ops
  TakesTwo before None ops = (k : O → O → List O → S) → two V O S r (reverse before) k ≡ r.blocks

  -- the n topmost, which are values
  abbrev pub TakesMany : ℕ → List O → Option (List V) → List O → Type 0
  TakesMany n before (Some args) ops =
      (k : List V → List O → S) → many V O S r n (reverse before) [] k ≡ k args (reverse ops)
  TakesMany n before None ops = (k : List V → List O → S) → many V O S r n (reverse before) [] k ≡ r.blocks

  -- a key, where there is one
  abbrev pub TakesKey : Bool → List O → Option (Option V) → List O → Type 0
  TakesKey keyed before (Some c) ops =
      (k : Option V → List O → S) → key_on V O S r keyed (reverse before) k ≡ k c (reverse ops)
  TakesKey keyed before None ops = (k : Option V → List O → S) → key_on V O S r keyed (reverse before) k ≡ r.blocks

  -- the meanings of the functions before one
  abbrev pub before : List (List Instr) → ℕ → List (Called V S)
  before codes f = codes_from V O S r [] (take f codes)

  -- the places of a code from one on
  abbrev pub places_from : List (List Instr) → ℕ → ℕ → List (Point V O S)
  places_from codes f n = places V O S r (before codes f) (drop n (code_at codes f)) []

  -- a frame goes on at its place
  abbrev pub resumed : List (List Instr) → Frame V O → List O → (V → S) → S
  resumed codes f ops ret = next_of V O S r (places_from codes f.fun f.at) ops f.locals ret

  -- a return to the innermost of these frames
  abbrev pub returns : List (List Instr) → List (Frame V O) → V → S
  returns codes [] v = r.replies v
  returns codes (f ∷ fs) v = resumed codes f (r.plain v ∷ reverse f.operands) (returns codes fs)

  -- what is done where the machine's code ends with a reply
  abbrev pub ending : List (List Instr) → Machine V O → V → S
  ending codes m = returns codes (reverse m.callers)

  -- what is left of the run
  abbrev pub script : List (List Instr) → Machine V O → S
  script codes m = resumed codes m.top (reverse m.top.operands) (ending codes m)

  -- the same where a value, a bool, an order, a payload is waited for
  abbrev pub handed : List (List Instr) → Machine V O → V → S
  handed codes m v = resumed codes m.top (r.plain v ∷ reverse m.top.operands) (ending codes m)

  abbrev pub told : List (List Instr) → Machine V O → Then → Bool → S
  told codes m t =
      then_of t (places_from codes m.top.fun m.top.at) (reverse m.top.operands) m.top.locals (ending codes m)

  abbrev pub ranked_in : List (List Instr) → Machine V O → Ranked → ℕ → S
  ranked_in codes m k =
      ranked_of k (places_from codes m.top.fun m.top.at) (reverse m.top.operands) m.top.locals (ending codes m)

  abbrev pub opened_in : List (List Instr) → Machine V O → ℕ → Option V → S
  opened_in codes m n =
      opened V O S r n (places_from codes m.top.fun m.top.at) (reverse m.top.operands) m.top.locals (ending codes m)

  -- what a machine came to
  abbrev pub event_of : List (List Instr) → Event V O → Machine V O → S
  event_of codes e m =
      event_at e (places_from codes m.top.fun m.top.at) (reverse m.top.operands) m.top.locals (ending codes m)

  abbrev pub stepped : List (List Instr) → Option (Event V O) → Machine V O → S
  stepped codes (Some e) m = event_of codes e m
  stepped codes None m = script codes m

  -- what is left of an instruction, where the machine stands behind it
  abbrev pub did_in : List (List Instr) → Did V O → Machine V O → S
  did_in codes d m =
      did_of d (before codes m.top.fun) (places_from codes m.top.fun m.top.at) (reverse m.top.operands) m.top.locals
      (ending codes m)
