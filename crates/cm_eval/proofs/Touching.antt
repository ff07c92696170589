-- What a touch makes of a read and of a write, and an invariant's run beside what is asked of it.
use Rattle.std.proofs.Common.{◌≡◌, ℕ, zero, suc, Bool, true, false, List, [], ◌∷◌, ◌++◌, map, Option, Some, None}
use Rattle.std.proofs.Common.{IsTrue, ◌↔◌, slice_get, refl, sym, ap, ◌∙◌, if◌then◌else◌}
use Rattle.cm_model.specs.Tables.{Tables}
use Rattle.cm_model.specs.declared.ty.IntDecl.{IntDecl}
use Rattle.cm_model.specs.declared.body.Expr.{Expr}
use Rattle.cm_model.specs.declared.body.StateDecl.{StateDecl}
use Rattle.cm_value.specs.declared.value.Value.{Value}
use Rattle.cm_code.specs.declared.instr.Instr.{Instr}
use Rattle.cm_code.specs.Compiling.{invariant_code}
use Rattle.cm_eval.specs.declared.code.Code.{Code}
use Rattle.cm_eval.specs.declared.log.CellName.{CellName}
use Rattle.cm_eval.specs.declared.log.Log.{Log}
use Rattle.cm_eval.specs.Script.{Replies, Blocks, Decides, Reads, Writes}
use Rattle.cm_eval.specs.State.{Store, Touched, store, look_up, put, marked}
use Rattle.cm_eval.specs.Evaluation.{Doing, invariant_of}
use Rattle.cm_eval.specs.Run.{Trace, Replied, End, Ended, Stopped, logged, run, touched_at, touched_with, asked}
use Rattle.cm_eval.specs.Run.{checked}
use Rattle.cm_eval.specs.Invariant.{MeetsInvariant, invariant_holds, declared_invariant, replies}
use Rattle.cm_eval.specs.Ended.{touched_of, stopped}
use Rattle.cm_eval.specs.Compiled.{IsCodeOf, invariant_code_of}
use Rattle.cm_eval.specs.inner.Going.{Gives, Touches, Asks, InvariantRan, goes_on, ended_by}

-- a state with code is declared, and the code is its invariant's
pub record Declared (t : Tables) (i : ℕ) (code : Option (List Instr)) : Type 0 where
  pub state : StateDecl
  pub there : slice_get t.states i ≡ Some state
  pub coded : code ≡ invariant_code_of t.ints state.inv

pub declared_of : (t : Tables) (c : Code) (i : ℕ) (code : Option (List Instr)) → IsCodeOf t c
    → slice_get c.invariants i ≡ Some code → Declared t i code
declared_of t c i code is got =
    let d = here t.states i (sym (ap (λ l. slice_get l i) is.invariants) ∙ got) in
    record { state = d.0; there = d.1; coded = d.2 }
  where
    here : (ds : List StateDecl) (i : ℕ) → slice_get (map (λ d. invariant_code_of t.ints d.inv) ds) i ≡ Some code
        → (d : StateDecl) × (slice_get ds i ≡ Some d) × (code ≡ invariant_code_of t.ints d.inv)
    here [] i e = absurd (cc)
    here (d ∷ ds) zero e = (d, refl, cc)
    here (d ∷ ds) (suc i) e = here ds i e

module _ (t : Tables) (c : CellName) (e : Option (List Instr)) (v : Value) (s : Store) (l after : Log) (o : Option ℕ)
    (d : Declared t c.state e) (there : look_up s c ≡ Some v) (touch : Touches t.ints d.state.inv v c o l after) where
  reached : (k : Value → ℕ → Touched → Trace) → logged l.steps (touched_at t.ints t.states s c (touched_of l) k)
      ≡ ended_by o (λ i. logged after.steps (k v i (touched_of after))) (stopped after)
  reached k =
      ap (λ e. logged l.steps (touched_with t.ints e (look_up s c) c (touched_of l) k)) d.there
      ∙ ap (λ e. logged l.steps (touched_with t.ints (Some d.state) e c (touched_of l) k)) there ∙ touch (k v)

  pub read_gives : (i : ℕ) → o ≡ Some i → Gives t (Reads c) (Some v) s l after
  read_gives i is = record {
    on = λ k.
        reached (λ w j u. run t.ints t.states s u (k w))
        ∙ ap (λ q. ended_by q (λ j. goes_on t s after (k v)) (stopped after)) is;
  }

  pub read_halts : o ≡ None → Gives t (Reads c) None s l after
  read_halts is = record {
    on = λ k.
        reached (λ w j u. run t.ints t.states s u (k w))
        ∙ ap (λ q. ended_by q (λ j. goes_on t s after (k v)) (stopped after)) is;
  }

  pub write_halts : (x : Value) → o ≡ None → (doing : Doing) → goes_on t s l (Writes c x doing) ≡ stopped after
  write_halts x is doing =
      reached (λ w j u. run t.ints t.states (put s c x) (marked u j) doing)
      ∙ ap (λ q. ended_by q (λ j. logged after.steps (run t.ints t.states (put s c x) (marked (touched_of after) j)
      doing)) (stopped after)) is

  pub write_goes : (x : Value) (i : ℕ) → o ≡ Some i → (doing : Doing) → goes_on t s l (Writes c x doing)
      ≡ logged after.steps (run t.ints t.states (put s c x) (marked (touched_of after) i) doing)
  write_goes x i is doing =
      reached (λ w j u. run t.ints t.states (put s c x) (marked u j) doing)
      ∙ ap (λ q. ended_by q (λ j. logged after.steps (run t.ints t.states (put s c x) (marked (touched_of after) j)
      doing)) (stopped after)) is

-- how a run ends that is asked of an invariant
abbrev after_end : Touched → Trace → End → End
after_end t more (Ended v s u log) = logged log more
after_end t more (Stopped u log) = Stopped t log

asked_end : (ints : List IntDecl) (s : Store) (t : Touched) (d : Doing) (more : Trace) (log : List ℕ)
    → logged log (asked t d more) ≡ after_end t more (logged log (run ints [] s t d))
asked_end ints s t (Replies v) more log = refl
asked_end ints s t Blocks more log = refl
asked_end ints s t (Decides d k) more log = asked_end ints s t (k d) more (log ++ d ∷ [])
asked_end ints s t (Reads c k) more log = refl
asked_end ints s t (Writes c v k) more log = refl

-- what is asked of a cell that is new, by the run of its invariant
pub asks_ran : (ints : List IntDecl) (e : Expr) (v : Value) (b : Bool) (l : Log) (after : List ℕ)
    → InvariantRan ints e v b l.steps after
    → Asks ints (Some e) v b l (record l { steps = after })
asks_ran ints e v b l after ran = (
  refl,
  λ more.
      let r = ran (store [] []) (touched_of l) in
      asked_end ints (store [] []) (touched_of l) (invariant_of ints e v) more l.steps
      ∙ ap (after_end (touched_of l) more) r.1 ∙ chosen r.0 more b,
)
  where
    chosen : (w : Value) (more : Trace) (b : Bool)
        → after_end (touched_of l) more (if b then Ended w (store [] []) (touched_of l) after else Stopped
        (touched_of l) after)
        ≡ (if b then logged after more else Stopped (touched_of l) after)
    chosen w more true = refl
    chosen w more false = refl

pub asks_coded : (ints : List IntDecl) (e : Option Expr) (code : List Instr) (v : Value) (b : Bool) (l : Log)
    (after : List ℕ)
    → Some code ≡ invariant_code_of ints e
    → ((ints : List IntDecl) (e : Expr) → code ≡ invariant_code ints e → InvariantRan ints e v b l.steps after)
    → Asks ints e v b l (record l { steps = after })
asks_coded ints None code v b l after is ran = absurd (cc)
asks_coded ints (Some e) code v b l after is ran = asks_ran ints e v b l after (ran ints e (cc))

abbrev is_ended : End → Bool
is_ended (Ended v s t log) = true
is_ended (Stopped t log) = false

asked_says : (v : Value) (s : Store) (t : Touched) (d : Doing) (log : List ℕ)
    → is_ended (logged log (asked t d (Replied v s t))) ≡ replies d
asked_says v s t (Replies w) log = refl
asked_says v s t Blocks log = refl
asked_says v s t (Decides d k) log = asked_says v s t (k d) (log ++ d ∷ [])
asked_says v s t (Reads c k) log = refl
asked_says v s t (Writes c w k) log = refl

checked_says : (ints : List IntDecl) (inv : Option Expr) (v : Value) (s : Store) (t : Touched) (log : List ℕ)
    → is_ended (logged log (checked ints inv v t (Replied v s t))) ≡ invariant_holds ints inv v
checked_says ints None v s t log = refl
checked_says ints (Some e) v s t log = asked_says v s t (invariant_of ints e v) log

ask_says : (ints : List IntDecl) (inv : Option Expr) (v : Value) (b : Bool) (l after : Log) → Asks ints inv v b l after
    → b ≡ invariant_holds ints inv v
ask_says ints inv v b l after h =
    sym (chosen b) ∙ sym (ap is_ended (h.1 (Replied v (store [] []) (touched_of l))))
    ∙ checked_says ints inv v (store [] []) (touched_of l) l.steps
  where
    chosen : (q : Bool) → is_ended (if q then logged after.steps (Replied v (store [] []) (touched_of l))
        else stopped after) ≡ q
    chosen true = refl
    chosen false = refl

pub meets : (t : Tables) (n : ℕ) (d : StateDecl) (v : Value) (b : Bool) (l after : Log) → slice_get t.states n ≡ Some d
    → Asks t.ints d.inv v b l after → IsTrue b ↔ MeetsInvariant t n v
meets t n d v b l after declared h =
    let says : b ≡ invariant_holds t.ints (declared_invariant (slice_get t.states n)) v =
    ask_says t.ints d.inv v b l after h ∙ sym (ap (λ q. invariant_holds t.ints (declared_invariant q) v) declared) in
    (λ e. sym says ∙ e, λ e. says ∙ e)
