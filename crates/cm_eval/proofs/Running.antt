-- Turns of a machine on values, and bodies and invariants by their code.
use Rattle.std.proofs.Common.{◌≡◌, ℕ, zero, suc, List, [], ◌∷◌, Option, Some, None, refl, sym, ap, ◌∙◌, subst}
use Rattle.std.proofs.Common.{slice_get}
use Rattle.cm_model.specs.Tables.{Tables}
use Rattle.cm_model.specs.declared.ty.IntDecl.{IntDecl}
use Rattle.cm_model.specs.declared.body.Expr.{Expr}
use Rattle.cm_model.specs.declared.body.Stmt.{Stmt}
use Rattle.cm_model.specs.declared.body.StateDecl.{StateDecl}
use Rattle.cm_value.specs.declared.value.Value.{Value}
use Rattle.cm_code.specs.declared.instr.Instr.{Instr}
use Rattle.cm_model.specs.declared.body.Call.{Call}
use Rattle.cm_code.specs.declared.event.Event.{Event}
use Rattle.cm_code.specs.declared.event.Machine.{Machine}
use Rattle.cm_code.specs.Machine.{with_body, script, event_of}
use Rattle.cm_code.specs.Code.{code_meaning, codes_from}
use Rattle.cm_code.specs.Compiling.{body_code, bodies_code, invariant_code}
use Rattle.cm_code.proofs.RightTurns.{called_right, funs_right, invariant_right}
use Rattle.cm_eval.specs.declared.operand.Operand.{Operand}
use Rattle.cm_eval.specs.declared.code.Code.{Code}
use Rattle.cm_eval.specs.declared.drive.Turned.{Turned}
use Rattle.cm_eval.specs.declared.log.Log.{Log}
use Rattle.cm_eval.specs.Script.{Replies, given}
use Rattle.cm_eval.specs.State.{Store, Touched}
use Rattle.cm_eval.specs.Evaluation.{Doing, Called, body_of, meanings, invariant_of}
use Rattle.cm_eval.specs.Values.{values}
use Rattle.cm_eval.specs.Run.{End, Stopped, logged, run, evaluation_of}
use Rattle.cm_eval.specs.Ended.{touched_of}
use Rattle.cm_eval.specs.Compiled.{IsCodeOf}
use Rattle.cm_eval.specs.inner.Going.{Decided, Turns, TurnsIn, goes_on, ended_by}
use Rattle.cm_eval.proofs.Direct.{body_same, meanings_same, invariant_same}

-- something was decided, and the machine goes on with it
pub decided_turn : {X : Type 0} (m : (X → Doing) → Doing) (o : Option X) (x : X) (k : X
    → Doing) (r : Turned) (later : Doing) (log after : List ℕ)
    → Decided m o log after → o ≡ Some x → Turns (k x) r later after after → Turns (m k) r later log after
decided_turn m o x k r later log after d is turns = record {
  on = λ ints states s t.
      d.on ints states s t k
      ∙ ap (λ q. ended_by q (λ x. logged after (run ints states s t (k x))) (Stopped t after)) is
      ∙ turns.on ints states s t;
}

-- an invariant does what its code does
pub invariant_by_code : (ints : List IntDecl) (e : Expr) (v : Value) (code : List Instr) → code ≡ invariant_code ints e
    → invariant_of ints e v ≡ code_meaning Value Operand Doing values [] code (v ∷ []) Replies
invariant_by_code ints e v code is =
    invariant_same ints e v
    ∙ sym (invariant_right Value Operand Doing values ints e v)
    ∙ ap (λ c. code_meaning Value Operand Doing values [] c (v ∷ []) Replies) (sym is)

-- a body does what its code does over the code of the functions
pub body_by_code : (t : Tables) (c : Code) (body : List Instr) (stmts : List Stmt) (args : List Value)
    → IsCodeOf t c → body ≡ body_code t.ints stmts
    → body_of t.ints (meanings t.ints t.funs) stmts args Replies
    ≡ code_meaning Value Operand Doing values (codes_from Value Operand Doing values [] c.funs) body args Replies
body_by_code t c body stmts args code is =
    let before : List Called = codes_from Value Operand Doing values [] c.funs in
    let same : meanings t.ints t.funs ≡ before =
    meanings_same t.ints t.funs ∙ sym (funs_right Value Operand Doing values t.ints [] t.funs)
    ∙ ap (codes_from Value Operand Doing values []) (sym code.funs) in
    ap (λ ms. body_of t.ints ms stmts args Replies) same
    ∙ ap (λ (f : Called). f args Replies) (body_same t.ints before stmts
    ∙ sym (called_right Value Operand Doing values t.ints before stmts))
    ∙ ap (λ c. code_meaning Value Operand Doing values before c args Replies) (sym is)

-- a turn that changes no cell
pub turned_in : (t : Tables) (s : Store) (l : Log) (funs fs : List (List Instr)) (body : List Instr)
    (e f : Event Value Operand)
    → (m n : Machine Value Operand) (later : Doing) (r : Turned) (after : List ℕ) → fs ≡ funs
    → script Value Operand Doing values (with_body fs body) m ≡ event_of Value Operand Doing values (with_body fs body)
    e n → e ≡ f
    → Turns (event_of Value Operand Doing values (with_body funs body) f n) r later l.steps after
    → TurnsIn t (script Value Operand Doing values (with_body funs body) m) r later s l s (record l { steps = after })
turned_in t s l funs fs body e f m n later r after given is same turns =
    ap (goes_on t s l)
    (subst (λ fs. script Value Operand Doing values (with_body fs body) m ≡ event_of Value Operand Doing
    values (with_body fs body) e n) given is
    ∙ ap (λ e. event_of Value Operand Doing values (with_body funs body) e n) same)
    ∙ turns.on t.ints t.states s (touched_of l)

-- a call by its code
pub call_by_code : (t : Tables) (c : Code) (i : ℕ) (body : List Instr) → IsCodeOf t c → slice_get c.calls i ≡ Some body
    → (d : Call) × (slice_get t.calls i ≡ Some d) × (body ≡ body_code t.ints d.body)
call_by_code t c i body is got = here t.calls i (sym (ap (λ l. slice_get l i) is.calls) ∙ got)
  where
    here : (ds : List Call) (i : ℕ) → slice_get (bodies_code t.ints ds) i ≡ Some body
        → (d : Call) × (slice_get ds i ≡ Some d) × (body ≡ body_code t.ints d.body)
    here [] i e = absurd (cc)
    here (d ∷ ds) zero e = (d, refl, cc)
    here (d ∷ ds) (suc i) e = here ds i e

-- and the end of its run
pub call_ran : (t : Tables) (c : Code) (i : ℕ) (body : List Instr) (args : List Value) (s : Store) (l : Log) (end : End)
    → IsCodeOf t c
    → slice_get c.calls i ≡ Some body
    → ((t : Tables) (stmts : List Stmt) → IsCodeOf t c → body ≡ body_code t.ints stmts
    → goes_on t s l (body_of t.ints (meanings t.ints t.funs) stmts args Replies) ≡ end)
    → evaluation_of t i args s (touched_of l) l.steps ≡ end
call_ran t c i body args s l end is got ran =
    let d = call_by_code t c i body is got in
    ap (λ q. logged l.steps (run t.ints t.states s (touched_of l)
    (given q (λ d. body_of t.ints (meanings t.ints t.funs) d.body args Replies)))) d.1
    ∙ ran t d.0.body is d.2
