-- What is said of values alone is what the rules say on values: one line a form.
use Rattle.std.proofs.Common.{◌≡◌, ℕ, ◌==◌, ℤ, ◌+ℤ◌, Bool, true, false, not, List, [], ◌∷◌, ◌++◌, map, Option, Some}
use Rattle.std.proofs.Common.{None, refl, sym, ap, ◌∙◌, slice_get, if◌then◌else◌}
use Rattle.std.proofs.Math.Path.{fun_ext}
use Rattle.cm_model.specs.Tables.{Tables}
use Rattle.cm_model.specs.declared.ty.IntDecl.{IntDecl}
use Rattle.cm_model.specs.declared.body.Op.{Op}
use Rattle.cm_model.specs.declared.body.Op.TheVariants as op
use Rattle.cm_model.specs.declared.body.Expr.{Expr}
use Rattle.cm_model.specs.declared.body.Expr.TheOpen.{Expr-F}
use Rattle.cm_model.specs.declared.body.Expr.TheFolds.{fold-Expr}
use Rattle.cm_model.specs.declared.body.Stmt.{Stmt}
use Rattle.cm_model.specs.declared.body.Stmt.TheOpen.{Stmt-F}
use Rattle.cm_model.specs.declared.body.Stmt.TheFolds.{fold-Stmt}
use Rattle.cm_model.specs.declared.body.Call.{Call}
use Rattle.cm_value.specs.declared.value.Value.{Value}
use Rattle.cm_value.specs.declared.value.Value.TheVariants as value
use Rattle.cm_code.specs.Language as language
use Rattle.cm_eval.specs.declared.log.CellName.{CellName}
use Rattle.cm_eval.specs.declared.operand.Operand.{Operand}
use Rattle.cm_eval.specs.declared.operand.Operand.TheVariants as operand
use Rattle.cm_eval.specs.Script.{Blocks, Decides, Reads, Writes, given}
use Rattle.cm_eval.specs.Comparison.{parts_of, option_of}
use Rattle.cm_eval.specs.Evaluation as evaluation
use Rattle.cm_eval.specs.Evaluation.{Doing, Meaning, SetMeaning, Called, Turn, value_of, number_of}
use Rattle.cm_eval.specs.Values.{values, into, summed}

given_same : {X : Type 0} (o : Option X) (k : X → Doing) → given o k ≡ language.given Value Operand Doing values o k
given_same (Some x) k = refl
given_same None k = refl

valued_same : (m : Meaning) (locals : List Value) (k : Value → Doing)
    → evaluation.valued m locals k ≡ language.valued Value Operand Doing values m locals k
valued_same m locals k = ap (m locals) (fun_ext (λ o. given_same (value_of o) k))

block_same : (ms : List Turn) (locals : List Value) (ret : Value → Doing) (next : List Value → Doing)
    → evaluation.block_of ms locals ret next ≡ language.block_of Value Doing ms locals ret next
block_same [] locals ret next = refl
block_same (m ∷ ms) locals ret next = ap (m locals ret) (fun_ext (λ after. block_same ms after ret next))

fun_same : (funs : List Called) (f : ℕ) (args : List Value) (k : Value → Doing)
    → evaluation.fun_at funs f args k ≡ language.fun_at Value Operand Doing values funs f args k
fun_same funs f args k = here (slice_get funs f)
  where
    here : (o : Option Called) → evaluation.called o args k ≡ language.called Value Operand Doing values o args k
    here (Some c) = refl
    here None = refl

values_same : (vs : List Value) (ms : List Meaning) (locals : List Value) (k : List Value → Doing)
    → evaluation.values_of vs ms locals k ≡ language.values_of Value Operand Doing values vs ms locals k
values_same vs [] locals k = refl
values_same vs (m ∷ ms) locals k =
    valued_same m locals (λ v. evaluation.values_of (vs ++ v ∷ []) ms locals k)
    ∙ ap (language.valued Value Operand Doing values m locals) (fun_ext (λ v. values_same (vs ++ v ∷ []) ms locals k))

all_same : (ms : List Meaning) (locals : List Value) (k : Bool → Doing)
    → evaluation.all_of ms locals k ≡ language.all_of Value Operand Doing values ms locals k
all_same [] locals k = refl
all_same (m ∷ ms) locals k =
    ap (λ rest. evaluation.inspected m locals (λ s. if s then rest else k false)) (all_same ms locals k)

any_same : (ms : List Meaning) (locals : List Value) (k : Bool → Doing)
    → evaluation.any_of ms locals k ≡ language.any_of Value Operand Doing values ms locals k
any_same [] locals k = refl
any_same (m ∷ ms) locals k =
    ap (λ rest. evaluation.inspected m locals (λ s. if s then k true else rest)) (any_same ms locals k)

keyed_same : (s : ℕ) (key : Option Meaning) (locals : List Value) (k : CellName → Doing)
    → evaluation.cell_of s key locals k ≡ language.keyed Value Operand Doing values key locals
    (λ c. k (evaluation.named s c))
keyed_same s None locals k = refl
keyed_same s (Some m) locals k = valued_same m locals (λ v. k (evaluation.named s (Some v)))

path_same : (o : Option Value) (path : List ℕ)
    → evaluation.value_at o path ≡ language.value_at Value Operand Doing values o path
path_same o [] = refl
path_same (Some v) (i ∷ is) = path_same (evaluation.field_in (parts_of v) i) is
path_same None (i ∷ is) = sym (nowhere is)
  where
    nowhere : (path : List ℕ) → language.value_at Value Operand Doing values None path ≡ None
    nowhere [] = refl
    nowhere (i ∷ is) = nowhere is

sets_same : (v : Value) (ms : List SetMeaning) (locals : List Value) (k : Value → Doing)
    → evaluation.sets_of v ms locals k ≡ language.sets_of Value Operand Doing values v ms locals k
sets_same v [] locals k = refl
sets_same v (m ∷ ms) locals k =
    valued_same m.1 locals (λ w. given (evaluation.with_field v m.0 w) (λ u. evaluation.sets_of u ms locals k))
    ∙ ap (language.valued Value Operand Doing values m.1 locals) (fun_ext (λ w.
    ap (given (evaluation.with_field v m.0 w)) (fun_ext (λ u. sets_same u ms locals k))
    ∙ given_same (evaluation.with_field v m.0 w) (λ u. language.sets_of Value Operand Doing values u ms locals k)))

compares_same : (o : Op) (x y : Operand) (k : Bool → Doing)
    → evaluation.compares_by o x y k ≡ language.compares_by Value Operand Doing values o x y k
compares_same op.Eq x y k = refl
compares_same op.Ne x y k = refl
compares_same op.Lt x y k = refl
compares_same op.Le x y k = refl
compares_same op.Gt x y k = refl
compares_same op.Ge x y k = refl

into_same : (d : Option IntDecl) (o : Operand) (k : Operand → Doing)
    → given (number_of o) (λ n. evaluation.into_type d n k)
    ≡ language.into_type Value Operand Doing values d o (λ v. k (operand.Plain v))
into_same (Some d) o k = refl
into_same None o k = nothing (number_of o)
  where
    nothing : (n : Option ℤ) → given n (λ n. evaluation.into_type None n k) ≡ Blocks
    nothing (Some n) = refl
    nothing None = refl

shift_same : (n : Option ℤ) (by : ℤ) (k : Operand → Doing)
    → given n (λ n. k (operand.Number (n +ℤ by))) ≡ language.given Value Operand Doing values (summed n by) k
shift_same (Some n) by k = refl
shift_same None by k = refl

step_same : (ints : List IntDecl) (funs : List Called) (y : Expr-F Meaning SetMeaning) (locals : List Value)
    (k : Operand → Doing)
    → evaluation.meaning_step ints funs y locals k ≡ language.meaning_step Value Operand Doing values
    ints funs y locals k
step_same ints funs (Expr-F.Num n) locals k = refl
step_same ints funs (Expr-F.Tag e i) locals k = refl
step_same ints funs (Expr-F.Local i) locals k = given_same (slice_get locals i) (λ v. k (operand.Plain v))
step_same ints funs (Expr-F.Cell s key) locals k = keyed_same s key locals (λ c. Reads c (λ v. k (operand.Plain v)))
step_same ints funs (Expr-F.Fields e path) locals k =
    valued_same e locals (λ v. given (evaluation.value_at (Some v) path) (λ w. k (operand.Plain w)))
    ∙ ap (language.valued Value Operand Doing values e locals) (fun_ext (λ v.
    given_same (evaluation.value_at (Some v) path) (λ w. k (operand.Plain w))
    ∙ ap (λ o. language.given Value Operand Doing values o (λ w. k (operand.Plain w))) (path_same (Some v) path)))
step_same ints funs (Expr-F.With e sets) locals k =
    valued_same e locals (λ v. evaluation.sets_of v sets locals (λ w. k (operand.Plain w)))
    ∙ ap (language.valued Value Operand Doing values e locals)
    (fun_ext (λ v. sets_same v sets locals (λ w. k (operand.Plain w))))
step_same ints funs (Expr-F.Make r parts) locals k = values_same [] parts locals
    (λ vs. k (operand.Plain (value.Rec vs)))
step_same ints funs (Expr-F.NoneOf t) locals k = refl
step_same ints funs (Expr-F.SomeOf e) locals k = valued_same e locals (λ v. k (operand.Plain (value.Some v)))
step_same ints funs (Expr-F.Shift e by) locals k = ap (e locals) (fun_ext (λ o. shift_same (number_of o) by k))
step_same ints funs (Expr-F.Into i e) locals k = ap (e locals) (fun_ext (λ o. into_same (slice_get ints i) o k))
step_same ints funs (Expr-F.Compare o left right) locals k =
    ap (left locals) (fun_ext (λ x. ap (right locals)
    (fun_ext (λ y. compares_same o x y (λ s. k (evaluation.flag s))))))
step_same ints funs (Expr-F.All es) locals k = all_same es locals (λ s. k (evaluation.flag s))
step_same ints funs (Expr-F.Any es) locals k = any_same es locals (λ s. k (evaluation.flag s))
step_same ints funs (Expr-F.Not e) locals k = refl
step_same ints funs (Expr-F.Apply f args) locals k =
    values_same [] args locals (λ vs. evaluation.fun_at funs f vs (λ v. k (operand.Plain v)))
    ∙ ap (language.values_of Value Operand Doing values [] args locals)
    (fun_ext (λ vs. fun_same funs f vs (λ v. k (operand.Plain v))))

pub meaning_same : (ints : List IntDecl) (funs : List Called)
    → evaluation.meaning_of ints funs ≡ language.meaning_of Value Operand Doing values ints funs
meaning_same ints funs =
    ap (λ step. fold-Expr Meaning SetMeaning step (evaluation.set_step))
    (fun_ext (λ y. fun_ext (λ locals. fun_ext (λ k. step_same ints funs y locals k))))

key_same : (ints : List IntDecl) (funs : List Called) (key : Option Expr)
    → evaluation.key_meaning ints funs key ≡ language.key_meaning Value Operand Doing values ints funs key
key_same ints funs None = refl
key_same ints funs (Some e) = ap (λ m. Some (m e)) (meaning_same ints funs)

opens_same : (m : Meaning) (locals : List Value) (k : Option Value → Doing)
    → evaluation.opened m locals k ≡ language.valued Value Operand Doing values m locals
    (λ v. evaluation.opens (option_of v) k)
opens_same m locals k = valued_same m locals (λ v. evaluation.opens (option_of v) k)

branches_same : (left right : List Turn) (o : Option Value) (locals : List Value) (ret : Value
    → Doing) (next : List Value → Doing)
    → evaluation.case_branch left right o locals ret next ≡ language.case_branch Value Doing left right
    o locals ret next
branches_same left right (Some v) locals ret next = block_same right (locals ++ v ∷ []) ret (λ _. next locals)
branches_same left right None locals ret next = block_same left locals ret (λ _. next locals)

turn_same : (ints : List IntDecl) (funs : List Called) (y : Stmt-F Turn) (locals : List Value) (ret : Value
    → Doing) (next : List Value → Doing)
    → evaluation.turn_step ints funs y locals ret next ≡ language.turn_step Value Operand Doing values
    ints funs y locals ret next
turn_same ints funs (Stmt-F.Let e) locals ret next =
    valued_same (evaluation.meaning_of ints funs e) locals (λ v. next (locals ++ v ∷ []))
    ∙ ap (λ m. language.valued Value Operand Doing values (m e) locals (λ v. next (locals ++ v ∷ [])))
    (meaning_same ints funs)
turn_same ints funs (Stmt-F.Set s key e) locals ret next =
    keyed_same s (evaluation.key_meaning ints funs key) locals (λ c.
    evaluation.valued (evaluation.meaning_of ints funs e) locals (λ v. Writes c v (next locals)))
    ∙ ap (λ m. language.keyed Value Operand Doing values m locals (λ c.
    evaluation.valued (evaluation.meaning_of ints funs e) locals (λ v. Writes (evaluation.named s c) v (next locals))))
    (key_same ints funs key)
    ∙ ap (language.keyed Value Operand Doing values (language.key_meaning Value Operand Doing values ints funs key)
    locals) (fun_ext (λ c.
    valued_same (evaluation.meaning_of ints funs e) locals (λ v. Writes (evaluation.named s c) v (next locals))
    ∙ ap (λ m. language.valued Value Operand Doing values (m e) locals (λ v. Writes (evaluation.named s c)
    v (next locals))) (meaning_same ints funs)))
turn_same ints funs (Stmt-F.If c left right) locals ret next =
    ap (λ m. m c locals (λ o. evaluation.inspects o (λ s.
    if s then evaluation.branch_of left locals ret next else evaluation.branch_of right locals ret next)))
    (meaning_same ints funs)
    ∙ ap (language.meaning_of Value Operand Doing values ints funs c locals)
    (fun_ext (λ o. ap (evaluation.inspects o) (fun_ext (λ s. chosen s))))
  where
    chosen : (s : Bool) → (if s then evaluation.branch_of left locals ret next else evaluation.branch_of
        right locals ret next)
        ≡ (if s then language.branch_of Value Doing left locals ret next else language.branch_of Value
        Doing right locals ret next)
    chosen true = block_same left locals ret (λ _. next locals)
    chosen false = block_same right locals ret (λ _. next locals)
turn_same ints funs (Stmt-F.Case e left right) locals ret next =
    opens_same (evaluation.meaning_of ints funs e) locals (λ o. evaluation.case_branch left right o locals ret next)
    ∙ ap (λ m. language.valued Value Operand Doing values (m e) locals (λ v.
    evaluation.opens (option_of v) (λ o. evaluation.case_branch left right o locals ret next))) (meaning_same ints funs)
    ∙ ap (language.valued Value Operand Doing values (language.meaning_of Value Operand Doing values ints funs e)
    locals) (fun_ext (λ v.
    ap (evaluation.opens (option_of v)) (fun_ext (λ o. branches_same left right o locals ret next))))
turn_same ints funs (Stmt-F.Assume c) locals ret next =
    ap (λ m. m c locals (λ o. evaluation.inspects o (λ s. if s then next locals else Blocks))) (meaning_same ints funs)
turn_same ints funs (Stmt-F.Return e) locals ret next =
    valued_same (evaluation.meaning_of ints funs e) locals ret
    ∙ ap (λ m. language.valued Value Operand Doing values (m e) locals ret) (meaning_same ints funs)

turns_same : (ints : List IntDecl) (funs : List Called)
    → evaluation.turn_of ints funs ≡ language.turn_of Value Operand Doing values ints funs
turns_same ints funs =
    ap (λ step. fold-Stmt Turn step)
    (fun_ext (λ y. fun_ext (λ locals. fun_ext (λ ret. fun_ext (λ next. turn_same ints funs y locals ret next)))))

pub body_same : (ints : List IntDecl) (funs : List Called) (body : List Stmt)
    → evaluation.body_of ints funs body ≡ language.body_of Value Operand Doing values ints funs body
body_same ints funs body = fun_ext (λ args. fun_ext (λ k.
    ap (λ turn. evaluation.block_of (map turn body) args k (λ _. Blocks)) (turns_same ints funs)
    ∙ block_same (map (language.turn_of Value Operand Doing values ints funs) body) args k (λ _. Blocks)))

meanings_from_same : (ints : List IntDecl) (before : List Called) (fs : List Call)
    → evaluation.meanings_from ints before fs ≡ language.meanings_from Value Operand Doing values ints before fs
meanings_from_same ints before [] = refl
meanings_from_same ints before (f ∷ fs) =
    meanings_from_same ints (before ++ evaluation.body_of ints before f.body ∷ []) fs
    ∙ ap (λ m. language.meanings_from Value Operand Doing values ints (before ++ m ∷ []) fs)
    (body_same ints before f.body)

pub meanings_same : (ints : List IntDecl) (fs : List Call)
    → evaluation.meanings ints fs ≡ language.meanings_from Value Operand Doing values ints [] fs
unfolding evaluation.meanings
meanings_same ints fs = meanings_from_same ints [] fs

pub invariant_same : (ints : List IntDecl) (e : Expr) (v : Value)
    → evaluation.invariant_of ints e v ≡ language.invariant_of Value Operand Doing values ints e v
invariant_same ints e v = ap (λ m. m e (v ∷ []) (λ o. evaluation.inspects o evaluation.replies_if))
    (meaning_same ints [])
    ∙ ap (language.meaning_of Value Operand Doing values ints [] e (v ∷ []))
    (fun_ext (λ o. ap (evaluation.inspects o) (fun_ext (λ s. replied s))))
  where
    replied : (s : Bool) → evaluation.replies_if s ≡ (if s then values.replies (values.flag true) else values.blocks)
    replied true = refl
    replied false = refl
