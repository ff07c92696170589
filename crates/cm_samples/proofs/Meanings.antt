-- What the forms of expressions and statements mean, on locals and with what is done next.
use Rattle.std.proofs.Common.{◌≡◌, ℕ, ℤ, Bool, List, map, Option, Some, None, ap}
use Rattle.std.specs.Prelude.{slice_get}
use Rattle.cm_model.specs.declared.ty.IntDecl.{IntDecl}
use Rattle.cm_model.specs.declared.body.Op.{Op}
use Rattle.cm_model.specs.declared.body.Expr.{Expr}
use Rattle.cm_model.specs.declared.body.Expr.TheVariants as expr
use Rattle.cm_model.specs.declared.body.Stmt.{Stmt}
use Rattle.cm_model.specs.declared.body.Stmt.TheVariants as stmt
use Rattle.cm_value.specs.declared.value.Value.{Value, out-Value}
use Rattle.cm_value.specs.declared.value.Value.TheVariants as value
use Rattle.cm_value.specs.declared.value.Value.TheOpen.{Value-F}
use Rattle.cm_value.proofs.Folds.{fold-elem}
use Rattle.cm_eval.specs.declared.operand.Operand.{Operand}
use Rattle.cm_eval.specs.declared.operand.Operand.TheVariants as operand
use Rattle.cm_eval.specs.State.{same_value, same_form}
use Rattle.cm_eval.specs.Evaluation.{Doing, Meaning, Called, Turn, meaning_of, meaning_step, set_step, key_meaning}
use Rattle.cm_eval.specs.Evaluation.{local_of, read_of, shift_of, into_of, compare_of, not_of, some_of, turn_of}
use Rattle.cm_eval.specs.Evaluation.{turn_step, let_of, set_of, if_of, assume_of, return_of}
use Rattle.cm_samples.proofs.Forms.{fold-num, fold-tag, fold-local, fold-whole, fold-read, fold-some, fold-shift}
use Rattle.cm_samples.proofs.Forms.{fold-into, fold-compare, fold-not, fold-let, fold-set, fold-if, fold-assume}
use Rattle.cm_samples.proofs.Forms.{fold-return}

module _ (ints : List IntDecl) (funs : List Called) where
  abbrev means : Expr → Meaning
  means = meaning_of ints funs

  abbrev turns : Stmt → Turn
  turns = turn_of ints funs

  module _ (locals : List Value) (k : Operand → Doing) where
    abbrev on : Meaning → Doing
    on m = m locals k

    pub means-num : (n : ℤ) → meaning_of ints funs (expr.Num n) locals k ≡ k (operand.Number n)
    means-num n = ap on (fold-num (meaning_step ints funs) set_step n)

    pub means-tag : (e i : ℕ) → meaning_of ints funs (expr.Tag e i) locals k ≡ k (operand.Plain (value.Tag i))
    means-tag e i = ap on (fold-tag (meaning_step ints funs) set_step e i)

    pub means-local : (i : ℕ) → meaning_of ints funs (expr.Local i) locals k ≡ local_of i locals k
    means-local i = ap on (fold-local (meaning_step ints funs) set_step i)

    pub means-whole : (s : ℕ) → meaning_of ints funs (expr.Cell s None) locals k ≡ read_of s None locals k
    means-whole s = ap on (fold-whole (meaning_step ints funs) set_step s)

    pub means-read : (s : ℕ) (e : Expr) → meaning_of ints funs (expr.Cell s (Some e)) locals k
        ≡ read_of s (Some (means e)) locals k
    means-read s e = ap on (fold-read (meaning_step ints funs) set_step s e)

    pub means-some : (e : Expr) → meaning_of ints funs (expr.SomeOf e) locals k ≡ some_of (means e) locals k
    means-some e = ap on (fold-some (meaning_step ints funs) set_step e)

    pub means-shift : (e : Expr) (by : ℤ) → meaning_of ints funs (expr.Shift e by) locals k ≡ shift_of
        (means e) by locals k
    means-shift e by = ap on (fold-shift (meaning_step ints funs) set_step e by)

    pub means-into : (i : ℕ) (e : Expr) → meaning_of ints funs (expr.Into i e) locals k ≡ into_of (slice_get ints i)
        (means e) locals k
    means-into i e = ap on (fold-into (meaning_step ints funs) set_step i e)

    pub means-compare : (o : Op) (x y : Expr) → meaning_of ints funs (expr.Compare o x y) locals k
        ≡ compare_of o (means x) (means y) locals k
    means-compare o x y = ap on (fold-compare (meaning_step ints funs) set_step o x y)

    pub means-not : (e : Expr) → meaning_of ints funs (expr.Not e) locals k ≡ not_of (means e) locals k
    means-not e = ap on (fold-not (meaning_step ints funs) set_step e)

  module _ (locals : List Value) (ret : Value → Doing) (next : List Value → Doing) where
    abbrev then : Turn → Doing
    then m = m locals ret next

    pub turns-let : (e : Expr) → turn_of ints funs (stmt.Let e) locals ret next ≡ let_of (means e) locals ret next
    turns-let e = ap then (fold-let (turn_step ints funs) e)

    pub turns-set : (s : ℕ) (key : Option Expr) (e : Expr) → turn_of ints funs (stmt.Set s key e) locals ret next
        ≡ set_of s (key_meaning ints funs key) (means e) locals ret next
    turns-set s key e = ap then (fold-set (turn_step ints funs) s key e)

    pub turns-if : (e : Expr) (xs ys : List Stmt) → turn_of ints funs (stmt.If e xs ys) locals ret next
        ≡ if_of (means e) (map turns xs) (map turns ys) locals ret next
    turns-if e xs ys = ap then (fold-if (turn_step ints funs) e xs ys)

    pub turns-assume : (e : Expr) → turn_of ints funs (stmt.Assume e) locals ret next ≡ assume_of (means e)
        locals ret next
    turns-assume e = ap then (fold-assume (turn_step ints funs) e)

    pub turns-return : (e : Expr) → turn_of ints funs (stmt.Return e) locals ret next ≡ return_of (means e)
        locals ret next
    turns-return e = ap then (fold-return (turn_step ints funs) e)

abbrev form_of : Value-F (Value → Bool) → Value → Bool
form_of x w = same_form x (out-Value w)

-- an element beside another value
pub same-elem : (n : ℕ) (v : Value) → same_value (value.Elem n) v ≡ same_form (Value-F.Elem n) (out-Value v)
same-elem n v = ap (λ (m : Value → Bool). m v) (fold-elem form_of n)
