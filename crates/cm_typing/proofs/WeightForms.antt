-- What each form of an expression or statement of a model weighs.
use Rattle.std.proofs.Common.{◌≡◌, ℕ, ℤ, List, map, Option, Some, None, sym, ap, ◌∙◌}
use Rattle.cm_model.specs.declared.ty.Ty.{Ty}
use Rattle.cm_model.specs.declared.body.Op.{Op}
use Rattle.cm_model.specs.declared.body.Expr.{Expr}
use Rattle.cm_model.specs.declared.body.Expr.TheVariants as expr
use Rattle.cm_model.specs.declared.body.Expr.TheOpen as layer
use Rattle.cm_model.specs.declared.body.Expr.TheFolds.{fold-roll-Expr, fold-SetField}
use Rattle.cm_model.specs.declared.body.SetField.{SetField}
use Rattle.cm_model.specs.declared.body.Stmt.{Stmt}
use Rattle.cm_model.specs.declared.body.Stmt.TheVariants as stmt
use Rattle.cm_model.specs.declared.body.Stmt.TheOpen as stmt_layer
use Rattle.cm_model.specs.declared.body.Stmt.TheFolds.{fold-roll-Stmt}
use Rattle.cm_model.specs.Weights.{expr_weight, expr_weight_step, stmt_weight, stmt_weight_step}

abbrev pub set_weight : List ℕ → SetField → ℕ
set_weight funs = fold-SetField ℕ ℕ (expr_weight_step funs) (λ x. x.value)

pub weight_Num : (funs : List ℕ) (n : ℤ) → expr_weight funs (expr.Num n) ≡ expr_weight_step funs (layer.Num n)
weight_Num funs n = ap (expr_weight funs) (sym (expr.rolls-Num n)) ∙ fold-roll-Expr ℕ ℕ (expr_weight_step funs) (λ x.
    x.value) (layer.Num n)

pub weight_Tag : (funs : List ℕ) (e i : ℕ) → expr_weight funs (expr.Tag e i) ≡ expr_weight_step funs (layer.Tag e i)
weight_Tag funs e i = ap (expr_weight funs) (sym (expr.rolls-Tag e i))
    ∙ fold-roll-Expr ℕ ℕ (expr_weight_step funs) (λ x. x.value) (layer.Tag e i)

pub weight_Local : (funs : List ℕ) (i : ℕ) → expr_weight funs (expr.Local i) ≡ expr_weight_step funs (layer.Local i)
weight_Local funs i = ap (expr_weight funs) (sym (expr.rolls-Local i))
    ∙ fold-roll-Expr ℕ ℕ (expr_weight_step funs) (λ x. x.value) (layer.Local i)

pub weight_Fields : (funs : List ℕ) (e : Expr) (p : List ℕ)
    → expr_weight funs (expr.Fields e p) ≡ expr_weight_step funs (layer.Fields (expr_weight funs e) p)
weight_Fields funs e p = ap (expr_weight funs) (sym (expr.rolls-Fields e p))
    ∙ fold-roll-Expr ℕ ℕ (expr_weight_step funs) (λ x. x.value) (layer.Fields e p)

pub weight_With : (funs : List ℕ) (e : Expr) (ss : List SetField)
    → expr_weight funs (expr.With e ss) ≡ expr_weight_step funs (layer.With (expr_weight funs e) (map
    (set_weight funs) ss))
weight_With funs e ss = ap (expr_weight funs) (sym (expr.rolls-With e ss))
    ∙ fold-roll-Expr ℕ ℕ (expr_weight_step funs) (λ x. x.value) (layer.With e ss)

pub weight_Make : (funs : List ℕ) (r : ℕ) (es : List Expr)
    → expr_weight funs (expr.Make r es) ≡ expr_weight_step funs (layer.Make r (map (expr_weight funs) es))
weight_Make funs r es = ap (expr_weight funs) (sym (expr.rolls-Make r es))
    ∙ fold-roll-Expr ℕ ℕ (expr_weight_step funs) (λ x. x.value) (layer.Make r es)

pub weight_NoneOf : (funs : List ℕ) (t : Ty) → expr_weight funs (expr.NoneOf t) ≡ expr_weight_step funs (layer.NoneOf t)
weight_NoneOf funs t = ap (expr_weight funs) (sym (expr.rolls-NoneOf t))
    ∙ fold-roll-Expr ℕ ℕ (expr_weight_step funs) (λ x. x.value) (layer.NoneOf t)

pub weight_SomeOf : (funs : List ℕ) (e : Expr) → expr_weight funs (expr.SomeOf e)
    ≡ expr_weight_step funs (layer.SomeOf (expr_weight funs e))
weight_SomeOf funs e = ap (expr_weight funs) (sym (expr.rolls-SomeOf e))
    ∙ fold-roll-Expr ℕ ℕ (expr_weight_step funs) (λ x. x.value) (layer.SomeOf e)

pub weight_Shift : (funs : List ℕ) (e : Expr) (n : ℤ)
    → expr_weight funs (expr.Shift e n) ≡ expr_weight_step funs (layer.Shift (expr_weight funs e) n)
weight_Shift funs e n = ap (expr_weight funs) (sym (expr.rolls-Shift e n))
    ∙ fold-roll-Expr ℕ ℕ (expr_weight_step funs) (λ x. x.value) (layer.Shift e n)

pub weight_Into : (funs : List ℕ) (i : ℕ) (e : Expr)
    → expr_weight funs (expr.Into i e) ≡ expr_weight_step funs (layer.Into i (expr_weight funs e))
weight_Into funs i e = ap (expr_weight funs) (sym (expr.rolls-Into i e))
    ∙ fold-roll-Expr ℕ ℕ (expr_weight_step funs) (λ x. x.value) (layer.Into i e)

pub weight_Compare : (funs : List ℕ) (o : Op) (l r : Expr)
    → expr_weight funs (expr.Compare o l r) ≡ expr_weight_step funs (layer.Compare o (expr_weight funs l)
    (expr_weight funs r))
weight_Compare funs o l r = ap (expr_weight funs) (sym (expr.rolls-Compare o l r))
    ∙ fold-roll-Expr ℕ ℕ (expr_weight_step funs) (λ x. x.value) (layer.Compare o l r)

pub weight_All : (funs : List ℕ) (es : List Expr) → expr_weight funs (expr.All es)
    ≡ expr_weight_step funs (layer.All (map (expr_weight funs) es))
weight_All funs es = ap (expr_weight funs) (sym (expr.rolls-All es))
    ∙ fold-roll-Expr ℕ ℕ (expr_weight_step funs) (λ x. x.value) (layer.All es)

pub weight_Any : (funs : List ℕ) (es : List Expr) → expr_weight funs (expr.Any es)
    ≡ expr_weight_step funs (layer.Any (map (expr_weight funs) es))
weight_Any funs es = ap (expr_weight funs) (sym (expr.rolls-Any es))
    ∙ fold-roll-Expr ℕ ℕ (expr_weight_step funs) (λ x. x.value) (layer.Any es)

pub weight_Not : (funs : List ℕ) (e : Expr) → expr_weight funs (expr.Not e)
    ≡ expr_weight_step funs (layer.Not (expr_weight funs e))
weight_Not funs e = ap (expr_weight funs) (sym (expr.rolls-Not e)) ∙ fold-roll-Expr ℕ ℕ (expr_weight_step funs) (λ x.
    x.value) (layer.Not e)

pub weight_Apply : (funs : List ℕ) (f : ℕ) (es : List Expr)
    → expr_weight funs (expr.Apply f es) ≡ expr_weight_step funs (layer.Apply f (map (expr_weight funs) es))
weight_Apply funs f es = ap (expr_weight funs) (sym (expr.rolls-Apply f es))
    ∙ fold-roll-Expr ℕ ℕ (expr_weight_step funs) (λ x. x.value) (layer.Apply f es)

pub weight_Cell : (funs : List ℕ) (s : ℕ) → expr_weight funs (expr.Cell s None)
    ≡ expr_weight_step funs (layer.Cell s None)
weight_Cell funs s = ap (expr_weight funs) (sym (expr.rolls-Cell s None))
    ∙ fold-roll-Expr ℕ ℕ (expr_weight_step funs) (λ x. x.value) (layer.Cell s None)

pub weight_Entry : (funs : List ℕ) (s : ℕ) (k : Expr)
    → expr_weight funs (expr.Cell s (Some k)) ≡ expr_weight_step funs (layer.Cell s (Some (expr_weight funs k)))
weight_Entry funs s k = ap (expr_weight funs) (sym (expr.rolls-Cell s (Some k)))
    ∙ fold-roll-Expr ℕ ℕ (expr_weight_step funs) (λ x. x.value) (layer.Cell s (Some k))

pub weight_Let : (funs : List ℕ) (e : Expr) → stmt_weight funs (stmt.Let e) ≡ stmt_weight_step funs (stmt_layer.Let e)
weight_Let funs e = ap (stmt_weight funs) (sym (stmt.rolls-Let e))
    ∙ fold-roll-Stmt ℕ (stmt_weight_step funs) (stmt_layer.Let e)

pub weight_Set : (funs : List ℕ) (s : ℕ) (k : Option Expr) (e : Expr)
    → stmt_weight funs (stmt.Set s k e) ≡ stmt_weight_step funs (stmt_layer.Set s k e)
weight_Set funs s k e = ap (stmt_weight funs) (sym (stmt.rolls-Set s k e))
    ∙ fold-roll-Stmt ℕ (stmt_weight_step funs) (stmt_layer.Set s k e)

pub weight_If : (funs : List ℕ) (e : Expr) (ys os : List Stmt)
    → stmt_weight funs (stmt.If e ys os) ≡ stmt_weight_step funs (stmt_layer.If e (map (stmt_weight funs) ys) (map
    (stmt_weight funs) os))
weight_If funs e ys os = ap (stmt_weight funs) (sym (stmt.rolls-If e ys os))
    ∙ fold-roll-Stmt ℕ (stmt_weight_step funs) (stmt_layer.If e ys os)

pub weight_Case : (funs : List ℕ) (e : Expr) (ys os : List Stmt)
    → stmt_weight funs (stmt.Case e ys os) ≡ stmt_weight_step funs (stmt_layer.Case e (map (stmt_weight funs) ys)
    (map (stmt_weight funs) os))
weight_Case funs e ys os = ap (stmt_weight funs) (sym (stmt.rolls-Case e ys os))
    ∙ fold-roll-Stmt ℕ (stmt_weight_step funs) (stmt_layer.Case e ys os)

pub weight_Assume : (funs : List ℕ) (e : Expr) → stmt_weight funs (stmt.Assume e)
    ≡ stmt_weight_step funs (stmt_layer.Assume e)
weight_Assume funs e = ap (stmt_weight funs) (sym (stmt.rolls-Assume e))
    ∙ fold-roll-Stmt ℕ (stmt_weight_step funs) (stmt_layer.Assume e)

pub weight_Return : (funs : List ℕ) (e : Expr) → stmt_weight funs (stmt.Return e)
    ≡ stmt_weight_step funs (stmt_layer.Return e)
weight_Return funs e = ap (stmt_weight funs) (sym (stmt.rolls-Return e))
    ∙ fold-roll-Stmt ℕ (stmt_weight_step funs) (stmt_layer.Return e)
