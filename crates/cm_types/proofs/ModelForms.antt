-- What a fold gives for each form of an expression or statement of a model.
use Rattle.std.proofs.Common.{◌≡◌, ℕ, ℤ, List, map, Option, Some, None, sym, ap, ◌∙◌}
use Rattle.cm_model.specs.declared.ty.Ty.{Ty}
use Rattle.cm_model.specs.declared.body.Op.{Op}
use Rattle.cm_model.specs.declared.body.Expr.{Expr}
use Rattle.cm_model.specs.declared.body.Expr.TheVariants as expr
use Rattle.cm_model.specs.declared.body.Expr.TheOpen as layer
use Rattle.cm_model.specs.declared.body.Expr.TheFolds.{fold-Expr, fold-roll-Expr}
use Rattle.cm_model.specs.declared.body.SetField.{SetField, fold-SetField, roll-SetField, fold-roll-SetField}
use Rattle.cm_model.specs.declared.body.Stmt.{Stmt}
use Rattle.cm_model.specs.declared.body.Stmt.TheVariants as stmt
use Rattle.cm_model.specs.declared.body.Stmt.TheOpen as stmt_layer
use Rattle.cm_model.specs.declared.body.Stmt.TheFolds.{fold-Stmt, fold-roll-Stmt}

module _ {X Y : Type 0} (f : layer.Expr-F X Y → X) (g : layer.SetField-F X Y → Y) where
  abbrev pub value_of : Expr → X
  value_of = fold-Expr X Y f g

  abbrev pub set_of : SetField → Y
  set_of = fold-SetField X Y f g

  pub of_Num : (n : ℤ)
      → value_of (expr.Num n) ≡ f (layer.Num n)
  of_Num n = ap value_of (sym (expr.rolls-Num n)) ∙ fold-roll-Expr X Y f g (layer.Num n)

  pub of_Tag : (e : ℕ) (i : ℕ)
      → value_of (expr.Tag e i) ≡ f (layer.Tag e i)
  of_Tag e i = ap value_of (sym (expr.rolls-Tag e i)) ∙ fold-roll-Expr X Y f g (layer.Tag e i)

  pub of_Local : (i : ℕ)
      → value_of (expr.Local i) ≡ f (layer.Local i)
  of_Local i = ap value_of (sym (expr.rolls-Local i)) ∙ fold-roll-Expr X Y f g (layer.Local i)

  pub of_Fields : (e : Expr) (path : List ℕ)
      → value_of (expr.Fields e path) ≡ f (layer.Fields (value_of e) path)
  of_Fields e path = ap value_of (sym (expr.rolls-Fields e path)) ∙ fold-roll-Expr X Y f g (layer.Fields e path)

  pub of_With : (e : Expr) (sets : List SetField)
      → value_of (expr.With e sets) ≡ f (layer.With (value_of e) (map set_of sets))
  of_With e sets = ap value_of (sym (expr.rolls-With e sets)) ∙ fold-roll-Expr X Y f g (layer.With e sets)

  pub of_Make : (r : ℕ) (es : List Expr)
      → value_of (expr.Make r es) ≡ f (layer.Make r (map value_of es))
  of_Make r es = ap value_of (sym (expr.rolls-Make r es)) ∙ fold-roll-Expr X Y f g (layer.Make r es)

  pub of_NoneOf : (t : Ty)
      → value_of (expr.NoneOf t) ≡ f (layer.NoneOf t)
  of_NoneOf t = ap value_of (sym (expr.rolls-NoneOf t)) ∙ fold-roll-Expr X Y f g (layer.NoneOf t)

  pub of_SomeOf : (e : Expr)
      → value_of (expr.SomeOf e) ≡ f (layer.SomeOf (value_of e))
  of_SomeOf e = ap value_of (sym (expr.rolls-SomeOf e)) ∙ fold-roll-Expr X Y f g (layer.SomeOf e)

  pub of_Shift : (e : Expr) (by : ℤ)
      → value_of (expr.Shift e by) ≡ f (layer.Shift (value_of e) by)
  of_Shift e by = ap value_of (sym (expr.rolls-Shift e by)) ∙ fold-roll-Expr X Y f g (layer.Shift e by)

  pub of_Into : (i : ℕ) (e : Expr)
      → value_of (expr.Into i e) ≡ f (layer.Into i (value_of e))
  of_Into i e = ap value_of (sym (expr.rolls-Into i e)) ∙ fold-roll-Expr X Y f g (layer.Into i e)

  pub of_Compare : (o : Op) (l : Expr) (r : Expr)
      → value_of (expr.Compare o l r) ≡ f (layer.Compare o (value_of l) (value_of r))
  of_Compare o l r = ap value_of (sym (expr.rolls-Compare o l r)) ∙ fold-roll-Expr X Y f g (layer.Compare o l r)

  pub of_All : (es : List Expr)
      → value_of (expr.All es) ≡ f (layer.All (map value_of es))
  of_All es = ap value_of (sym (expr.rolls-All es)) ∙ fold-roll-Expr X Y f g (layer.All es)

  pub of_Any : (es : List Expr)
      → value_of (expr.Any es) ≡ f (layer.Any (map value_of es))
  of_Any es = ap value_of (sym (expr.rolls-Any es)) ∙ fold-roll-Expr X Y f g (layer.Any es)

  pub of_Not : (e : Expr)
      → value_of (expr.Not e) ≡ f (layer.Not (value_of e))
  of_Not e = ap value_of (sym (expr.rolls-Not e)) ∙ fold-roll-Expr X Y f g (layer.Not e)

  pub of_Apply : (k : ℕ) (es : List Expr)
      → value_of (expr.Apply k es) ≡ f (layer.Apply k (map value_of es))
  of_Apply k es = ap value_of (sym (expr.rolls-Apply k es)) ∙ fold-roll-Expr X Y f g (layer.Apply k es)

  pub of_Cell : (s : ℕ) → value_of (expr.Cell s None) ≡ f (layer.Cell s None)
  of_Cell s = ap value_of (sym (expr.rolls-Cell s None)) ∙ fold-roll-Expr X Y f g (layer.Cell s None)

  pub of_Entry : (s : ℕ) (k : Expr) → value_of (expr.Cell s (Some k)) ≡ f (layer.Cell s (Some (value_of k)))
  of_Entry s k = ap value_of (sym (expr.rolls-Cell s (Some k))) ∙ fold-roll-Expr X Y f g (layer.Cell s (Some k))

  pub of_set : (i : ℕ) (e : Expr) → set_of (roll-SetField (record { field = i; value = e }))
      ≡ g (record { field = i; value = value_of e })
  of_set i e = fold-roll-SetField X Y f g (record { field = i; value = e })

module _ {X : Type 0} (f : stmt_layer.Stmt-F X → X) where
  abbrev pub meaning_of : Stmt → X
  meaning_of = fold-Stmt X f

  pub of_Let : (e : Expr)
      → meaning_of (stmt.Let e) ≡ f (stmt_layer.Let e)
  of_Let e = ap meaning_of (sym (stmt.rolls-Let e)) ∙ fold-roll-Stmt X f (stmt_layer.Let e)

  pub of_Set : (s : ℕ) (k : Option Expr) (e : Expr)
      → meaning_of (stmt.Set s k e) ≡ f (stmt_layer.Set s k e)
  of_Set s k e = ap meaning_of (sym (stmt.rolls-Set s k e)) ∙ fold-roll-Stmt X f (stmt_layer.Set s k e)

  pub of_If : (e : Expr) (ys : List Stmt) (os : List Stmt)
      → meaning_of (stmt.If e ys os) ≡ f (stmt_layer.If e (map meaning_of ys) (map meaning_of os))
  of_If e ys os = ap meaning_of (sym (stmt.rolls-If e ys os)) ∙ fold-roll-Stmt X f (stmt_layer.If e ys os)

  pub of_Case : (e : Expr) (ys : List Stmt) (os : List Stmt)
      → meaning_of (stmt.Case e ys os) ≡ f (stmt_layer.Case e (map meaning_of ys) (map meaning_of os))
  of_Case e ys os = ap meaning_of (sym (stmt.rolls-Case e ys os)) ∙ fold-roll-Stmt X f (stmt_layer.Case e ys os)

  pub of_Assume : (e : Expr)
      → meaning_of (stmt.Assume e) ≡ f (stmt_layer.Assume e)
  of_Assume e = ap meaning_of (sym (stmt.rolls-Assume e)) ∙ fold-roll-Stmt X f (stmt_layer.Assume e)

  pub of_Return : (e : Expr)
      → meaning_of (stmt.Return e) ≡ f (stmt_layer.Return e)
  of_Return e = ap meaning_of (sym (stmt.rolls-Return e)) ∙ fold-roll-Stmt X f (stmt_layer.Return e)
