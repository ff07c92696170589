-- What a fold gives for each form of expression and statement.
use Rattle.std.proofs.Common.{◌≡◌, ℕ, ℤ, Bool, List, map, Option, Some, None, sym, ap, ◌∙◌}
use Rattle.cm_model.specs.declared.ty.Ty.{Ty, out-Ty}
use Rattle.cm_model.specs.declared.ty.Ty.TheVariants as ty
use Rattle.cm_model.specs.declared.ty.Ty.TheOpen.{Ty-F}
use Rattle.cm_model.specs.Types.{same_ty, same_step}
use Rattle.cm_value.proofs.Types.{fold-sort, fold-int_type, fold-enum, fold-record, fold-option}
use Rattle.cm_model.specs.declared.body.Op.{Op}
use Rattle.cm_model.specs.declared.body.SetField.{SetField, fold-SetField, out-SetField, roll-out-SetField}
use Rattle.cm_model.specs.declared.body.SetField.{fold-roll-SetField}
use Rattle.cm_model.specs.declared.body.Expr.{Expr}
use Rattle.cm_model.specs.declared.body.Expr.TheVariants as expr
use Rattle.cm_model.specs.declared.body.Expr.TheOpen.{Expr-F, SetField-F}
use Rattle.cm_model.specs.declared.body.Expr.TheFolds.{fold-Expr, fold-roll-Expr}
use Rattle.cm_model.specs.declared.body.Stmt.{Stmt}
use Rattle.cm_model.specs.declared.body.Stmt.TheVariants as stmt
use Rattle.cm_model.specs.declared.body.Stmt.TheOpen.{Stmt-F}
use Rattle.cm_model.specs.declared.body.Stmt.TheFolds.{fold-Stmt, fold-roll-Stmt}

module _ {A B : Type 0} (f : Expr-F A B → A) (g : SetField-F A B → B) where
  pub fold-num : (n : ℤ) → fold-Expr A B f g (expr.Num n) ≡ f (Expr-F.Num n)
  fold-num n = ap (fold-Expr A B f g) (sym (expr.rolls-Num n)) ∙ fold-roll-Expr A B f g (Expr-F.Num n)

  pub fold-tag : (e i : ℕ) → fold-Expr A B f g (expr.Tag e i) ≡ f (Expr-F.Tag e i)
  fold-tag e i = ap (fold-Expr A B f g) (sym (expr.rolls-Tag e i)) ∙ fold-roll-Expr A B f g (Expr-F.Tag e i)

  pub fold-local : (i : ℕ) → fold-Expr A B f g (expr.Local i) ≡ f (Expr-F.Local i)
  fold-local i = ap (fold-Expr A B f g) (sym (expr.rolls-Local i)) ∙ fold-roll-Expr A B f g (Expr-F.Local i)

  pub fold-whole : (s : ℕ) → fold-Expr A B f g (expr.Cell s None) ≡ f (Expr-F.Cell s None)
  fold-whole s = ap (fold-Expr A B f g) (sym (expr.rolls-Cell s None)) ∙ fold-roll-Expr A B f g (Expr-F.Cell s None)

  pub fold-read : (s : ℕ) (e : Expr) → fold-Expr A B f g (expr.Cell s (Some e))
      ≡ f (Expr-F.Cell s (Some (fold-Expr A B f g e)))
  fold-read s e = ap (fold-Expr A B f g) (sym (expr.rolls-Cell s (Some e))) ∙ fold-roll-Expr A B f g
      (Expr-F.Cell s (Some e))

  pub fold-fields : (e : Expr) (path : List ℕ) → fold-Expr A B f g (expr.Fields e path)
      ≡ f (Expr-F.Fields (fold-Expr A B f g e) path)
  fold-fields e path = ap (fold-Expr A B f g) (sym (expr.rolls-Fields e path))
      ∙ fold-roll-Expr A B f g (Expr-F.Fields e path)

  pub fold-with : (e : Expr) (sets : List SetField) → fold-Expr A B f g (expr.With e sets)
      ≡ f (Expr-F.With (fold-Expr A B f g e) (map (fold-SetField A B f g) sets))
  fold-with e sets = ap (fold-Expr A B f g) (sym (expr.rolls-With e sets)) ∙ fold-roll-Expr A B f g (Expr-F.With e sets)

  pub fold-make : (r : ℕ) (es : List Expr) → fold-Expr A B f g (expr.Make r es)
      ≡ f (Expr-F.Make r (map (fold-Expr A B f g) es))
  fold-make r es = ap (fold-Expr A B f g) (sym (expr.rolls-Make r es)) ∙ fold-roll-Expr A B f g (Expr-F.Make r es)

  pub fold-none : (t : Ty) → fold-Expr A B f g (expr.NoneOf t) ≡ f (Expr-F.NoneOf t)
  fold-none t = ap (fold-Expr A B f g) (sym (expr.rolls-NoneOf t)) ∙ fold-roll-Expr A B f g (Expr-F.NoneOf t)

  pub fold-some : (e : Expr) → fold-Expr A B f g (expr.SomeOf e) ≡ f (Expr-F.SomeOf (fold-Expr A B f g e))
  fold-some e = ap (fold-Expr A B f g) (sym (expr.rolls-SomeOf e)) ∙ fold-roll-Expr A B f g (Expr-F.SomeOf e)

  pub fold-shift : (e : Expr) (by : ℤ) → fold-Expr A B f g (expr.Shift e by) ≡ f (Expr-F.Shift (fold-Expr A B f g e) by)
  fold-shift e by = ap (fold-Expr A B f g) (sym (expr.rolls-Shift e by)) ∙ fold-roll-Expr A B f g (Expr-F.Shift e by)

  pub fold-into : (i : ℕ) (e : Expr) → fold-Expr A B f g (expr.Into i e) ≡ f (Expr-F.Into i (fold-Expr A B f g e))
  fold-into i e = ap (fold-Expr A B f g) (sym (expr.rolls-Into i e)) ∙ fold-roll-Expr A B f g (Expr-F.Into i e)

  pub fold-compare : (o : Op) (x y : Expr) → fold-Expr A B f g (expr.Compare o x y)
      ≡ f (Expr-F.Compare o (fold-Expr A B f g x) (fold-Expr A B f g y))
  fold-compare o x y = ap (fold-Expr A B f g) (sym (expr.rolls-Compare o x y))
      ∙ fold-roll-Expr A B f g (Expr-F.Compare o x y)

  pub fold-all : (es : List Expr) → fold-Expr A B f g (expr.All es) ≡ f (Expr-F.All (map (fold-Expr A B f g) es))
  fold-all es = ap (fold-Expr A B f g) (sym (expr.rolls-All es)) ∙ fold-roll-Expr A B f g (Expr-F.All es)

  pub fold-any : (es : List Expr) → fold-Expr A B f g (expr.Any es) ≡ f (Expr-F.Any (map (fold-Expr A B f g) es))
  fold-any es = ap (fold-Expr A B f g) (sym (expr.rolls-Any es)) ∙ fold-roll-Expr A B f g (Expr-F.Any es)

  pub fold-not : (e : Expr) → fold-Expr A B f g (expr.Not e) ≡ f (Expr-F.Not (fold-Expr A B f g e))
  fold-not e = ap (fold-Expr A B f g) (sym (expr.rolls-Not e)) ∙ fold-roll-Expr A B f g (Expr-F.Not e)

  pub fold-apply : (i : ℕ) (es : List Expr) → fold-Expr A B f g (expr.Apply i es)
      ≡ f (Expr-F.Apply i (map (fold-Expr A B f g) es))
  fold-apply i es = ap (fold-Expr A B f g) (sym (expr.rolls-Apply i es)) ∙ fold-roll-Expr A B f g (Expr-F.Apply i es)

  -- a field that is set
  pub fold-field : (i : ℕ) (e : Expr) → fold-SetField A B f g (record { field = i; value = e })
      ≡ g (record { field = i; value = fold-Expr A B f g e })
  fold-field i e = ap (fold-SetField A B f g) (sym (roll-out-SetField (record { field = i; value = e })))
      ∙ fold-roll-SetField A B f g (out-SetField (record { field = i; value = e }))

module _ {A : Type 0} (f : Stmt-F A → A) where
  pub fold-let : (e : Expr) → fold-Stmt A f (stmt.Let e) ≡ f (Stmt-F.Let e)
  fold-let e = ap (fold-Stmt A f) (sym (stmt.rolls-Let e)) ∙ fold-roll-Stmt A f (Stmt-F.Let e)

  pub fold-set : (s : ℕ) (key : Option Expr) (e : Expr) → fold-Stmt A f (stmt.Set s key e) ≡ f (Stmt-F.Set s key e)
  fold-set s key e = ap (fold-Stmt A f) (sym (stmt.rolls-Set s key e)) ∙ fold-roll-Stmt A f (Stmt-F.Set s key e)

  pub fold-if : (e : Expr) (xs ys : List Stmt) → fold-Stmt A f (stmt.If e xs ys)
      ≡ f (Stmt-F.If e (map (fold-Stmt A f) xs) (map (fold-Stmt A f) ys))
  fold-if e xs ys = ap (fold-Stmt A f) (sym (stmt.rolls-If e xs ys)) ∙ fold-roll-Stmt A f (Stmt-F.If e xs ys)

  pub fold-case : (e : Expr) (xs ys : List Stmt) → fold-Stmt A f (stmt.Case e xs ys)
      ≡ f (Stmt-F.Case e (map (fold-Stmt A f) xs) (map (fold-Stmt A f) ys))
  fold-case e xs ys = ap (fold-Stmt A f) (sym (stmt.rolls-Case e xs ys)) ∙ fold-roll-Stmt A f (Stmt-F.Case e xs ys)

  pub fold-assume : (e : Expr) → fold-Stmt A f (stmt.Assume e) ≡ f (Stmt-F.Assume e)
  fold-assume e = ap (fold-Stmt A f) (sym (stmt.rolls-Assume e)) ∙ fold-roll-Stmt A f (Stmt-F.Assume e)

  pub fold-return : (e : Expr) → fold-Stmt A f (stmt.Return e) ≡ f (Stmt-F.Return e)
  fold-return e = ap (fold-Stmt A f) (sym (stmt.rolls-Return e)) ∙ fold-roll-Stmt A f (Stmt-F.Return e)

-- the same where a fold gives functions
module _ {A X : Type 0} (f : Stmt-F (X → A) → X → A) where
  abbrev folded : Stmt → X → A
  folded = fold-Stmt (X → A) f

  pub let-at : (e : Expr) (x : X) → fold-Stmt (X → A) f (stmt.Let e) x ≡ f (Stmt-F.Let e) x
  let-at e x = ap (λ m. m x) (fold-let f e)

  pub set-at : (s : ℕ) (key : Option Expr) (e : Expr) (x : X) → fold-Stmt (X → A) f (stmt.Set s key e) x
      ≡ f (Stmt-F.Set s key e) x
  set-at s key e x = ap (λ m. m x) (fold-set f s key e)

  pub if-at : (e : Expr) (xs ys : List Stmt) (x : X) → fold-Stmt (X → A) f (stmt.If e xs ys) x
      ≡ f (Stmt-F.If e (map folded xs) (map folded ys)) x
  if-at e xs ys x = ap (λ m. m x) (fold-if f e xs ys)

  pub case-at : (e : Expr) (xs ys : List Stmt) (x : X) → fold-Stmt (X → A) f (stmt.Case e xs ys) x
      ≡ f (Stmt-F.Case e (map folded xs) (map folded ys)) x
  case-at e xs ys x = ap (λ m. m x) (fold-case f e xs ys)

  pub assume-at : (e : Expr) (x : X) → fold-Stmt (X → A) f (stmt.Assume e) x ≡ f (Stmt-F.Assume e) x
  assume-at e x = ap (λ m. m x) (fold-assume f e)

  pub return-at : (e : Expr) (x : X) → fold-Stmt (X → A) f (stmt.Return e) x ≡ f (Stmt-F.Return e) x
  return-at e x = ap (λ m. m x) (fold-return f e)

abbrev same_form : Ty-F (Ty → Bool) → Ty → Bool
same_form x other = same_step x (out-Ty other)

-- whether a type is another one, by its form
pub same-sort : (s : ℕ) (u : Ty) → same_ty (ty.Sort s) u ≡ same_step (Ty-F.Sort s) (out-Ty u)
same-sort s u = ap (λ (m : Ty → Bool). m u) (fold-sort same_form s)

pub same-int : (i : ℕ) (u : Ty) → same_ty (ty.Int i) u ≡ same_step (Ty-F.Int i) (out-Ty u)
same-int i u = ap (λ (m : Ty → Bool). m u) (fold-int_type same_form i)

pub same-enum : (e : ℕ) (u : Ty) → same_ty (ty.Enum e) u ≡ same_step (Ty-F.Enum e) (out-Ty u)
same-enum e u = ap (λ (m : Ty → Bool). m u) (fold-enum same_form e)

pub same-record : (r : ℕ) (u : Ty) → same_ty (ty.Rec r) u ≡ same_step (Ty-F.Rec r) (out-Ty u)
same-record r u = ap (λ (m : Ty → Bool). m u) (fold-record same_form r)

pub same-option : (v u : Ty) → same_ty (ty.Option v) u ≡ same_step (Ty-F.Option (same_ty v)) (out-Ty u)
same-option v u = ap (λ (m : Ty → Bool). m u) (fold-option same_form v)
