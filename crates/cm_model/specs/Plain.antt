-- Expressions that hold no state's name, no call of a function and no `N(e)`.
use Rattle.std.specs.Prelude.{ℕ, Bool, true, false, ◌&&◌, List}
use Rattle.std.specs.List.{list_all}
use Rattle.cm_model.specs.declared.body.Expr.{Expr}
use Rattle.cm_model.specs.declared.body.Expr.TheOpen.{Expr-F}
use Rattle.cm_model.specs.declared.body.Expr.TheFolds.{fold-Expr}

abbrev pub plain_step : Expr-F Bool Bool → Bool
plain_step (Expr-F.Num n) = true
plain_step (Expr-F.Tag e i) = true
plain_step (Expr-F.Local i) = true
plain_step (Expr-F.Cell state key) = false
plain_step (Expr-F.Fields e path) = e
plain_step (Expr-F.With e sets) = e && list_all (λ b. b) sets
plain_step (Expr-F.Make r parts) = list_all (λ b. b) parts
plain_step (Expr-F.NoneOf t) = true
plain_step (Expr-F.SomeOf e) = e
plain_step (Expr-F.Shift e by) = e
plain_step (Expr-F.Into i e) = false
plain_step (Expr-F.Compare o left right) = left && right
plain_step (Expr-F.All es) = list_all (λ b. b) es
plain_step (Expr-F.Any es) = list_all (λ b. b) es
plain_step (Expr-F.Not e) = e
plain_step (Expr-F.Apply f args) = false

abbrev pub is_plain : Expr → Bool
is_plain = fold-Expr Bool Bool plain_step (λ x. x.value)
