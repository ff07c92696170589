-- How many nodes stand in an expression or statement, those of the called functions among them; and how
-- many shifts stand one inside another.
use Rattle.std.specs.Prelude.{ℕ, ◌+◌, max, ℤ, List, [], ◌∷◌, ◌++◌, map, sum, slice_get, Option, Some, None}
use Rattle.cm_model.specs.Types.{or_else}
use Rattle.cm_model.specs.declared.body.Call.{Call}
use Rattle.cm_model.specs.declared.body.Expr.{Expr}
use Rattle.cm_model.specs.declared.body.Expr.TheOpen.{Expr-F}
use Rattle.cm_model.specs.declared.body.Expr.TheFolds.{fold-Expr}
use Rattle.cm_model.specs.declared.body.Stmt.{Stmt}
use Rattle.cm_model.specs.declared.body.Stmt.TheOpen.{Stmt-F}
use Rattle.cm_model.specs.declared.body.Stmt.TheFolds.{fold-Stmt}

abbrev pub expr_weight_step : List ℕ → Expr-F ℕ ℕ → ℕ
expr_weight_step funs (Expr-F.Num n) = 1
expr_weight_step funs (Expr-F.Tag e i) = 1
expr_weight_step funs (Expr-F.Local i) = 1
expr_weight_step funs (Expr-F.Cell state key) = 1 + or_else 0 key
expr_weight_step funs (Expr-F.Fields e path) = 1 + e
expr_weight_step funs (Expr-F.With e sets) = 1 + e + sum sets
expr_weight_step funs (Expr-F.Make r parts) = 1 + sum parts
expr_weight_step funs (Expr-F.NoneOf t) = 1
expr_weight_step funs (Expr-F.SomeOf e) = 1 + e
expr_weight_step funs (Expr-F.Shift e by) = 1 + e
expr_weight_step funs (Expr-F.Into i e) = 1 + e
expr_weight_step funs (Expr-F.Compare o left right) = 1 + left + right
expr_weight_step funs (Expr-F.All es) = 1 + sum es
expr_weight_step funs (Expr-F.Any es) = 1 + sum es
expr_weight_step funs (Expr-F.Not e) = 1 + e
expr_weight_step funs (Expr-F.Apply f args) = 1 + sum args + or_else 0 (slice_get funs f)

-- where the functions have these weights
abbrev pub expr_weight : List ℕ → Expr → ℕ
expr_weight funs = fold-Expr ℕ ℕ (expr_weight_step funs) (λ x. x.value)

abbrev pub stmt_weight_step : List ℕ → Stmt-F ℕ → ℕ
stmt_weight_step funs (Stmt-F.Let e) = 1 + expr_weight funs e
stmt_weight_step funs (Stmt-F.Set state key e) = 1 + key_weight key + expr_weight funs e
  where
    key_weight : Option Expr → ℕ
    key_weight (Some k) = expr_weight funs k
    key_weight None = 0
stmt_weight_step funs (Stmt-F.If c left right) = 1 + expr_weight funs c + sum left + sum right
stmt_weight_step funs (Stmt-F.Case e left right) = 1 + expr_weight funs e + sum left + sum right
stmt_weight_step funs (Stmt-F.Assume c) = 1 + expr_weight funs c
stmt_weight_step funs (Stmt-F.Return e) = 1 + expr_weight funs e

abbrev pub stmt_weight : List ℕ → Stmt → ℕ
stmt_weight funs = fold-Stmt ℕ (stmt_weight_step funs)

abbrev pub body_weight : List ℕ → List Stmt → ℕ
body_weight funs body = sum (map (stmt_weight funs) body)

-- the weights of functions, after those of the functions before them
abbrev pub weights_from : List ℕ → List Call → List ℕ
weights_from before [] = before
weights_from before (f ∷ fs) = weights_from (before ++ body_weight before f.body ∷ []) fs

abbrev pub fun_weights : List Call → List ℕ
fun_weights = weights_from []

abbrev pub greatest : List ℕ → ℕ
greatest [] = 0
greatest (n ∷ ns) = max n (greatest ns)

-- the depth of an expression, from those of its numerals, its variants and what a shift adds; elsewhere it is the
-- greatest depth of a part
abbrev pub depth_step : (ℤ → ℕ) → (ℕ → ℕ) → (ℤ → ℕ → ℕ) → Expr-F ℕ ℕ → ℕ
depth_step number variant shift (Expr-F.Num n) = number n
depth_step number variant shift (Expr-F.Tag e i) = variant i
depth_step number variant shift (Expr-F.Local i) = 0
depth_step number variant shift (Expr-F.Cell state key) = or_else 0 key
depth_step number variant shift (Expr-F.Fields e path) = e
depth_step number variant shift (Expr-F.With e sets) = max e (greatest sets)
depth_step number variant shift (Expr-F.Make r parts) = greatest parts
depth_step number variant shift (Expr-F.NoneOf t) = 0
depth_step number variant shift (Expr-F.SomeOf e) = e
depth_step number variant shift (Expr-F.Shift e by) = shift by e
depth_step number variant shift (Expr-F.Into i e) = e
depth_step number variant shift (Expr-F.Compare o left right) = max left right
depth_step number variant shift (Expr-F.All es) = greatest es
depth_step number variant shift (Expr-F.Any es) = greatest es
depth_step number variant shift (Expr-F.Not e) = e
depth_step number variant shift (Expr-F.Apply f args) = greatest args

-- the depth of a statement, from those of its expressions
abbrev pub key_depth : (Expr → ℕ) → Option Expr → ℕ
key_depth depth (Some k) = depth k
key_depth depth None = 0

abbrev pub stmt_depth_step : (Expr → ℕ) → Stmt-F ℕ → ℕ
stmt_depth_step depth (Stmt-F.Let e) = depth e
stmt_depth_step depth (Stmt-F.Set state key e) = max (key_depth depth key) (depth e)
stmt_depth_step depth (Stmt-F.If c left right) = max (depth c) (max (greatest left) (greatest right))
stmt_depth_step depth (Stmt-F.Case e left right) = max (depth e) (max (greatest left) (greatest right))
stmt_depth_step depth (Stmt-F.Assume c) = depth c
stmt_depth_step depth (Stmt-F.Return e) = depth e

-- how many shifts stand one inside another
abbrev pub shifts_step : Expr-F ℕ ℕ → ℕ
shifts_step = depth_step (λ n. 0) (λ i. 0) (λ by depth. 1 + depth)

abbrev pub shifts_of : Expr → ℕ
shifts_of = fold-Expr ℕ ℕ shifts_step (λ x. x.value)

abbrev pub stmt_shifts_step : Stmt-F ℕ → ℕ
stmt_shifts_step = stmt_depth_step shifts_of

abbrev pub body_shifts : List Stmt → ℕ
body_shifts body = greatest (map (fold-Stmt ℕ stmt_shifts_step) body)
