-- A model as deep as models may be: each of 64 functions calls the one before it inside 62 negations.
use Rattle.std.specs.Prelude.{ℕ, zero, suc, ◌+◌, ◌/◌, ◌%◌, List, [], ◌∷◌, ◌++◌, codes}
use Rattle.cm_model.specs.Tables.{Tables, tables}
use Rattle.cm_model.specs.declared.body.Expr.{Expr}
use Rattle.cm_model.specs.declared.body.Expr.TheVariants as expr
use Rattle.cm_model.specs.declared.body.Stmt.TheVariants as stmt
use Rattle.cm_model.specs.declared.body.Call.{Call}
use Rattle.cm_samples.specs.Parts.{bool_enum, bool, truth, routine}

-- so many negations around an expression
unfoldable pub negations : ℕ → Expr → Expr
negations zero e = e
negations (suc n) e = expr.Not (negations n e)

-- the values of f at the numbers below n, in order
unfoldable pub firsts : {X : Type 0} → (ℕ → X) → ℕ → List X
firsts f zero = []
firsts f (suc n) = firsts f n ++ f n ∷ []

-- f00, f01 and so on
abbrev pub fun_name : ℕ → List ℕ
fun_name n = 102 ∷ (48 + n / 10) ∷ (48 + n % 10) ∷ []

-- the function before, or true in the first one
abbrev pub innermost : ℕ → Expr
innermost zero = truth
innermost (suc n) = expr.Apply n []

-- fn f01() -> bool { return not .. not f00(); }
abbrev pub deep_fun : ℕ → Call
deep_fun n = routine (fun_name n) [] 0 bool (stmt.Return (negations 62 (innermost n)) ∷ [])

-- call run() -> bool { return f63(); }
abbrev pub run_call : Call
run_call = routine (codes "run") [] 0 bool (stmt.Return (expr.Apply 63 []) ∷ [])

-- the functions and the call
unfoldable pub deepest_tables : Tables
deepest_tables = tables [] [] (bool_enum ∷ []) [] [] (firsts deep_fun 64) (run_call ∷ [])
