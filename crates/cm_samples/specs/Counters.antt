-- Models of one number.
use Rattle.std.specs.Prelude.{pos, [], ◌∷◌, codes, Some, None}
use Rattle.cm_model.specs.Tables.{Tables, tables}
use Rattle.cm_model.specs.declared.ty.Ty.TheVariants as ty
use Rattle.cm_model.specs.declared.ty.IntDecl.{IntDecl}
use Rattle.cm_model.specs.declared.body.Op.TheVariants as op
use Rattle.cm_model.specs.declared.body.Expr.{Expr}
use Rattle.cm_model.specs.declared.body.Expr.TheVariants as expr
use Rattle.cm_model.specs.declared.body.Stmt.{Stmt}
use Rattle.cm_model.specs.declared.body.Stmt.TheVariants as stmt
use Rattle.cm_model.specs.declared.body.Call.{Call}
use Rattle.cm_samples.specs.Parts.{bool_enum, bool, truth, cell, part, routine}

-- int C 0..3
abbrev pub counter : IntDecl
counter = record { name = codes "C"; lo = pos 0; hi = pos 3 }

-- n = C(n + 1);
abbrev pub count_on : Stmt
count_on = stmt.Set 0 None (expr.Into 0 (expr.Shift (expr.Cell 0 None) (pos 1)))

-- call inc() -> bool { n = C(n + 1); return true; }
abbrev pub inc_call : Call
inc_call = routine (codes "inc") [] 0 bool (count_on ∷ stmt.Return truth ∷ [])

-- int C 0..3; state n: C; and the call
unfoldable pub inc_tables : Tables
inc_tables = tables [] (counter ∷ []) (bool_enum ∷ []) [] (cell (codes "n") (ty.Int 0) None ∷ []) [] (inc_call ∷ [])

-- call next() -> C { let o = n; n = C(n + 1); return o; }
abbrev pub next_call : Call
next_call = routine (codes "next") [] 0 (ty.Int 0) (stmt.Let (expr.Cell 0 None) ∷ count_on ∷ stmt.Return (expr.Local 0)
    ∷ [])

-- int C 0..3; state n: C; and the call
unfoldable pub next_tables : Tables
next_tables = tables [] (counter ∷ []) (bool_enum ∷ []) [] (cell (codes "n") (ty.Int 0) None ∷ []) [] (next_call ∷ [])

-- it <= 2
abbrev pub at_most_two : Expr
at_most_two = expr.Compare op.Le (expr.Local 0) (expr.Num (pos 2))

-- int C 0..3; state n: C where it <= 2; and the call inc
unfoldable pub bounded_tables : Tables
bounded_tables = tables [] (counter ∷ []) (bool_enum ∷ []) [] (cell (codes "n") (ty.Int 0) (Some at_most_two) ∷ [])
    [] (inc_call ∷ [])

-- int P 0..9
abbrev pub price : IntDecl
price = record { name = codes "P"; lo = pos 0; hi = pos 9 }

-- if hi < v { hi = v; }
abbrev pub raise_it : Stmt
raise_it = stmt.If (expr.Compare op.Lt (expr.Cell 0 None) (expr.Local 0)) (stmt.Set 0 None (expr.Local 0) ∷ []) []

-- call raise(v: P) -> bool { if hi < v { hi = v; } return true; }
abbrev pub raise_call : Call
raise_call = routine (codes "raise") (part (codes "v") (ty.Int 0) ∷ []) 1 bool (raise_it ∷ stmt.Return truth ∷ [])

-- int P 0..9; state hi: P; and the call
unfoldable pub max_tables : Tables
max_tables = tables [] (price ∷ []) (bool_enum ∷ []) [] (cell (codes "hi") (ty.Int 0) None ∷ []) [] (raise_call ∷ [])
