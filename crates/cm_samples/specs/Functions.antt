-- A model whose functions write and block, and whose calls join two bools.
use Rattle.std.specs.Prelude.{[], ◌∷◌, codes, None}
use Rattle.cm_model.specs.Tables.{Tables, tables}
use Rattle.cm_model.specs.declared.body.Expr.TheVariants as expr
use Rattle.cm_model.specs.declared.body.Stmt.TheVariants as stmt
use Rattle.cm_model.specs.declared.body.Call.{Call}
use Rattle.cm_samples.specs.Parts.{bool_enum, bool, truth, on_and_out, routine}

-- fn mark() -> bool { out = true; return on; }
abbrev pub mark_fun : Call
mark_fun = routine (codes "mark") [] 0 bool (stmt.Set 1 None truth ∷ stmt.Return (expr.Cell 0 None) ∷ [])

-- fn need() -> bool { assume on; return true; }
abbrev pub need_fun : Call
need_fun = routine (codes "need") [] 0 bool (stmt.Assume (expr.Cell 0 None) ∷ stmt.Return truth ∷ [])

-- call tell() -> bool { return mark(); }
abbrev pub tell_call : Call
tell_call = routine (codes "tell") [] 0 bool (stmt.Return (expr.Apply 0 []) ∷ [])

-- call must() -> bool { out = true; return need(); }
abbrev pub must_call : Call
must_call = routine (codes "must") [] 0 bool (stmt.Set 1 None truth ∷ stmt.Return (expr.Apply 1 []) ∷ [])

-- call both() -> bool { return on and out; }
abbrev pub both_call : Call
both_call = routine (codes "both") [] 0 bool (stmt.Return (expr.All (expr.Cell 0 None ∷ expr.Cell 1 None ∷ [])) ∷ [])

-- call either() -> bool { return on or out; }
abbrev pub either_call : Call
either_call = routine (codes "either") [] 0 bool (stmt.Return (expr.Any (expr.Cell 0 None ∷ expr.Cell 1 None ∷ []))
    ∷ [])

-- state on: bool; state out: bool; the functions and the calls
unfoldable pub routines_tables : Tables
routines_tables = tables [] [] (bool_enum ∷ []) [] on_and_out (mark_fun ∷ need_fun ∷ [])
    (tell_call ∷ must_call ∷ both_call ∷ either_call ∷ [])
