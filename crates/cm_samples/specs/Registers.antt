-- Models whose cells hold elements of a sort.
use Rattle.std.specs.Prelude.{[], ◌∷◌, codes, Some, None}
use Rattle.cm_model.specs.Tables.{Tables, tables}
use Rattle.cm_model.specs.declared.ty.Ty.TheVariants as ty
use Rattle.cm_model.specs.declared.body.Expr.TheVariants as expr
use Rattle.cm_model.specs.declared.body.Stmt.TheVariants as stmt
use Rattle.cm_model.specs.declared.body.Call.{Call}
use Rattle.cm_samples.specs.Parts.{bool_enum, bool, truth, cell, map_from, part, routine}

-- call get() -> V { return x; }
abbrev pub get_call : Call
get_call = routine (codes "get") [] 0 (ty.Sort 0) (stmt.Return (expr.Cell 0 None) ∷ [])

-- call put(v: V) -> bool { x = v; return true; }
abbrev pub put_call : Call
put_call = routine (codes "put") (part (codes "v") (ty.Sort 0) ∷ []) 1 bool (stmt.Set 0 None (expr.Local 0)
    ∷ stmt.Return truth ∷ [])

-- sort V; state x: V; and the calls
unfoldable pub reg_tables : Tables
reg_tables = tables (codes "V" ∷ []) [] (bool_enum ∷ []) [] (cell (codes "x") (ty.Sort 0) None ∷ [])
    [] (get_call ∷ put_call ∷ [])

-- call put(k: K, v: V) -> bool { m[k] = v; return true; }
abbrev pub store_call : Call
store_call =
    routine (codes "put") (part (codes "k") (ty.Sort 0) ∷ part (codes "v") (ty.Sort 1) ∷ []) 2 bool
    (stmt.Set 0 (Some (expr.Local 0)) (expr.Local 1) ∷ stmt.Return truth ∷ [])

-- sort K; sort V; state m: map K -> V; and the call
unfoldable pub map_tables : Tables
map_tables = tables (codes "K" ∷ codes "V" ∷ []) [] (bool_enum ∷ []) [] (map_from (codes "m") (ty.Sort 0)
    (ty.Sort 1) None ∷ []) [] (store_call ∷ [])

-- call set(v: V) -> bool { x = some(v); return true; }
abbrev pub fill_call : Call
fill_call = routine (codes "set") (part (codes "v") (ty.Sort 0) ∷ []) 1 bool
    (stmt.Set 0 None (expr.SomeOf (expr.Local 0)) ∷ stmt.Return truth ∷ [])

-- sort V; state x: option(V); and the call
unfoldable pub opt_tables : Tables
opt_tables = tables (codes "V" ∷ []) [] (bool_enum ∷ []) [] (cell (codes "x") (ty.Option (ty.Sort 0)) None ∷ [])
    [] (fill_call ∷ [])
