-- Models whose cells are bools.
use Rattle.std.specs.Prelude.{[], ◌∷◌, codes, Some, None}
use Rattle.cm_model.specs.Tables.{Tables, tables}
use Rattle.cm_model.specs.declared.ty.Ty.TheVariants as ty
use Rattle.cm_model.specs.declared.body.Expr.{Expr}
use Rattle.cm_model.specs.declared.body.Expr.TheVariants as expr
use Rattle.cm_model.specs.declared.body.Stmt.TheVariants as stmt
use Rattle.cm_model.specs.declared.body.Stmt.{Stmt}
use Rattle.cm_model.specs.declared.body.Call.{Call}
use Rattle.cm_samples.specs.Parts.{bool_enum, bool, truth, on_and_out, map_from, part, routine}

-- assume not used[d];
abbrev pub assume_unused : Stmt
assume_unused = stmt.Assume (expr.Not (expr.Cell 0 (Some (expr.Local 0))))

-- call open(; internal d: Fd) -> Fd { assume not used[d]; used[d] = true; return d; }
abbrev pub open_call : Call
open_call = routine (codes "open") (part (codes "d") (ty.Sort 0) ∷ []) 0 (ty.Sort 0)
    (assume_unused ∷ stmt.Set 0 (Some (expr.Local 0)) truth ∷ stmt.Return (expr.Local 0) ∷ [])

-- sort Fd; state used: map Fd -> bool; and the call
unfoldable pub open_tables : Tables
open_tables = tables (codes "Fd" ∷ []) [] (bool_enum ∷ []) [] (map_from (codes "used") (ty.Sort 0) bool None ∷ [])
    [] (open_call ∷ [])

-- call set() -> bool { on = true; return true; }
abbrev pub set_call : Call
set_call = routine (codes "set") [] 0 bool (stmt.Set 0 None truth ∷ stmt.Return truth ∷ [])

-- if on { out = true; }
abbrev pub fire_if_on : Stmt
fire_if_on = stmt.If (expr.Cell 0 None) (stmt.Set 1 None truth ∷ []) []

-- call fire() -> bool { if on { out = true; } return true; }
abbrev pub fire_call : Call
fire_call = routine (codes "fire") [] 0 bool (fire_if_on ∷ stmt.Return truth ∷ [])

-- state on: bool; state out: bool; and the calls
unfoldable pub fire_tables : Tables
fire_tables = tables [] [] (bool_enum ∷ []) [] on_and_out [] (set_call ∷ fire_call ∷ [])

-- not it
abbrev pub is_unset : Expr
is_unset = expr.Not (expr.Local 0)

-- call put(k: K) -> bool { m[k] = true; return true; }
abbrev pub mark_call : Call
mark_call = routine (codes "put") (part (codes "k") (ty.Sort 0) ∷ []) 1 bool (stmt.Set 0 (Some (expr.Local 0)) truth
    ∷ stmt.Return truth ∷ [])

-- sort K; state m: map K -> bool where not it; and the call
unfoldable pub unset_tables : Tables
unset_tables = tables (codes "K" ∷ []) [] (bool_enum ∷ []) [] (map_from (codes "m") (ty.Sort 0) bool (Some is_unset)
    ∷ []) [] (mark_call ∷ [])
