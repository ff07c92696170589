-- A model of a record: compared, with its fields set, and one field read.
use Rattle.std.specs.Prelude.{List, [], ◌∷◌, codes, None}
use Rattle.cm_model.specs.Tables.{Tables, tables}
use Rattle.cm_model.specs.declared.ty.Ty.TheVariants as ty
use Rattle.cm_model.specs.declared.ty.RecDecl.{RecDecl}
use Rattle.cm_model.specs.declared.body.SetField.{SetField}
use Rattle.cm_model.specs.declared.body.Expr.TheVariants as expr
use Rattle.cm_model.specs.declared.body.Stmt.{Stmt}
use Rattle.cm_model.specs.declared.body.Stmt.TheVariants as stmt
use Rattle.cm_model.specs.declared.body.StateDecl.{StateDecl}
use Rattle.cm_model.specs.declared.body.Call.{Call}
use Rattle.cm_samples.specs.Parts.{bool_enum, cell, part, routine, same_call}

-- record P { x: E, y: E }
abbrev pub point : RecDecl
point = record { name = codes "P"; fields = part (codes "x") (ty.Sort 0) ∷ part (codes "y") (ty.Sort 0) ∷ [] }

-- state p: P; state q: P; state l: E; state r: E;
abbrev pub points_and_elements : List StateDecl
points_and_elements =
    cell (codes "p") (ty.Rec 0) None ∷ cell (codes "q") (ty.Rec 0) None ∷ cell (codes "l") (ty.Sort 0) None
    ∷ cell (codes "r") (ty.Sort 0) None ∷ []

-- { y: r, x: l }
abbrev pub right_and_left : List SetField
right_and_left = record { field = 1; value = expr.Cell 3 None } ∷ record { field = 0; value = expr.Cell 2 None } ∷ []

-- p = p with { y: r, x: l };
abbrev pub fill_it : Stmt
fill_it = stmt.Set 0 None (expr.With (expr.Cell 0 None) right_and_left)

-- call fill() -> P { p = p with { y: r, x: l }; return p; }
abbrev pub fill_call : Call
fill_call = routine (codes "fill") [] 0 (ty.Rec 0) (fill_it ∷ stmt.Return (expr.Cell 0 None) ∷ [])

-- call first() -> E { return p.x; }
abbrev pub first_call : Call
first_call = routine (codes "first") [] 0 (ty.Sort 0) (stmt.Return (expr.Fields (expr.Cell 0 None) (0 ∷ [])) ∷ [])

-- sort E; the record, the states and the calls
unfoldable pub records_tables : Tables
records_tables = tables (codes "E" ∷ []) [] (bool_enum ∷ []) (point ∷ []) points_and_elements []
    (same_call ∷ fill_call ∷ first_call ∷ [])
