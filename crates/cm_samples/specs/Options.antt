-- A model of options: compared, and opened.
use Rattle.std.specs.Prelude.{List, [], ◌∷◌, codes, None}
use Rattle.cm_model.specs.Tables.{Tables, tables}
use Rattle.cm_model.specs.declared.ty.Ty.{Ty}
use Rattle.cm_model.specs.declared.ty.Ty.TheVariants as ty
use Rattle.cm_model.specs.declared.body.Expr.TheVariants as expr
use Rattle.cm_model.specs.declared.body.Stmt.{Stmt}
use Rattle.cm_model.specs.declared.body.Stmt.TheVariants as stmt
use Rattle.cm_model.specs.declared.body.StateDecl.{StateDecl}
use Rattle.cm_model.specs.declared.body.Call.{Call}
use Rattle.cm_samples.specs.Parts.{bool_enum, cell, part, routine, same_call}

-- option(E)
abbrev pub optional : Ty
optional = ty.Option (ty.Sort 0)

-- state x: option(E); state y: option(E);
abbrev pub two_options : List StateDecl
two_options = cell (codes "x") optional None ∷ cell (codes "y") optional None ∷ []

-- case x { none { return d; } some v { return v; } }
abbrev pub payload_or : Stmt
payload_or = stmt.Case (expr.Cell 0 None) (stmt.Return (expr.Local 0) ∷ []) (stmt.Return (expr.Local 1) ∷ [])

-- call payload(d: E) -> E { case x { none { return d; } some v { return v; } } }
abbrev pub payload_call : Call
payload_call = routine (codes "payload") (part (codes "d") (ty.Sort 0) ∷ []) 1 (ty.Sort 0) (payload_or ∷ [])

-- sort E; the states and the calls
unfoldable pub payloads_tables : Tables
payloads_tables = tables (codes "E" ∷ []) [] (bool_enum ∷ []) [] two_options [] (same_call ∷ payload_call ∷ [])
