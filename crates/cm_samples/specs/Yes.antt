-- A model whose one call only replies.
use Rattle.std.specs.Prelude.{[], ◌∷◌, codes}
use Rattle.cm_model.specs.Tables.{Tables, tables}
use Rattle.cm_model.specs.declared.body.Stmt.TheVariants as stmt
use Rattle.cm_samples.specs.Parts.{bool_enum, bool, truth, routine}

-- call yes() -> bool { return true; }
unfoldable pub yes_tables : Tables
yes_tables = tables [] [] (bool_enum ∷ []) [] [] [] (routine (codes "yes") [] 0 bool (stmt.Return truth ∷ []) ∷ [])
