-- A small model, for examples: two sorts, an integer type from 2 to 5, an enum of three variants, a record
-- of an element and a number, and a record that holds that one, an option, a variant and an element.
use Rattle.std.specs.Prelude.{pos, List, [], ◌∷◌, codes}
use Rattle.cm_model.specs.Tables.{Tables, tables}
use Rattle.cm_model.specs.declared.ty.Ty.TheVariants as ty
use Rattle.cm_model.specs.declared.ty.IntDecl.{IntDecl}
use Rattle.cm_model.specs.declared.ty.EnumDecl.{EnumDecl}
use Rattle.cm_model.specs.declared.ty.RecDecl.{RecDecl}

abbrev pub example_ints : List IntDecl
example_ints = record { name = codes "count"; lo = pos 2; hi = pos 5 } ∷ []

abbrev pub example_enums : List EnumDecl
example_enums =
    record { name = codes "bool"; variants = codes "false" ∷ codes "true" ∷ [] }
    ∷ record { name = codes "colour"; variants = codes "red" ∷ codes "green" ∷ codes "blue" ∷ [] } ∷ []

abbrev pub point : RecDecl
point = record {
  name = codes "point";
  fields = record { name = codes "at"; ty = ty.Sort 0 }
      ∷ record { name = codes "size"; ty = ty.Int 0 } ∷ [];
}

abbrev pub node : RecDecl
node = record {
  name = codes "node";
  fields =
      record { name = codes "place"; ty = ty.Rec 0 } ∷ record { name = codes "next"; ty = ty.Option (ty.Sort 0) }
      ∷ record { name = codes "shade"; ty = ty.Enum 1 } ∷ record { name = codes "owner"; ty = ty.Sort 1 } ∷ [];
}

unfoldable pub example : Tables
example = tables (codes "K" ∷ codes "L" ∷ []) example_ints example_enums (point ∷ node ∷ []) [] [] []
