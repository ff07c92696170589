-- Types of each form and no states or calls; four of them as the POSIX model has them.
use Rattle.std.specs.Prelude.{ℕ, List, [], ◌∷◌, codes, pos}
use Rattle.cm_model.specs.Tables.{Tables, tables}
use Rattle.cm_model.specs.declared.ty.Ty.TheVariants as ty
use Rattle.cm_model.specs.declared.ty.IntDecl.{IntDecl}
use Rattle.cm_model.specs.declared.ty.EnumDecl.{EnumDecl}
use Rattle.cm_model.specs.declared.ty.RecDecl.{RecDecl}
use Rattle.cm_samples.specs.Parts.{bool_enum, bool, part}

-- sort Ino; sort Byte;
abbrev pub two_sorts : List (List ℕ)
two_sorts = codes "Ino" ∷ codes "Byte" ∷ []

-- int Off 0..100000; int Few 0..3; int Five 5..5;
abbrev pub three_ints : List IntDecl
three_ints = record { name = codes "Off"; lo = pos 0; hi = pos 100000 } ∷ record {
  name = codes "Few";
  lo =
      pos 0;
  hi = pos 3;
}
    ∷ record { name = codes "Five"; lo = pos 5; hi = pos 5 } ∷ []

-- enum Kind { FILE, RPIPE, WPIPE }
abbrev pub kind_enum : EnumDecl
kind_enum = record { name = codes "Kind"; variants = codes "FILE" ∷ codes "RPIPE" ∷ codes "WPIPE" ∷ [] }

-- enum Only { ONLY }
abbrev pub only_enum : EnumDecl
only_enum = record { name = codes "Only"; variants = codes "ONLY" ∷ [] }

-- record Desc { kind: Kind, ino: Ino, off: Off }
abbrev pub desc : RecDecl
desc = record {
  name = codes "Desc";
  fields = part (codes "kind") (ty.Enum 1) ∷ part (codes "ino") (ty.Sort 0) ∷ part (codes "off") (ty.Int 0) ∷ [];
}

-- record Loc { ino: Ino, off: Off }
abbrev pub loc : RecDecl
loc = record { name = codes "Loc"; fields = part (codes "ino") (ty.Sort 0) ∷ part (codes "off") (ty.Int 0) ∷ [] }

-- record Mapping { file: option(Loc), w: bool, byte: Byte }
abbrev pub mapping : RecDecl
mapping = record {
  name = codes "Mapping";
  fields = part (codes "file") (ty.Option (ty.Rec 1)) ∷ part (codes "w") bool ∷ part (codes "byte") (ty.Sort 1) ∷ [];
}

-- record Spot { byte: Byte, at: Few }
abbrev pub spot : RecDecl
spot = record { name = codes "Spot"; fields = part (codes "byte") (ty.Sort 1) ∷ part (codes "at") (ty.Int 1) ∷ [] }

-- the sorts, the integer types, the enums and the records
unfoldable pub kinds_tables : Tables
kinds_tables = tables two_sorts three_ints (bool_enum ∷ kind_enum ∷ only_enum ∷ [])
    (desc ∷ loc ∷ mapping ∷ spot ∷ []) [] [] []
