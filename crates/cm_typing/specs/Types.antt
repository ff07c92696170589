-- What types that are written are told to be.
use Rattle.std.specs.Prelude.{ℕ, List, Option, Some, None}
use Rattle.cm_model.specs.declared.place.Place.{Place}
use Rattle.cm_syntax.specs.declared.tree.«Type».{«Type» as TypeTree}
use Rattle.cm_syntax.specs.declared.tree.«Type».TheOpen as layer
use Rattle.cm_syntax.specs.declared.tree.«Type».TheFolds.{fold-Type}
use Rattle.cm_typing.specs.declared.flat.Flat.{Flat}
use Rattle.cm_typing.specs.declared.names.Entry.{Entry}
use Rattle.cm_typing.specs.declared.names.Entry.TheVariants as entry
use Rattle.cm_typing.specs.Told.{Told, fine, given, refused}
use Rattle.cm_typing.specs.Names.{Names, look}
use Rattle.cm_typing.specs.Flats.{sort_flat, int_flat, enum_flat, bool_flat, option_of}
use Rattle.cm_typing.specs.Rules as rules

abbrev pub type_named : Place → Option Entry → Told (Option Flat)
type_named at (Some (entry.Sort n)) = fine (Some (sort_flat n))
type_named at (Some (entry.Int n)) = fine (Some (int_flat n))
type_named at (Some (entry.Enum n)) = fine (Some (enum_flat n))
type_named at (Some (entry.Record n t fields)) = fine t
type_named at _ = refused None rules.unknown at

abbrev pub type_step : layer.Type-F (Names → Told (Option Flat)) → Names → Told (Option Flat)
type_step (layer.Bool at) d = fine (Some bool_flat)
type_step (layer.Named at n) d = type_named at (look n d)
type_step (layer.Optional at t) d = given (t d) (option_of at)

-- the type that is written, where these names are declared
abbrev pub type_told : TypeTree → Names → Told (Option Flat)
type_told = fold-Type (Names → Told (Option Flat)) type_step
