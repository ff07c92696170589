-- The least value of a type.
use Rattle.std.specs.Prelude.{ℤ, pos, List, [], map, slice_get, Option, Some, None}
use Rattle.cm_model.specs.Tables.{Tables}
use Rattle.cm_model.specs.Types.{record_values}
use Rattle.cm_model.specs.declared.ty.Ty.{Ty, out-Ty}
use Rattle.cm_model.specs.declared.ty.Ty.TheOpen.{Ty-F}
use Rattle.cm_model.specs.declared.ty.IntDecl.{IntDecl}
use Rattle.cm_model.specs.declared.ty.RecDecl.{RecDecl}
use Rattle.cm_value.specs.declared.value.Value.{Value}
use Rattle.cm_value.specs.declared.value.Value.TheVariants as value

abbrev pub lowest : Option IntDecl → ℤ
lowest (Some d) = d.lo
lowest None = pos 0

abbrev pub or_empty : Option Value → Value
or_empty (Some v) = v
or_empty None = value.Rec []

-- by the form of the type, where these are the least values of the records
abbrev pub least_form : List IntDecl → List Value → Ty-F Ty → Value
least_form ints records (Ty-F.Sort s) = value.Elem 0
least_form ints records (Ty-F.Int i) = value.Int (lowest (slice_get ints i))
least_form ints records (Ty-F.Enum e) = value.Tag 0
least_form ints records (Ty-F.Rec r) = or_empty (slice_get records r)
least_form ints records (Ty-F.Option payload) = value.None

abbrev pub least_in : List IntDecl → List Value → Ty → Value
least_in ints records ty = least_form ints records (out-Ty ty)

-- the record of the least values of its fields
abbrev pub least_record : List IntDecl → List Value → RecDecl → Value
least_record ints before d = value.Rec (map (λ p. least_in ints before p.ty) d.fields)

-- the least values of the records, each from those of the records before it
unfoldable pub least_records : List IntDecl → List RecDecl → List Value
least_records ints = record_values (least_record ints) []

abbrev pub least_of : Tables → Ty → Value
least_of t = least_in t.ints (least_records t.ints t.records)
