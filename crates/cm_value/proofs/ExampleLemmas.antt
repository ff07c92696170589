-- The example's tables are well typed.
use Rattle.std.proofs.Common.{◌≡◌, ℕ, pos, false, List, [], ◌∷◌, codes, refl, subst, arith}
use Rattle.cm_model.specs.Tables.{tables}
use Rattle.cm_model.specs.Types.{IsType}
use Rattle.cm_model.specs.declared.ty.Ty.TheVariants as ty
use Rattle.cm_model.specs.declared.ty.IntDecl.{IntDecl}
use Rattle.cm_model.specs.declared.ty.EnumDecl.{EnumDecl}
use Rattle.cm_model.specs.declared.ty.RecDecl.{RecDecl}
use Rattle.cm_model.specs.declared.body.StateDecl.{StateDecl}
use Rattle.cm_model.specs.declared.body.Call.{Call}
use Rattle.cm_model.specs.WellTyped.{IsWellTyped}
use Rattle.cm_value.specs.declared.value.Value.TheVariants as value
use Rattle.cm_value.specs.Membership.{is_value_of, IsValueOf}
use Rattle.cm_value.specs.Least.{least_of, least_records}
use Rattle.cm_value.specs.Relabelling.{relabelled}
use Rattle.cm_value.proofs.Members.{member-elem, member-int, member-rec}
use Rattle.cm_value.proofs.Relabelled.{relabel-elem, relabel-int, relabel-tag, relabel-rec, relabel-some}
use Rattle.cm_value.proofs.Types.{out_sort, out_int, out_enum, out_rec, out_option, fold-sort, fold-int_type, fold-enum}
use Rattle.cm_value.proofs.Types.{fold-record, fold-option}
use Rattle.cm_value.specs.Example.{example, example_ints, example_enums, point, node}

pub example_is_well_typed : IsWellTyped example
unfolding example
example_is_well_typed = record {
  few_sorts = omega arith;
  few_ints = omega arith;
  few_enums = omega arith;
  few_records = omega arith;
  few_states = omega arith;
  few_funs = omega arith;
  few_calls = omega arith;
  distinct = refl;
  names = refl;
  ranges = refl;
  bool = refl;
  variants = refl;
  fields = simp (fold-sort, fold-int_type, fold-enum, fold-record, fold-option);
  cells = refl;
  functions = refl;
  bodies = refl;
}

-- tables with the example's parts
pub parts_well_typed : (names : List (List ℕ)) (ints : List IntDecl) (enums : List EnumDecl) (records : List RecDecl)
    (states : List StateDecl) (funs calls : List Call)
    → names ≡ codes "K" ∷ codes "L" ∷ [] → ints ≡ example_ints → enums ≡ example_enums → records ≡ point ∷ node ∷ []
    → states ≡ [] → funs ≡ [] → calls ≡ []
    → IsWellTyped (tables names ints enums records states funs calls)
unfolding example
parts_well_typed names ints enums records states funs calls a b c d e f g =
    let same : example ≡ tables names ints enums records states funs calls = rw (a, b, c, d, e, f, g) refl in
    subst IsWellTyped same example_is_well_typed

-- tables with the example's parts are the example
pub parts_are : (names : List (List ℕ)) (ints : List IntDecl) (enums : List EnumDecl) (records : List RecDecl)
    (states : List StateDecl) (funs calls : List Call)
    → names ≡ codes "K" ∷ codes "L" ∷ [] → ints ≡ example_ints → enums ≡ example_enums → records ≡ point ∷ node ∷ []
    → states ≡ [] → funs ≡ [] → calls ≡ []
    → tables names ints enums records states funs calls ≡ example
unfolding example
parts_are names ints enums records states funs calls a b c d e f g = rw (a, b, c, d, e, f, g) refl

-- types of the example
pub sort_type : IsType example (ty.Sort 1)
unfolding example
sort_type = simp (fold-sort, fold-int_type, fold-enum, fold-record, fold-option)

pub int_type : IsType example (ty.Int 0)
unfolding example
int_type = simp (fold-sort, fold-int_type, fold-enum, fold-record, fold-option)

pub enum_type : IsType example (ty.Enum 1)
unfolding example
enum_type = simp (fold-sort, fold-int_type, fold-enum, fold-record, fold-option)

pub record_type : IsType example (ty.Rec 1)
unfolding example
record_type = simp (fold-sort, fold-int_type, fold-enum, fold-record, fold-option)

pub option_type : IsType example (ty.Option (ty.Rec 0))
unfolding example
option_type = simp (fold-sort, fold-int_type, fold-enum, fold-record, fold-option)

-- the least node
pub least_node : least_of example (ty.Rec 1) ≡ value.Rec (value.Rec (value.Elem 0 ∷ value.Int (pos 2) ∷ [])
    ∷ value.None ∷ value.Tag 0 ∷ value.Elem 0 ∷ [])
unfolding example least_records
least_node = simp (out_sort, out_int, out_enum, out_rec, out_option)

pub point_is : IsValueOf example (ty.Rec 0) (value.Rec (value.Elem 0 ∷ value.Int (pos 5) ∷ []))
unfolding example
point_is = simp (member-elem, member-int, member-rec, out_sort, out_int, out_rec)

pub too_large : is_value_of example (ty.Rec 0) (value.Rec (value.Elem 0 ∷ value.Int (pos 6) ∷ [])) ≡ false
unfolding example
too_large = simp (member-elem, member-int, member-rec, out_sort, out_int, out_rec)

pub too_few : is_value_of example (ty.Rec 0) (value.Rec (value.Elem 0 ∷ [])) ≡ false
unfolding example
too_few = simp (member-elem, member-int, member-rec, out_sort, out_int, out_rec)

pub element_exchanged : relabelled example (record { sort = 0; x = 0; y = 1 }) (ty.Sort 0) (value.Elem 0) ≡ value.Elem 1
unfolding example
element_exchanged = simp (relabel-elem, out_sort)

pub node_exchanged : relabelled example (record { sort = 0; x = 0; y = 1 }) (ty.Rec 1)
    (value.Rec (value.Rec (value.Elem 0 ∷ value.Int (pos 2) ∷ []) ∷ value.Some (value.Elem 1) ∷ value.Tag 1
    ∷ value.Elem 1 ∷ []))
    ≡ value.Rec (value.Rec (value.Elem 1 ∷ value.Int (pos 2) ∷ []) ∷ value.Some (value.Elem 0) ∷ value.Tag 1
    ∷ value.Elem 1 ∷ [])
unfolding example
node_exchanged = simp (
  relabel-elem,
  relabel-int,
  relabel-tag,
  relabel-rec,
  relabel-some,
  out_sort,
  out_int,
  out_enum,
  out_rec,
  out_option,
)
