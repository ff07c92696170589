-- The tables of a record are well typed.
use Rattle.std.proofs.Common.{refl, arith}
use Rattle.cm_model.specs.WellTyped.{IsWellTyped}
use Rattle.cm_value.proofs.Types.{out_sort, out_enum, out_rec, fold-sort, fold-enum, fold-record}
use Rattle.cm_samples.specs.Points.{records_tables}
use Rattle.cm_samples.proofs.Forms.{fold-whole, fold-fields, fold-with, fold-field, fold-compare, fold-set, fold-return}
use Rattle.cm_samples.proofs.Forms.{set-at, return-at, same-sort, same-enum, same-record}

pub records_is_well_typed : IsWellTyped records_tables
unfolding records_tables
records_is_well_typed = record {
  few_sorts = omega arith;
  few_ints = omega arith;
  few_enums = omega arith;
  few_records = omega arith;
  few_states = omega arith;
  few_funs = omega arith;
  few_calls = omega arith;
  distinct = refl;
  names = refl;
  ranges = refl;
  bool = refl;
  variants = refl;
  fields = simp (fold-sort, fold-record);
  cells = simp (fold-sort, fold-record);
  functions = refl;
  bodies = simp (
    set-at,
    return-at,
    fold-set,
    fold-return,
    fold-fields,
    fold-with,
    fold-field,
    fold-compare,
    fold-whole,
    same-sort,
    same-enum,
    same-record,
    out_sort,
    out_enum,
    out_rec,
    fold-sort,
    fold-enum,
    fold-record,
  );
}
