-- The tables of types of each form are well typed.
use Rattle.std.proofs.Common.{refl, arith}
use Rattle.cm_model.specs.WellTyped.{IsWellTyped}
use Rattle.cm_value.proofs.Types.{fold-sort, fold-int_type, fold-enum, fold-record, fold-option}
use Rattle.cm_samples.specs.Kinds.{kinds_tables}

pub kinds_is_well_typed : IsWellTyped kinds_tables
unfolding kinds_tables
kinds_is_well_typed = record {
  few_sorts = omega arith;
  few_ints = omega arith;
  few_enums = omega arith;
  few_records = omega arith;
  few_states = omega arith;
  few_funs = omega arith;
  few_calls = omega arith;
  distinct = refl;
  names = refl;
  ranges = refl;
  bool = refl;
  variants = refl;
  fields = simp (fold-sort, fold-int_type, fold-enum, fold-record, fold-option);
  cells = refl;
  functions = refl;
  bodies = refl;
}
