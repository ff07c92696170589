-- The tables of options are well typed.
use Rattle.std.proofs.Common.{refl, arith}
use Rattle.cm_model.specs.WellTyped.{IsWellTyped}
use Rattle.cm_value.proofs.Types.{out_sort, out_enum, out_option, fold-sort, fold-enum, fold-option}
use Rattle.cm_samples.specs.Options.{payloads_tables}
use Rattle.cm_samples.proofs.Forms.{fold-local, fold-whole, fold-compare, fold-case, fold-return, case-at, return-at}
use Rattle.cm_samples.proofs.Forms.{same-sort, same-enum, same-option}

pub payloads_is_well_typed : IsWellTyped payloads_tables
unfolding payloads_tables
payloads_is_well_typed = record {
  few_sorts = omega arith;
  few_ints = omega arith;
  few_enums = omega arith;
  few_records = omega arith;
  few_states = omega arith;
  few_funs = omega arith;
  few_calls = omega arith;
  distinct = refl;
  names = refl;
  ranges = refl;
  bool = refl;
  variants = refl;
  fields = refl;
  cells = simp (fold-sort, fold-option);
  functions = refl;
  bodies = simp (
    case-at,
    fold-case,
    return-at,
    fold-return,
    fold-compare,
    fold-local,
    fold-whole,
    same-sort,
    same-enum,
    same-option,
    out_sort,
    out_enum,
    out_option,
    fold-sort,
    fold-enum,
  );
}
