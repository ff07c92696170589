-- The tables of elements are well typed.
use Rattle.std.proofs.Common.{refl, arith}
use Rattle.cm_model.specs.WellTyped.{IsWellTyped}
use Rattle.cm_value.proofs.Types.{out_sort, out_enum, out_option, fold-sort, fold-enum, fold-option}
use Rattle.cm_samples.specs.Registers.{reg_tables, map_tables, opt_tables}
use Rattle.cm_samples.proofs.Forms.{fold-tag, fold-local, fold-whole, fold-some, fold-set, fold-return, set-at}
use Rattle.cm_samples.proofs.Forms.{return-at, same-sort, same-enum, same-option}

pub reg_is_well_typed : IsWellTyped reg_tables
unfolding reg_tables
reg_is_well_typed = record {
  few_sorts = omega arith;
  few_ints = omega arith;
  few_enums = omega arith;
  few_records = omega arith;
  few_states = omega arith;
  few_funs = omega arith;
  few_calls = omega arith;
  distinct = refl;
  names = refl;
  ranges = refl;
  bool = refl;
  variants = refl;
  fields = refl;
  cells = simp (fold-sort);
  functions = refl;
  bodies = simp (
    set-at,
    return-at,
    fold-set,
    fold-return,
    fold-tag,
    fold-whole,
    fold-local,
    same-sort,
    same-enum,
    out_sort,
    out_enum,
    fold-sort,
    fold-enum,
  );
}

pub map_is_well_typed : IsWellTyped map_tables
unfolding map_tables
map_is_well_typed = record {
  few_sorts = omega arith;
  few_ints = omega arith;
  few_enums = omega arith;
  few_records = omega arith;
  few_states = omega arith;
  few_funs = omega arith;
  few_calls = omega arith;
  distinct = refl;
  names = refl;
  ranges = refl;
  bool = refl;
  variants = refl;
  fields = refl;
  cells = simp (fold-sort);
  functions = refl;
  bodies = simp (
    set-at,
    return-at,
    fold-set,
    fold-return,
    fold-tag,
    fold-local,
    same-sort,
    same-enum,
    out_sort,
    out_enum,
    fold-sort,
    fold-enum,
  );
}

pub opt_is_well_typed : IsWellTyped opt_tables
unfolding opt_tables
opt_is_well_typed = record {
  few_sorts = omega arith;
  few_ints = omega arith;
  few_enums = omega arith;
  few_records = omega arith;
  few_states = omega arith;
  few_funs = omega arith;
  few_calls = omega arith;
  distinct = refl;
  names = refl;
  ranges = refl;
  bool = refl;
  variants = refl;
  fields = refl;
  cells = simp (fold-sort, fold-option);
  functions = refl;
  bodies = simp (
    set-at,
    return-at,
    fold-set,
    fold-return,
    fold-tag,
    fold-some,
    fold-local,
    same-sort,
    same-option,
    same-enum,
    out_sort,
    out_enum,
    out_option,
    fold-sort,
    fold-enum,
    fold-option,
  );
}
