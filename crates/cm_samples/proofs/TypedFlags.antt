-- The tables of flags are well typed.
use Rattle.std.proofs.Common.{refl, arith}
use Rattle.cm_model.specs.WellTyped.{IsWellTyped}
use Rattle.cm_value.proofs.Types.{out_sort, out_enum, fold-sort, fold-enum}
use Rattle.cm_samples.specs.Flags.{open_tables, fire_tables, unset_tables}
use Rattle.cm_samples.proofs.Forms.{fold-tag, fold-local, fold-whole, fold-read, fold-not, fold-set, fold-if}
use Rattle.cm_samples.proofs.Forms.{fold-assume, fold-return, set-at, if-at, assume-at, return-at, same-sort, same-enum}

pub open_is_well_typed : IsWellTyped open_tables
unfolding open_tables
open_is_well_typed = record {
  few_sorts = omega arith;
  few_ints = omega arith;
  few_enums = omega arith;
  few_records = omega arith;
  few_states = omega arith;
  few_funs = omega arith;
  few_calls = omega arith;
  distinct = refl;
  names = refl;
  ranges = refl;
  bool = refl;
  variants = refl;
  fields = refl;
  cells = simp (fold-sort, fold-enum);
  functions = refl;
  bodies = simp (
    assume-at,
    fold-assume,
    set-at,
    return-at,
    fold-set,
    fold-return,
    fold-tag,
    fold-not,
    fold-read,
    fold-local,
    same-sort,
    same-enum,
    out_sort,
    out_enum,
    fold-sort,
    fold-enum,
  );
}

pub fire_is_well_typed : IsWellTyped fire_tables
unfolding fire_tables
fire_is_well_typed = record {
  few_sorts = omega arith;
  few_ints = omega arith;
  few_enums = omega arith;
  few_records = omega arith;
  few_states = omega arith;
  few_funs = omega arith;
  few_calls = omega arith;
  distinct = refl;
  names = refl;
  ranges = refl;
  bool = refl;
  variants = refl;
  fields = refl;
  cells = simp (fold-enum);
  functions = refl;
  bodies = simp (
    if-at,
    fold-if,
    set-at,
    return-at,
    fold-set,
    fold-return,
    fold-tag,
    fold-whole,
    same-enum,
    out_enum,
    fold-enum,
  );
}

pub unset_is_well_typed : IsWellTyped unset_tables
unfolding unset_tables
unset_is_well_typed = record {
  few_sorts = omega arith;
  few_ints = omega arith;
  few_enums = omega arith;
  few_records = omega arith;
  few_states = omega arith;
  few_funs = omega arith;
  few_calls = omega arith;
  distinct = refl;
  names = refl;
  ranges = refl;
  bool = refl;
  variants = refl;
  fields = refl;
  cells = simp (fold-not, fold-local, same-enum, out_enum, fold-sort, fold-enum);
  functions = refl;
  bodies = simp (
    set-at,
    return-at,
    fold-set,
    fold-return,
    fold-tag,
    fold-local,
    same-sort,
    same-enum,
    out_sort,
    out_enum,
    fold-sort,
    fold-enum,
  );
}
