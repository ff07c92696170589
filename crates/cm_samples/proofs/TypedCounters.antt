-- The tables of numbers are well typed.
use Rattle.std.proofs.Common.{refl, arith}
use Rattle.cm_model.specs.WellTyped.{IsWellTyped}
use Rattle.cm_value.proofs.Types.{out_int, out_enum, fold-int_type, fold-enum}
use Rattle.cm_samples.specs.Counters.{inc_tables, next_tables, bounded_tables, max_tables}
use Rattle.cm_samples.proofs.Forms.{fold-num, fold-tag, fold-local, fold-whole, fold-shift, fold-into, fold-compare}
use Rattle.cm_samples.proofs.Forms.{fold-let, fold-set, fold-if, fold-return, let-at, set-at, if-at, return-at}
use Rattle.cm_samples.proofs.Forms.{same-int, same-enum}

pub inc_is_well_typed : IsWellTyped inc_tables
unfolding inc_tables
inc_is_well_typed = record {
  few_sorts = omega arith;
  few_ints = omega arith;
  few_enums = omega arith;
  few_records = omega arith;
  few_states = omega arith;
  few_funs = omega arith;
  few_calls = omega arith;
  distinct = refl;
  names = refl;
  ranges = refl;
  bool = refl;
  variants = refl;
  fields = refl;
  cells = simp (fold-int_type);
  functions = refl;
  bodies = simp (
    set-at,
    return-at,
    fold-set,
    fold-return,
    fold-tag,
    fold-into,
    fold-shift,
    fold-whole,
    same-int,
    same-enum,
    out_int,
    out_enum,
    fold-int_type,
    fold-enum,
  );
}

pub next_is_well_typed : IsWellTyped next_tables
unfolding next_tables
next_is_well_typed = record {
  few_sorts = omega arith;
  few_ints = omega arith;
  few_enums = omega arith;
  few_records = omega arith;
  few_states = omega arith;
  few_funs = omega arith;
  few_calls = omega arith;
  distinct = refl;
  names = refl;
  ranges = refl;
  bool = refl;
  variants = refl;
  fields = refl;
  cells = simp (fold-int_type);
  functions = refl;
  bodies = simp (
    let-at,
    fold-let,
    set-at,
    return-at,
    fold-set,
    fold-return,
    fold-local,
    fold-into,
    fold-shift,
    fold-whole,
    same-int,
    out_int,
    fold-int_type,
  );
}

pub bounded_is_well_typed : IsWellTyped bounded_tables
unfolding bounded_tables
bounded_is_well_typed = record {
  few_sorts = omega arith;
  few_ints = omega arith;
  few_enums = omega arith;
  few_records = omega arith;
  few_states = omega arith;
  few_funs = omega arith;
  few_calls = omega arith;
  distinct = refl;
  names = refl;
  ranges = refl;
  bool = refl;
  variants = refl;
  fields = refl;
  cells = simp (fold-compare, fold-local, fold-num, same-enum, out_int, out_enum, fold-int_type);
  functions = refl;
  bodies = simp (
    set-at,
    return-at,
    fold-set,
    fold-return,
    fold-tag,
    fold-into,
    fold-shift,
    fold-whole,
    same-int,
    same-enum,
    out_int,
    out_enum,
    fold-int_type,
    fold-enum,
  );
}

pub max_is_well_typed : IsWellTyped max_tables
unfolding max_tables
max_is_well_typed = record {
  few_sorts = omega arith;
  few_ints = omega arith;
  few_enums = omega arith;
  few_records = omega arith;
  few_states = omega arith;
  few_funs = omega arith;
  few_calls = omega arith;
  distinct = refl;
  names = refl;
  ranges = refl;
  bool = refl;
  variants = refl;
  fields = refl;
  cells = simp (fold-int_type);
  functions = refl;
  bodies = simp (
    if-at,
    fold-if,
    set-at,
    return-at,
    fold-set,
    fold-return,
    fold-tag,
    fold-compare,
    fold-local,
    fold-whole,
    same-int,
    same-enum,
    out_int,
    out_enum,
    fold-int_type,
    fold-enum,
  );
}
