-- The tables of functions that write and block are well typed.
use Rattle.std.proofs.Common.{refl, arith}
use Rattle.cm_model.specs.WellTyped.{IsWellTyped}
use Rattle.cm_value.proofs.Types.{out_enum, fold-enum}
use Rattle.cm_samples.specs.Functions.{routines_tables}
use Rattle.cm_samples.proofs.Forms.{fold-tag, fold-whole, fold-all, fold-any, fold-apply, fold-set, fold-assume}
use Rattle.cm_samples.proofs.Forms.{fold-return, set-at, assume-at, return-at, same-enum}

pub routines_is_well_typed : IsWellTyped routines_tables
unfolding routines_tables
routines_is_well_typed = record {
  few_sorts = omega arith;
  few_ints = omega arith;
  few_enums = omega arith;
  few_records = omega arith;
  few_states = omega arith;
  few_funs = omega arith;
  few_calls = omega arith;
  distinct = refl;
  names = refl;
  ranges = refl;
  bool = refl;
  variants = refl;
  fields = refl;
  cells = simp (fold-enum);
  functions = simp (
    assume-at,
    fold-assume,
    set-at,
    return-at,
    fold-set,
    fold-return,
    fold-tag,
    fold-whole,
    same-enum,
    out_enum,
    fold-enum,
  );
  bodies = simp (
    set-at,
    return-at,
    fold-set,
    fold-assume,
    fold-return,
    fold-tag,
    fold-all,
    fold-any,
    fold-apply,
    fold-whole,
    same-enum,
    out_enum,
    fold-enum,
  );
}
