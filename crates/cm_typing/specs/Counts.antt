-- Numbers that are counted up to the greatest of 64 bits.
use Rattle.std.specs.Prelude.{ℕ, ◌-◌, ◌^◌, min, List, slice_get}
use Rattle.cm_model.specs.declared.body.Expr.TheFolds.{fold-SetField}
use Rattle.cm_model.specs.declared.body.SetField.{SetField}
use Rattle.cm_model.specs.Types.{or_else}
use Rattle.cm_model.specs.Weights.{expr_weight_step}

abbrev pub counted : ℕ → ℕ
counted n = min n (2 ^ 64 - 1)

-- the weight of a set's value
abbrev pub set_weight : List ℕ → SetField → ℕ
set_weight funs = fold-SetField ℕ ℕ (expr_weight_step funs) (λ x. x.value)

-- the weight of a function; one that is not there weighs nothing
abbrev pub weight_at : List ℕ → ℕ → ℕ
weight_at funs f = or_else 0 (slice_get funs f)
