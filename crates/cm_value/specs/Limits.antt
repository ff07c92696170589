-- How large the numbers in a value are.
use Rattle.std.specs.Prelude.{ltb, Bool, true}
use Rattle.std.specs.List.{list_all}
use Rattle.cm_model.specs.Limits.{variant_limit, is_number}
use Rattle.cm_value.specs.declared.value.Value.{Value}
use Rattle.cm_value.specs.declared.value.Value.TheOpen.{Value-F}
use Rattle.cm_value.specs.declared.value.Value.TheFolds.{fold-Value}

abbrev pub limited_step : Value-F Bool → Bool
limited_step (Value-F.Elem n) = true
limited_step (Value-F.Int n) = is_number n
limited_step (Value-F.Tag n) = ltb n variant_limit
limited_step (Value-F.Rec parts) = list_all (λ part. part) parts
limited_step Value-F.None = true
limited_step (Value-F.Some payload) = payload

-- every number in a value is near enough to 0, and every variant's number is one that a variant may have
abbrev pub is_limited : Value → Bool
is_limited = fold-Value Bool limited_step
