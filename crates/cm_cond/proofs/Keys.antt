-- A field that has no part leaves a record without a value.
use Rattle.std.proofs.Common.{◌≡◌, ◌<◌, ℕ, suc, zero, List, [], ◌∷◌, map, length, drop, None, refl, arith}
use Rattle.cm_model.specs.declared.ty.Part.{Part}
use Rattle.cm_value.specs.declared.value.Value.{Value}
use Rattle.cm_cond.specs.Keys.{fields_after}

pub left_over : (done : List Value) (fs : List Part) (n : ℕ) → n < length fs
    → fields_after done [] (map (λ p. p.ty) (drop n fs)) ≡ None
left_over done [] n lt = absurd (omega (arith, lt))
left_over done (f ∷ fs) zero lt = refl
left_over done (f ∷ fs) (suc n) lt = left_over done fs n (omega (arith, lt))
