-- More or fewer values than types are no values of them.
use Rattle.std.proofs.Common.{◌≡◌, ◌≢◌, Bool, true, false, ◌&&◌, List, [], ◌∷◌, map, length, suc, refl, ap, arith}
use Rattle.std.proofs.lemmas.List.{length-map}
use Rattle.cm_model.specs.Tables.{Tables}
use Rattle.cm_model.specs.declared.ty.Ty.{Ty}
use Rattle.cm_value.specs.declared.value.Value.{Value}
use Rattle.cm_value.specs.Membership.{is_value_of, are_values_of}

not_both : (a b : Bool) → b ≡ false → (a && b) ≡ false
not_both true b e = e
not_both false b e = refl

more_or_fewer : (t : Tables) (tys : List Ty) (vs : List Value) → length vs ≢ length tys → are_values_of t tys vs ≡ false
more_or_fewer t [] [] uneven = absurd (uneven refl)
more_or_fewer t [] (v ∷ vs) uneven = refl
more_or_fewer t (u ∷ tys) [] uneven = refl
more_or_fewer t (u ∷ tys) (v ∷ vs) uneven = not_both (is_value_of t u v) (are_values_of t tys vs)
    (more_or_fewer t tys vs (λ e. uneven (ap suc e)))

pub uneven : {Z : Type 0} (t : Tables) (f : Z → Ty) (zs : List Z) (vs : List Value) → length vs ≢ length zs
    → are_values_of t (map f zs) vs ≡ false
uneven t f zs vs ne = more_or_fewer t (map f zs) vs (λ e. ne (omega (arith, e, length-map zs f)))
