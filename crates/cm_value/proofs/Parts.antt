-- Values relabelled one after another.
use Rattle.std.proofs.Common.{◌≡◌, ℕ, zero, suc, ◌+◌, ◌<◌, List, [], ◌∷◌, ◌++◌, map, drop, length, get_or, Option}
use Rattle.std.proofs.Common.{slice_get, refl, sym, ap, ◌∙◌, append_assoc, arith, add-one}
use Rattle.std.specs.Prelude.{option_map}
use Rattle.cm_model.specs.declared.ty.Ty.{Ty}
use Rattle.cm_model.specs.declared.ty.Part.{Part}
use Rattle.cm_value.specs.declared.value.Value.{Value}
use Rattle.cm_value.specs.Relabelling.{Relabel, each_relabelled}

abbrev type_of : Part → Ty
type_of p = p.ty

none_left : (i : ℕ) → drop {A = Part} i [] ≡ []
none_left zero = refl
none_left (suc i) = refl

module _ (f : Value → Relabel) where
  abbrev rest : List Value → List Part → ℕ → List Value
  rest vs ps i = each_relabelled (map f (drop i vs)) (map type_of (drop i ps))

  head_and_rest : (vs : List Value) (ps : List Part) (i : ℕ) (d : Value) → i < length vs
      → rest vs ps i ≡ f (get_or vs i d) (option_map type_of (slice_get ps i)) ∷ rest vs ps (suc i)
  head_and_rest [] ps i d lt = absurd (omega arith)
  head_and_rest (v ∷ vs) [] zero d lt = refl
  head_and_rest (v ∷ vs) (p ∷ ps) zero d lt = refl
  head_and_rest (v ∷ vs) [] (suc i) d lt = simp none_left at (head_and_rest vs [] i d (omega arith))
  head_and_rest (v ∷ vs) (p ∷ ps) (suc i) d lt = head_and_rest vs ps i d (omega arith)

  -- one more value is made
  pub one_more : (vs : List Value) (ps : List Part) (i : ℕ) (v w : Value) (ty : Option Ty) (old new whole : List Value)
      → i < length vs
      → v ≡ get_or vs i v → ty ≡ option_map type_of (slice_get ps i) → w ≡ f v ty → new ≡ old ++ w ∷ []
      → old ++ rest vs ps i ≡ whole → new ++ rest vs ps (i + 1) ≡ whole
  one_more vs ps i v w ty old new whole lt is typed made pushed before =
      let next = head_and_rest vs ps i v lt in
      let value : w ≡ f (get_or vs i v) (option_map type_of (slice_get ps i)) = made ∙ ap (λ x. f x ty) is
      ∙ ap (f (get_or vs i v)) typed in
      rw (add-one, pushed, append_assoc, value) (ap (λ r. old ++ r) (sym next) ∙ before)
