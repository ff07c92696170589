-- What a value of each form of type is.
use Rattle.std.proofs.Common.{◌≡◌, ◌⊎◌, inl, inr, ℕ, ℤ, true, List, map, slice_get, IsTrue, refl, sym}
use Rattle.std.proofs.Common.{◌∙◌}
use Rattle.cm_model.specs.Tables.{Tables}
use Rattle.cm_model.specs.declared.ty.Ty.{Ty, out-Ty}
use Rattle.cm_model.specs.declared.ty.Ty.TheOpen.{Ty-F}
use Rattle.cm_value.specs.declared.value.Value.{Value}
use Rattle.cm_value.specs.declared.value.Value.TheVariants as value
use Rattle.cm_value.specs.Membership.{member_of, IsValueOf, is_sort, is_number_of, is_variant_of}
use Rattle.cm_value.specs.Membership.{is_record_of, is_none_of, is_some_of, is_within, has_variant, has_fields}
use Rattle.cm_value.proofs.Members.{member-elem, member-int, member-tag, member-rec, member-none, member-some}
use Rattle.cm_value.proofs.Induction.{value_ind}

module _ (t : Tables) where
  abbrev pub Formed : Ty-F Ty → Value → Type 0
  Formed (Ty-F.Sort s) x = (n : ℕ) × (x ≡ value.Elem n)
  Formed (Ty-F.Int i) x = (n : ℤ) × (x ≡ value.Int n) × IsTrue (is_within (slice_get t.ints i) n)
  Formed (Ty-F.Enum e) x = (n : ℕ) × (x ≡ value.Tag n) × IsTrue (has_variant (slice_get t.enums e) n)
  Formed (Ty-F.Rec r) x = (vs : List Value) × (x ≡ value.Rec vs)
      × IsTrue (has_fields (slice_get t.records r) (map (member_of t) vs))
  Formed (Ty-F.Option u) x = (x ≡ value.None) ⊎ ((y : Value) × (x ≡ value.Some y) × IsValueOf t u y)

  abbrev Said : Value → Type 0
  Said x = (u : Ty) → IsValueOf t u x → Formed (out-Ty u) x

  elem : (n : ℕ) (y : Ty-F Ty) → is_sort t y ≡ true → Formed y (value.Elem n)
  elem n (Ty-F.Sort s) is = (n, refl)
  elem n (Ty-F.Int i) is = absurd (cc)
  elem n (Ty-F.Enum e) is = absurd (cc)
  elem n (Ty-F.Rec r) is = absurd (cc)
  elem n (Ty-F.Option u) is = absurd (cc)

  int : (n : ℤ) (y : Ty-F Ty) → is_number_of t y n ≡ true → Formed y (value.Int n)
  int n (Ty-F.Sort s) is = absurd (cc)
  int n (Ty-F.Int i) is = (n, refl, is)
  int n (Ty-F.Enum e) is = absurd (cc)
  int n (Ty-F.Rec r) is = absurd (cc)
  int n (Ty-F.Option u) is = absurd (cc)

  tag : (n : ℕ) (y : Ty-F Ty) → is_variant_of t y n ≡ true → Formed y (value.Tag n)
  tag n (Ty-F.Sort s) is = absurd (cc)
  tag n (Ty-F.Int i) is = absurd (cc)
  tag n (Ty-F.Enum e) is = (n, refl, is)
  tag n (Ty-F.Rec r) is = absurd (cc)
  tag n (Ty-F.Option u) is = absurd (cc)

  rec : (vs : List Value) (y : Ty-F Ty) → is_record_of t y (map (member_of t) vs) ≡ true → Formed y (value.Rec vs)
  rec vs (Ty-F.Sort s) is = absurd (cc)
  rec vs (Ty-F.Int i) is = absurd (cc)
  rec vs (Ty-F.Enum e) is = absurd (cc)
  rec vs (Ty-F.Rec r) is = (vs, refl, is)
  rec vs (Ty-F.Option u) is = absurd (cc)

  none : (y : Ty-F Ty) → is_none_of y ≡ true → Formed y value.None
  none (Ty-F.Sort s) is = absurd (cc)
  none (Ty-F.Int i) is = absurd (cc)
  none (Ty-F.Enum e) is = absurd (cc)
  none (Ty-F.Rec r) is = absurd (cc)
  none (Ty-F.Option u) is = inl refl

  some : (x : Value) (y : Ty-F Ty) → is_some_of y (member_of t x) ≡ true → Formed y (value.Some x)
  some x (Ty-F.Sort s) is = absurd (cc)
  some x (Ty-F.Int i) is = absurd (cc)
  some x (Ty-F.Enum e) is = absurd (cc)
  some x (Ty-F.Rec r) is = absurd (cc)
  some x (Ty-F.Option u) is = inr (x, refl, is)

  -- a value of a type has the type's form
  pub formed : (x : Value) (u : Ty) → IsValueOf t u x → Formed (out-Ty u) x
  formed = value_ind Said
      (λ n u is. elem n (out-Ty u) (sym (member-elem t u n) ∙ is))
      (λ n u is. int n (out-Ty u) (sym (member-int t u n) ∙ is))
      (λ n u is. tag n (out-Ty u) (sym (member-tag t u n) ∙ is))
      (λ vs h u is. rec vs (out-Ty u) (sym (member-rec t u vs) ∙ is))
      (λ u is. none (out-Ty u) (sym (member-none t u) ∙ is))
      (λ x h u is. some x (out-Ty u) (sym (member-some t u x) ∙ is))
