-- The numbers in the values of a well typed model are limited.
use Rattle.std.proofs.Common.{◌≡◌, ℕ, zero, suc, ◌<◌, ◌≤◌, ℤ, pos, neg_ℤ, ◌≤ℤ◌, Bool, true, ◌&&◌, List, [], ◌∷◌, map}
use Rattle.std.proofs.Common.{length, Option, Some, None, slice_get, IsTrue, ltb, leb, int_le, refl, sym, ◌∙◌, subst}
use Rattle.std.proofs.Common.{arith}
use Rattle.std.specs.List.{list_all}
use Rattle.std.proofs.lemmas.Bool.{ltb-true, lt-ltb, leb-true}
use Rattle.std.proofs.lemmas.Int.{ints}
use Rattle.cm_model.specs.Tables.{Tables}
use Rattle.cm_model.specs.Limits.{is_number}
use Rattle.cm_model.specs.WellTyped.{IsWellTyped}
use Rattle.cm_model.specs.declared.ty.Ty.{Ty, out-Ty}
use Rattle.cm_model.specs.declared.ty.Ty.TheOpen.{Ty-F}
use Rattle.cm_model.specs.declared.ty.IntDecl.{IntDecl}
use Rattle.cm_model.specs.declared.ty.EnumDecl.{EnumDecl}
use Rattle.cm_model.specs.declared.ty.RecDecl.{RecDecl}
use Rattle.cm_value.specs.declared.value.Value.{Value}
use Rattle.cm_value.specs.declared.value.Value.TheVariants as value
use Rattle.cm_value.specs.Membership.{member_of, are_members, are_values_of, IsValueOf, is_value_of, is_number_of}
use Rattle.cm_value.specs.Membership.{is_variant_of, is_record_of, is_some_of, is_within, has_variant, has_fields}
use Rattle.cm_value.specs.Membership.{field_types}
use Rattle.cm_value.specs.Limits.{is_limited, limited_step}
use Rattle.cm_value.proofs.Folds.{fold-elem, fold-int, fold-tag, fold-rec, fold-none, fold-some}
use Rattle.cm_value.proofs.Declared.{both, and_true, range_at, enum_at}
use Rattle.cm_value.proofs.Members.{member-int, member-tag, member-rec, member-some}
use Rattle.cm_value.proofs.Induction.{Each, value_ind}

limited-int : (n : ℤ) → is_limited (value.Int n) ≡ is_number n
limited-int n = fold-int limited_step n

limited-tag : (n : ℕ) → is_limited (value.Tag n) ≡ ltb n 64
limited-tag n = fold-tag limited_step n

limited-rec : (vs : List Value) → is_limited (value.Rec vs) ≡ list_all (λ b. b) (map is_limited vs)
limited-rec vs = fold-rec limited_step vs

limited-some : (v : Value) → is_limited (value.Some v) ≡ is_limited v
limited-some v = fold-some limited_step v

at_most : (a b : ℤ) → int_le a b ≡ true → a ≤ℤ b
at_most a b e = grind (arith, ints)

tested : (a b : ℤ) → a ≤ℤ b → int_le a b ≡ true
tested a b h = grind (arith, ints)

-- an integer between two that are within a million of 0 is so too
between : (lo hi n : ℤ) → is_number lo ≡ true → is_number hi ≡ true → int_le lo n ≡ true → int_le n hi ≡ true
    → is_number n ≡ true
between lo hi n low high above below =
    let a = at_most (neg_ℤ (pos 1000000)) lo (both (int_le (neg_ℤ (pos 1000000)) lo) (int_le lo (pos 1000000)) low).0 in
    let b = at_most hi (pos 1000000) (both (int_le (neg_ℤ (pos 1000000)) hi) (int_le hi (pos 1000000)) high).1 in
    let c = at_most lo n above in
    let d = at_most n hi below in
    and_true (int_le (neg_ℤ (pos 1000000)) n) (int_le n (pos 1000000))
    (tested (neg_ℤ (pos 1000000)) n (omega (arith, ints)))
    (tested n (pos 1000000) (omega (arith, ints)))

pub limited_tag : (n : ℕ) → IsTrue (is_limited (value.Tag n)) → n < 64
limited_tag n is = ltb-true n 64 (sym (limited-tag n) ∙ is)

pub limited_int : (n : ℤ) → IsTrue (is_limited (value.Int n)) → (neg_ℤ (pos 1000000) ≤ℤ n) × (n ≤ℤ pos 1000000)
limited_int n is =
    let within = both (int_le (neg_ℤ (pos 1000000)) n) (int_le n (pos 1000000)) (sym (limited-int n) ∙ is) in
    (at_most (neg_ℤ (pos 1000000)) n within.0, at_most n (pos 1000000) within.1)

pub limited_payload : (v : Value) → IsTrue (is_limited (value.Some v)) → IsTrue (is_limited v)
limited_payload v is = sym (limited-some v) ∙ is

-- every value of a list is limited
abbrev pub are_limited : List Value → Bool
are_limited vs = list_all (λ b. b) (map is_limited vs)

pub limited_parts : (vs : List Value) → IsTrue (is_limited (value.Rec vs)) → IsTrue (are_limited vs)
limited_parts vs is = sym (limited-rec vs) ∙ is

pub limited_part : (vs : List Value) (i : ℕ) (v : Value) → IsTrue (are_limited vs) → slice_get vs i ≡ Some v
    → IsTrue (is_limited v)
limited_part [] i v all at = absurd (cc)
limited_part (w ∷ vs) zero v all at = let same : w ≡ v = cc in
    subst (λ z. IsTrue (is_limited z)) same (both (is_limited w) (are_limited vs) all).0
limited_part (w ∷ vs) (suc i) v all at = limited_part vs i v (both (is_limited w) (are_limited vs) all).1 at

pub limited_field : (vs : List Value) (i : ℕ) (v : Value) → IsTrue (is_limited (value.Rec vs)) → slice_get vs i ≡ Some v
    → IsTrue (is_limited v)
limited_field vs i v is at = limited_part vs i v (limited_parts vs is) at

module _ (t : Tables) (typed : IsWellTyped t) where
  abbrev Limited : Value → Type 0
  Limited v = (u : Ty) → IsValueOf t u v → IsTrue (is_limited v)

  number_limited : (x : Ty-F Ty) (n : ℤ) → is_number_of t x n ≡ true → is_number n ≡ true
  number_limited (Ty-F.Int i) n is = found (slice_get t.ints i) refl is
    where
      found : (o : Option IntDecl) → slice_get t.ints i ≡ o → is_within o n ≡ true → is_number n ≡ true
      found (Some d) at is =
          let range = both (is_number d.lo && is_number d.hi) (int_le d.lo d.hi) (range_at t typed i d at) in
          let ends = both (is_number d.lo) (is_number d.hi) range.0 in
          let within = both (int_le d.lo n) (int_le n d.hi) is in
          between d.lo d.hi n ends.0 ends.1 within.0 within.1
      found None at is = absurd (cc)
  number_limited (Ty-F.Sort s) n is = absurd (cc)
  number_limited (Ty-F.Enum e) n is = absurd (cc)
  number_limited (Ty-F.Rec r) n is = absurd (cc)
  number_limited (Ty-F.Option u) n is = absurd (cc)

  variant_limited : (x : Ty-F Ty) (n : ℕ) → is_variant_of t x n ≡ true → ltb n 64 ≡ true
  variant_limited (Ty-F.Enum e) n is = found (slice_get t.enums e) refl is
    where
      found : (o : Option EnumDecl) → slice_get t.enums e ≡ o → has_variant o n ≡ true → ltb n 64 ≡ true
      found (Some d) at is =
          let most : length d.variants ≤ 64 = leb-true (length d.variants) 64
          (both (leb 1 (length d.variants)) (leb (length d.variants) 64) (enum_at t typed e d at)).1 in
          let below : n < length d.variants = ltb-true n (length d.variants) is in
          lt-ltb n 64 (omega arith)
      found None at is = absurd (cc)
  variant_limited (Ty-F.Sort s) n is = absurd (cc)
  variant_limited (Ty-F.Int i) n is = absurd (cc)
  variant_limited (Ty-F.Rec r) n is = absurd (cc)
  variant_limited (Ty-F.Option u) n is = absurd (cc)

  all_limited : (vs : List Value) (us : List Ty) → Each Limited vs → are_members (map (member_of t) vs) us ≡ true
      → IsTrue (are_limited vs)
  all_limited [] us limited are = refl
  all_limited (v ∷ vs) [] limited are = absurd (cc)
  all_limited (v ∷ vs) (u ∷ us) limited are =
      let parts = both (is_value_of t u v) (are_members (map (member_of t) vs) us) are in
      and_true (is_limited v) (are_limited vs) (limited.0 u parts.0) (all_limited vs us limited.1 parts.1)

  record_limited : (vs : List Value) → Each Limited vs → (x : Ty-F Ty) → is_record_of t x (map (member_of t) vs) ≡ true
      → IsTrue (are_limited vs)
  record_limited vs limited (Ty-F.Rec r) is = found (slice_get t.records r) is
    where
      found : (o : Option RecDecl) → has_fields o (map (member_of t) vs) ≡ true → IsTrue (are_limited vs)
      found (Some d) is = all_limited vs (field_types d) limited is
      found None is = absurd (cc)
  record_limited vs limited (Ty-F.Sort s) is = absurd (cc)
  record_limited vs limited (Ty-F.Int i) is = absurd (cc)
  record_limited vs limited (Ty-F.Enum e) is = absurd (cc)
  record_limited vs limited (Ty-F.Option u) is = absurd (cc)

  some_limited : (v : Value) → Limited v → (x : Ty-F Ty) → is_some_of x (member_of t v) ≡ true → IsTrue (is_limited v)
  some_limited v limited (Ty-F.Option u) is = limited u is
  some_limited v limited (Ty-F.Sort s) is = absurd (cc)
  some_limited v limited (Ty-F.Int i) is = absurd (cc)
  some_limited v limited (Ty-F.Enum e) is = absurd (cc)
  some_limited v limited (Ty-F.Rec r) is = absurd (cc)

  -- a value of a type of a well typed model is limited
  pub value_is_limited : (v : Value) (u : Ty) → IsValueOf t u v → IsTrue (is_limited v)
  value_is_limited = value_ind Limited
      (λ n u is. fold-elem limited_step n)
      (λ n u is. limited-int n ∙ number_limited (out-Ty u) n (sym (member-int t u n) ∙ is))
      (λ n u is. limited-tag n ∙ variant_limited (out-Ty u) n (sym (member-tag t u n) ∙ is))
      (λ vs limited u is. limited-rec vs ∙ record_limited vs limited (out-Ty u) (sym (member-rec t u vs) ∙ is))
      (λ u is. fold-none limited_step)
      (λ v limited u is. limited-some v ∙ some_limited v limited (out-Ty u) (sym (member-some t u v) ∙ is))

  -- values of these types are limited
  pub values_are_limited : (vs : List Value) (us : List Ty) → IsTrue (are_values_of t us vs) → IsTrue (are_limited vs)
  values_are_limited vs us are = all_limited vs us (each vs) are
    where
      each : (vs : List Value) → Each Limited vs
      each [] = tt
      each (v ∷ vs) = (value_is_limited v, each vs)
