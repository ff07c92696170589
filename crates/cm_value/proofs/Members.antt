-- Of which types each form of a value is, and what follows for its parts.
use Rattle.std.proofs.Common.{◌≡◌, ◌≢◌, ℕ, ℤ, zero, suc, Bool, true, false, ◌&&◌, List, [], ◌∷◌, map, length, Option}
use Rattle.std.proofs.Common.{Some, None, slice_get, IsTrue, refl, sym, ap, subst, ◌∙◌, arith}
use Rattle.std.proofs.lemmas.List.{length-map}
use Rattle.cm_model.specs.declared.ty.Ty.{Ty, out-Ty}
use Rattle.cm_model.specs.declared.ty.Ty.TheVariants as ty
use Rattle.cm_model.specs.declared.ty.Part.{Part}
use Rattle.cm_model.specs.declared.ty.RecDecl.{RecDecl}
use Rattle.cm_model.specs.Tables.{Tables}
use Rattle.cm_value.specs.declared.value.Value.{Value}
use Rattle.cm_value.specs.declared.value.Value.TheVariants as value
use Rattle.cm_value.specs.Membership.{Member, are_members, member_of, member_step, is_value_of, IsValueOf}
use Rattle.cm_value.specs.Membership.{are_values_of, is_sort, is_number_of, is_variant_of, is_record_of, is_none_of}
use Rattle.cm_value.specs.Membership.{is_some_of, has_fields, field_types}
use Rattle.cm_value.proofs.Types.{out_rec, out_option}
use Rattle.cm_value.proofs.Declared.{both}
use Rattle.cm_value.proofs.Folds.{fold-elem, fold-int, fold-tag, fold-rec, fold-none, fold-some}

module _ (t : Tables) (u : Ty) where
  abbrev at_type : Member → Bool
  at_type m = m u

  pub member-elem : (n : ℕ) → is_value_of t u (value.Elem n) ≡ is_sort t (out-Ty u)
  member-elem n = ap at_type (fold-elem (member_step t) n)

  pub member-int : (n : ℤ) → is_value_of t u (value.Int n) ≡ is_number_of t (out-Ty u) n
  member-int n = ap at_type (fold-int (member_step t) n)

  pub member-tag : (n : ℕ) → is_value_of t u (value.Tag n) ≡ is_variant_of t (out-Ty u) n
  member-tag n = ap at_type (fold-tag (member_step t) n)

  pub member-rec : (vs : List Value) → is_value_of t u (value.Rec vs) ≡ is_record_of t (out-Ty u) (map (member_of t) vs)
  member-rec vs = ap at_type (fold-rec (member_step t) vs)

  pub member-none : is_value_of t u value.None ≡ is_none_of (out-Ty u)
  member-none = ap at_type (fold-none (member_step t))

  pub member-some : (v : Value) → is_value_of t u (value.Some v) ≡ is_some_of (out-Ty u) (member_of t v)
  member-some v = ap at_type (fold-some (member_step t) v)

-- a value among values of these types is one of its type
pub value_at : (t : Tables) (tys : List Ty) (vs : List Value) (i : ℕ) (u : Ty) (v : Value)
    → IsTrue (are_values_of t tys vs)
    → slice_get tys i ≡ Some u → slice_get vs i ≡ Some v → IsValueOf t u v
value_at t [] vs i u v are at is = absurd (cc)
value_at t (w ∷ tys) [] i u v are at is = absurd (cc)
value_at t (w ∷ tys) (x ∷ vs) zero u v are at is =
    let same : w ≡ u = cc in
    let one : x ≡ v = cc in
    subst (λ y. IsValueOf t y v) same (subst (λ y. IsValueOf t w y) one (both (is_value_of t w x)
    (are_values_of t tys vs) are).0)
value_at t (w ∷ tys) (x ∷ vs) (suc i) u v are at is =
    value_at t tys vs i u v (both (is_value_of t w x) (are_values_of t tys vs) are).1 at is

-- the values of a record's fields are of the fields' types
pub fields_are : (t : Tables) (r : ℕ) (vs : List Value) → IsValueOf t (ty.Rec r) (value.Rec vs)
    → (d : RecDecl) × (slice_get t.records r ≡ Some d) × IsTrue (are_values_of t (field_types d) vs)
fields_are t r vs is = found (slice_get t.records r) refl
    (sym (ap (λ x. is_record_of t x (map (member_of t) vs)) (out_rec r)) ∙ sym (member-rec t (ty.Rec r) vs) ∙ is)
  where
    found : (o : Option RecDecl) → slice_get t.records r ≡ o
        → IsTrue (has_fields (slice_get t.records r) (map (member_of t) vs))
        → (d : RecDecl) × (slice_get t.records r ≡ Some d) × IsTrue (are_values_of t (field_types d) vs)
    found (Some d) at are = (d, at, sym (ap (λ o. has_fields o (map (member_of t) vs)) at) ∙ are)
    found None at are = absurd (let no : false ≡ true = sym (ap (λ o. has_fields o (map (member_of t) vs)) at) ∙ are in
        cc)

-- the payload of a value of an option is of the payload's type
pub payload_is : (t : Tables) (u : Ty) (v : Value) → IsValueOf t (ty.Option u) (value.Some v) → IsValueOf t u v
payload_is t u v is = sym (ap (λ x. is_some_of x (member_of t v)) (out_option u)) ∙ sym (member-some t (ty.Option u) v)
    ∙ is

more_or_fewer : (ms : List Member) (tys : List Ty) → length ms ≢ length tys → are_members ms tys ≡ false
more_or_fewer [] [] ne = absurd (ne refl)
more_or_fewer [] (u ∷ tys) ne = refl
more_or_fewer (m ∷ ms) [] ne = refl
more_or_fewer (m ∷ ms) (u ∷ tys) ne = and_false (m u) (are_members ms tys) (more_or_fewer ms tys (λ e. ne (ap suc e)))
  where
    and_false : (a b : Bool) → b ≡ false → (a && b) ≡ false
    and_false true b e = e
    and_false false b e = refl

-- more or fewer values than fields are none of a record
pub uneven : (t : Tables) (vs : List Value) (ps : List Part) → length ps ≢ length vs
    → are_members (map (member_of t) vs) (map (λ p. p.ty) ps) ≡ false
uneven t vs ps ne = more_or_fewer (map (member_of t) vs) (map (λ p. p.ty) ps)
    (λ e. ne (omega (arith, e, length-map vs (member_of t), length-map ps (λ (p : Part). p.ty))))
