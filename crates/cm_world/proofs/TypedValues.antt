-- What the types of values give for their parts.
use Rattle.std.proofs.Common.{◌≡◌, ◌<◌, is_some, take, get_or, ℕ, zero, suc, ◌==◌, ltb, ℤ, int_lt, int_le, Bool, true}
use Rattle.std.proofs.Common.{false, ◌&&◌, List, [], ◌∷◌, map, length, Option, Some, None, slice_get, slice_set, IsTrue}
use Rattle.std.proofs.Common.{refl, sym, ap, ◌∙◌, subst, if◌then◌else◌, arith}
use Rattle.std.proofs.lemmas.Bool.{and_parts, and_from, eqb-true}
use Rattle.std.proofs.lemmas.Int.{ints}
use Rattle.std.specs.Prelude.{option_map, bytes_eq, codes}
use Rattle.cm_model.specs.Tables.{Tables}
use Rattle.cm_model.specs.WellTyped.{begins_with_bool}
use Rattle.cm_model.specs.declared.ty.EnumDecl.{EnumDecl}
use Rattle.cm_model.specs.Types.{same_ty, same_step}
use Rattle.cm_model.specs.Kinds.{Kind, is_integer, Number, Of, is_of, is_bool, bool_ty, fields_of, fields_in, field_of}
use Rattle.cm_model.specs.Kinds.{payload_of, payload_in}
use Rattle.cm_model.specs.declared.ty.Ty.{Ty, out-Ty}
use Rattle.cm_model.specs.declared.ty.Ty.TheViews.{roll-Ty, roll-out-Ty}
use Rattle.cm_model.specs.declared.ty.Ty.TheOpen.{Ty-F}
use Rattle.cm_model.specs.declared.ty.Ty.TheFolds.{fold-roll-Ty, ind-Ty, map-Ty}
use Rattle.cm_model.specs.declared.ty.Part.{Part}
use Rattle.cm_model.specs.declared.ty.RecDecl.{RecDecl}
use Rattle.cm_model.specs.declared.ty.IntDecl.{IntDecl}
use Rattle.cm_value.specs.declared.value.Value.{Value, out-Value}
use Rattle.cm_value.specs.declared.value.Value.TheVariants as value
use Rattle.cm_value.specs.declared.value.Value.TheViews.{roll-Value, roll-out-Value}
use Rattle.cm_value.specs.declared.value.Value.TheOpen.{Value-F}
use Rattle.cm_value.specs.Membership.{IsValueOf, is_value_of, are_values_of, member_of, is_record_of, is_some_of}
use Rattle.cm_value.specs.Membership.{is_within, has_fields, field_types}
use Rattle.cm_model.proofs.KindParts.{given_some}
use Rattle.cm_value.proofs.Members.{member-rec, member-some, value_at}
use Rattle.cm_eval.specs.Comparison.{parts_in, parts_of, option_in, option_of}
use Rattle.cm_eval.specs.Evaluation.{ranged, field_in, fields_with, with_field}

-- two types that are the same are one
abbrev SameOne : Ty → Type 0
SameOne t = (u : Ty) → same_ty t u ≡ true → t ≡ u

abbrev KnownTy : Type 0
KnownTy = (t : Ty) × SameOne t

abbrev tests : Ty-F KnownTy → Ty-F (Ty → Bool)
tests y = map-Ty Ty (Ty → Bool) same_ty (map-Ty KnownTy Ty (λ k. k.0) y)

layer_one : (y : Ty-F KnownTy) (x : Ty-F Ty) → same_step (tests y) x ≡ true → map-Ty KnownTy Ty (λ k. k.0) y ≡ x
layer_one (Ty-F.Sort s) (Ty-F.Sort r) h = ap Ty-F.Sort (eqb-true s r h)
layer_one (Ty-F.Int s) (Ty-F.Int r) h = ap Ty-F.Int (eqb-true s r h)
layer_one (Ty-F.Enum s) (Ty-F.Enum r) h = ap Ty-F.Enum (eqb-true s r h)
layer_one (Ty-F.Rec s) (Ty-F.Rec r) h = ap Ty-F.Rec (eqb-true s r h)
layer_one (Ty-F.Option k) (Ty-F.Option u) h = ap Ty-F.Option (k.1 u h)
layer_one (Ty-F.Sort s) (Ty-F.Int r) h = absurd (cc)
layer_one (Ty-F.Sort s) (Ty-F.Enum r) h = absurd (cc)
layer_one (Ty-F.Sort s) (Ty-F.Rec r) h = absurd (cc)
layer_one (Ty-F.Sort s) (Ty-F.Option u) h = absurd (cc)
layer_one (Ty-F.Int s) (Ty-F.Sort r) h = absurd (cc)
layer_one (Ty-F.Int s) (Ty-F.Enum r) h = absurd (cc)
layer_one (Ty-F.Int s) (Ty-F.Rec r) h = absurd (cc)
layer_one (Ty-F.Int s) (Ty-F.Option u) h = absurd (cc)
layer_one (Ty-F.Enum s) (Ty-F.Sort r) h = absurd (cc)
layer_one (Ty-F.Enum s) (Ty-F.Int r) h = absurd (cc)
layer_one (Ty-F.Enum s) (Ty-F.Rec r) h = absurd (cc)
layer_one (Ty-F.Enum s) (Ty-F.Option u) h = absurd (cc)
layer_one (Ty-F.Rec s) (Ty-F.Sort r) h = absurd (cc)
layer_one (Ty-F.Rec s) (Ty-F.Int r) h = absurd (cc)
layer_one (Ty-F.Rec s) (Ty-F.Enum r) h = absurd (cc)
layer_one (Ty-F.Rec s) (Ty-F.Option u) h = absurd (cc)
layer_one (Ty-F.Option k) (Ty-F.Sort r) h = absurd (cc)
layer_one (Ty-F.Option k) (Ty-F.Int r) h = absurd (cc)
layer_one (Ty-F.Option k) (Ty-F.Enum r) h = absurd (cc)
layer_one (Ty-F.Option k) (Ty-F.Rec r) h = absurd (cc)

rolled_one : (x : Ty-F Ty) → ((z : Ty-F Ty) → same_step (map-Ty Ty (Ty → Bool) same_ty x) z ≡ true → x ≡ z)
    → SameOne (roll-Ty x)
rolled_one x one u h =
    ap roll-Ty (one (out-Ty u) (sym (ap (λ (f : Ty → Bool). f u) (fold-roll-Ty (Ty
    → Bool) (λ y other. same_step y (out-Ty other)) x)) ∙ h))
    ∙ roll-out-Ty u

pub same_one : (t : Ty) → SameOne t
same_one = ind-Ty SameOne (λ x y is. subst (λ z. SameOne (roll-Ty z)) is (rolled_one (map-Ty KnownTy Ty (λ k. k.0) y)
    (layer_one y)))

pub kind_is : (u : Ty) (k : Option Kind) → is_of u k ≡ true → k ≡ Some (Of u)
kind_is u (Some (Of t)) h = ap (λ x. Some (Of x)) (same_one t u h)
kind_is u (Some Number) h = absurd (cc)
kind_is u None h = absurd (cc)

pub bool_is : (k : Option Kind) → is_bool k ≡ true → k ≡ Some (Of bool_ty)
bool_is (Some (Of t)) h = ap (λ x. Some (Of x)) (same_one t bool_ty h)
bool_is (Some Number) h = absurd (cc)
bool_is None h = absurd (cc)

-- a value beside the form of its type
whole : (v : Value) (y : Value-F Value) → out-Value v ≡ y → v ≡ roll-Value y
whole v y is = sym (roll-out-Value v) ∙ ap roll-Value is

module _ (t : Tables) where
  -- the values of a record's fields
  pub fields_typed : (u : Ty) (vs : List Value) (ps : List Part) → IsValueOf t u (value.Rec vs)
      → fields_of t u ≡ Some ps
      → IsTrue (are_values_of t (map (λ p. p.ty) ps) vs)
  fields_typed u vs ps is fields = by (out-Ty u) (sym (member-rec t u vs) ∙ is) fields
    where
      found : (o : Option RecDecl) → has_fields o (map (member_of t) vs) ≡ true
          → option_map (λ (d : RecDecl). d.fields) o ≡ Some ps → IsTrue (are_values_of t (map (λ p. p.ty) ps) vs)
      found (Some d) h e = subst (λ qs. IsTrue (are_values_of t (map (λ (p : Part). p.ty) qs) vs))
          (some_is d.fields ps e) h
        where
          some_is : (a b : List Part) → Some a ≡ Some b → a ≡ b
          some_is a b h = cc
      found None h e = absurd (cc)

      by : (x : Ty-F Ty) → is_record_of t x (map (member_of t) vs) ≡ true → fields_in t x ≡ Some ps
          → IsTrue (are_values_of t (map (λ p. p.ty) ps) vs)
      by (Ty-F.Rec r) h e = found (slice_get t.records r) h e
      by (Ty-F.Sort s) h e = absurd (cc)
      by (Ty-F.Int i) h e = absurd (cc)
      by (Ty-F.Enum n) h e = absurd (cc)
      by (Ty-F.Option v) h e = absurd (cc)

  some_of : {X : Type 0} (x y : X) → Some x ≡ Some y → x ≡ y
  some_of x y h = cc

  -- a field of a value of a record
  pub field_typed : (u w : Ty) (v x : Value) (i : ℕ) → IsValueOf t u v → field_of t u i ≡ Some w
      → field_in (parts_of v) i ≡ Some x → IsValueOf t w x
  field_typed u w v x i is field part = by (out-Value v) refl part
    where
      fields : (ps : List Part) × (fields_of t u ≡ Some ps)
          × (option_map (λ (p : Part). p.ty) (slice_get ps i) ≡ Some w)
      fields = given_some (fields_of t u) (λ ps. option_map (λ (p : Part). p.ty) (slice_get ps i)) w field

      found : (vs : List Value) → v ≡ value.Rec vs → slice_get vs i ≡ Some x → IsValueOf t w x
      found vs e at =
          value_at t (map (λ (p : Part). p.ty) fields.0) vs i w x
          (fields_typed u vs fields.0 (subst (IsValueOf t u) e is) fields.1) (mapped fields.0 i fields.2) at
        where
          mapped : (ps : List Part) (j : ℕ) → option_map (λ (p : Part). p.ty) (slice_get ps j) ≡ Some w
              → slice_get (map (λ (p : Part). p.ty) ps) j ≡ Some w
          mapped [] j h = absurd (cc)
          mapped (p ∷ ps) zero h = h
          mapped (p ∷ ps) (suc j) h = mapped ps j h

      by : (y : Value-F Value) → out-Value v ≡ y → field_in (parts_in y) i ≡ Some x → IsValueOf t w x
      by (Value-F.Rec vs) e at = found vs (whole v (Value-F.Rec vs) e ∙ value.rolls-Rec vs) at
      by (Value-F.Elem n) e at = absurd (cc)
      by (Value-F.Int n) e at = absurd (cc)
      by (Value-F.Tag n) e at = absurd (cc)
      by Value-F.None e at = absurd (cc)
      by (Value-F.Some z) e at = absurd (cc)

  -- one value among values of types replaced by another of its type
  replaced : (us : List Ty) (vs : List Value) (i : ℕ) (w : Ty) (x : Value) → IsTrue (are_values_of t us vs)
      → slice_get us i ≡ Some w
      → IsValueOf t w x → IsTrue (are_values_of t us (slice_set vs i x))
  replaced [] vs i w x are at is = absurd (cc)
  replaced (u ∷ us) [] i w x are at is = absurd (cc)
  replaced (u ∷ us) (v ∷ vs) zero w x are at is =
      let b = and_parts (is_value_of t u v) (are_values_of t us vs) are in
      and_from (is_value_of t u x) (are_values_of t us vs) (subst (λ y. IsValueOf t y x) (sym (some_of u w at)) is) b.1
  replaced (u ∷ us) (v ∷ vs) (suc i) w x are at is =
      let b = and_parts (is_value_of t u v) (are_values_of t us vs) are in
      and_from (is_value_of t u v) (are_values_of t us (slice_set vs i x)) b.0 (replaced us vs i w x b.1 at is)

  -- a record with another value in a field
  pub with_typed : (u w : Ty) (v x y : Value) (i : ℕ) → IsValueOf t u v → field_of t u i ≡ Some w → IsValueOf t w x
      → with_field v i x ≡ Some y → IsValueOf t u y
  with_typed u w v x y i is field new made = by (out-Value v) refl made
    where
      fields : (ps : List Part) × (fields_of t u ≡ Some ps)
          × (option_map (λ (p : Part). p.ty) (slice_get ps i) ≡ Some w)
      fields = given_some (fields_of t u) (λ ps. option_map (λ (p : Part). p.ty) (slice_get ps i)) w field

      mapped : (ps : List Part) (j : ℕ) → option_map (λ (p : Part). p.ty) (slice_get ps j) ≡ Some w
          → slice_get (map (λ (p : Part). p.ty) ps) j ≡ Some w
      mapped [] j h = absurd (cc)
      mapped (p ∷ ps) zero h = h
      mapped (p ∷ ps) (suc j) h = mapped ps j h

      record_of : (vs : List Value) → IsValueOf t u (value.Rec vs) → (z : Ty-F Ty) → out-Ty u ≡ z
          → IsTrue (are_values_of t (map (λ (p : Part). p.ty) fields.0) (slice_set vs i x))
          → is_record_of t (out-Ty u) (map (member_of t) (slice_set vs i x)) ≡ true
      record_of vs whole_is (Ty-F.Rec r) e are = rw (e) (declared (slice_get t.records r) refl)
        where
          declared : (o : Option RecDecl) → slice_get t.records r ≡ o
              → has_fields o (map (member_of t) (slice_set vs i x)) ≡ true
          declared (Some d) at =
              let same : field_types d ≡ map (λ (p : Part). p.ty) fields.0 =
              ap (map (λ (p : Part). p.ty)) (some_of d.fields fields.0
              (sym (ap (option_map (λ (d : RecDecl). d.fields)) at) ∙ sym (ap (fields_in t) e) ∙ fields.1)) in
              subst (λ us. IsTrue (are_values_of t us (slice_set vs i x))) (sym same) are
          declared None at =
              absurd (let no : None ≡ Some fields.0 = sym (ap (option_map (λ (d : RecDecl). d.fields)) at)
              ∙ sym (ap (fields_in t) e) ∙ fields.1 in cc)
      record_of vs whole_is (Ty-F.Sort s) e are = absurd (let no : None ≡ Some fields.0 = sym (ap (fields_in t) e)
          ∙ fields.1 in cc)
      record_of vs whole_is (Ty-F.Int s) e are = absurd (let no : None ≡ Some fields.0 = sym (ap (fields_in t) e)
          ∙ fields.1 in cc)
      record_of vs whole_is (Ty-F.Enum s) e are = absurd (let no : None ≡ Some fields.0 = sym (ap (fields_in t) e)
          ∙ fields.1 in cc)
      record_of vs whole_is (Ty-F.Option s) e are = absurd (let no : None ≡ Some fields.0 = sym (ap (fields_in t) e)
          ∙ fields.1 in cc)

      set_in : (vs : List Value) → IsValueOf t u (value.Rec vs) → (b : Bool)
          → (if b then Some (value.Rec (slice_set vs i x)) else None) ≡ Some y → IsValueOf t u y
      set_in vs whole_is true e =
          subst (IsValueOf t u) (some_of (value.Rec (slice_set vs i x)) y e)
          (member-rec t u (slice_set vs i x)
          ∙ record_of vs whole_is (out-Ty u) refl
          (replaced (map (λ (p : Part). p.ty) fields.0) vs i w x (fields_typed u vs fields.0 whole_is fields.1)
          (mapped fields.0 i fields.2) new))
      set_in vs whole_is false e = absurd (cc)

      by : (z : Value-F Value) → out-Value v ≡ z → fields_with (parts_in z) i x ≡ Some y → IsValueOf t u y
      by (Value-F.Rec vs) e at = set_in vs (subst (IsValueOf t u) (whole v (Value-F.Rec vs) e ∙ value.rolls-Rec vs) is)
          (ltb i (length vs)) at
      by (Value-F.Elem n) e at = absurd (cc)
      by (Value-F.Int n) e at = absurd (cc)
      by (Value-F.Tag n) e at = absurd (cc)
      by Value-F.None e at = absurd (cc)
      by (Value-F.Some z) e at = absurd (cc)

  -- the payload of a value of an option
  pub payload_typed : (u w : Ty) (v x : Value) → IsValueOf t u v → payload_of u ≡ Some w → option_of v ≡ Some (Some x)
      → IsValueOf t w x
  payload_typed u w v x is payload there = by (out-Value v) refl there
    where
      some_typed : (x : Value) → IsValueOf t u (value.Some x) → IsValueOf t w x
      some_typed x is = of (out-Ty u) payload (sym (member-some t u x) ∙ is)
        where
          of : (z : Ty-F Ty) → payload_in z ≡ Some w → is_some_of z (member_of t x) ≡ true → IsValueOf t w x
          of (Ty-F.Option inner) e h = subst (λ y. IsValueOf t y x) (some_of inner w e) h
          of (Ty-F.Sort s) e h = absurd (cc)
          of (Ty-F.Int i) e h = absurd (cc)
          of (Ty-F.Enum n) e h = absurd (cc)
          of (Ty-F.Rec r) e h = absurd (cc)

      by : (y : Value-F Value) → out-Value v ≡ y → option_in y ≡ Some (Some x) → IsValueOf t w x
      by (Value-F.Some z) e at = some_typed x (subst (IsValueOf t u) (whole v (Value-F.Some z) e ∙ value.rolls-Some z
          ∙ ap value.Some (some_of z x (some_of (Some z) (Some x) at))) is)
      by (Value-F.Elem n) e at = absurd (cc)
      by (Value-F.Int n) e at = absurd (cc)
      by (Value-F.Tag n) e at = absurd (cc)
      by (Value-F.Rec vs) e at = absurd (cc)
      by Value-F.None e at = absurd (let no : Some None ≡ Some (Some x) = at in let yes : None ≡ Some x =
          some_of None (Some x) no in cc)

-- a number that lies in the range of an integer type
pub in_range : (d : IntDecl) (n : ℤ) → (ranged d n == 1) ≡ true → is_within (Some d) n ≡ true
in_range d n h = by (int_lt n d.lo) (int_lt d.hi n) refl refl h
  where
    by : (a b : Bool) → int_lt n d.lo ≡ a → int_lt d.hi n ≡ b → ((if a then 0 else if b then 2 else 1) == 1) ≡ true
        → (int_le d.lo n && int_le n d.hi) ≡ true
    by true b e f h = absurd (cc)
    by false true e f h = absurd (cc)
    by false false e f h = and_from (int_le d.lo n) (int_le n d.hi) (grind (arith, ints)) (grind (arith, ints))

pub get_take : {X : Type 0} (n i : ℕ) (xs : List X) (x : X) → i < n → slice_get xs i ≡ Some x → get_or (take n xs) i x ≡ x
get_take n i [] x lt at = absurd (cc)
get_take zero i (y ∷ xs) x lt at = absurd (omega arith)
get_take (suc n) zero (y ∷ xs) x lt at = cc
get_take (suc n) (suc i) (y ∷ xs) x lt at = get_take n i xs x (omega arith) at

pub take_take : {X : Type 0} (n i : ℕ) (xs : List X) → i < n → take i (take n xs) ≡ take i xs
take_take n zero xs lt = refl
take_take zero (suc i) xs lt = absurd (omega arith)
take_take (suc n) (suc i) [] lt = refl
take_take (suc n) (suc i) (x ∷ xs) lt = ap (λ ys. x ∷ ys) (take_take n i xs (omega arith))

-- bool has two variants
two_variants : (name : List ℕ) (vs : List (List ℕ)) (ds : List EnumDecl)
    → begins_with_bool (record { name = name; variants = vs } ∷ ds) ≡ true → length vs ≡ 2
two_variants name [] ds h = absurd (let no = (and_parts (bytes_eq name (codes "bool")) false h).1 in cc)
two_variants name (a ∷ []) ds h = absurd (let no = (and_parts (bytes_eq name (codes "bool")) false h).1 in cc)
two_variants name (a ∷ b ∷ []) ds h = refl
two_variants name (a ∷ b ∷ c ∷ vs) ds h = absurd (let no = (and_parts (bytes_eq name (codes "bool")) false h).1 in cc)

pub bool_enum : (ds : List EnumDecl) → begins_with_bool ds ≡ true → (d : EnumDecl) × (slice_get ds 0 ≡ Some d)
    × (length d.variants ≡ 2)
bool_enum [] h = absurd (cc)
bool_enum (d ∷ ds) h = (d, refl, two_variants d.name d.variants ds h)

pub of_one : {X : Type 0} (x y : X) → Some x ≡ Some y → x ≡ y
of_one x y h = cc

pub some_kind : (o : Option Kind) → is_some o ≡ true → (kind : Kind) × (o ≡ Some kind)
some_kind (Some kind) h = (kind, refl)
some_kind None h = absurd (cc)

pub integer_kind : (o : Option Kind) → is_integer o ≡ true → (kind : Kind) × (o ≡ Some kind)
integer_kind (Some kind) h = (kind, refl)
integer_kind None h = absurd (cc)

pub some_types : (o : Option (List Ty)) → is_some o ≡ true → (after : List Ty) × (o ≡ Some after)
some_types (Some after) h = (after, refl)
some_types None h = absurd (cc)
