-- The rules on values keep names: the same call on arguments with other names does the same under these names.
use Rattle.std.proofs.Common.{◌≡◌, ℕ, ◌==◌, ltb, ℤ, Bool, true, false, List, [], ◌∷◌, map, length, Option, Some, zero}
use Rattle.std.proofs.Common.{suc, None, slice_get, slice_set, refl, sym, ap, ◌∙◌, subst, if◌then◌else◌}
use Rattle.std.specs.Prelude.{option_map}
use Rattle.cm_model.specs.Tables.{Tables}
use Rattle.cm_model.specs.Kinds as kinds
use Rattle.cm_value.specs.Relabelling as relabelling
use Rattle.cm_model.specs.Kinds.{Kind, Number, Of, is_integer, is_integer_ty, bool_ty, field_of, fields_in, payload_of}
use Rattle.cm_model.specs.Kinds.{payload_in}
use Rattle.cm_model.specs.declared.ty.Ty.{Ty, out-Ty}
use Rattle.cm_model.specs.declared.ty.Ty.TheVariants as ty
use Rattle.cm_model.specs.declared.ty.Ty.TheOpen.{Ty-F}
use Rattle.cm_model.specs.declared.ty.Part.{Part}
use Rattle.cm_model.specs.declared.ty.RecDecl.{RecDecl}
use Rattle.cm_model.specs.declared.body.StateDecl.{StateDecl}
use Rattle.cm_value.specs.declared.value.Value.{Value}
use Rattle.cm_value.specs.declared.value.Value.TheVariants as value
use Rattle.cm_value.specs.Relabelling.{types_of_fields, types_form, types_in, type_of_payload, payload_form}
use Rattle.cm_value.proofs.Types.{out_rec, out_option}
use Rattle.cm_value.proofs.Induction.{value_ind}
use Rattle.cm_eval.specs.declared.log.CellName.{CellName}
use Rattle.cm_eval.specs.declared.operand.Operand.{Operand}
use Rattle.cm_eval.specs.declared.operand.Operand.TheVariants as operand
use Rattle.cm_eval.specs.Script as script
use Rattle.cm_eval.specs.Script.{Replies, Blocks, Decides, Reads, Writes}
use Rattle.cm_eval.specs.Comparison.{comparison, ordered, option_of, parts_of}
use Rattle.cm_eval.specs.Evaluation as evaluation
use Rattle.cm_eval.specs.Evaluation.{Doing, value_of, number_of, choice_of, variant_of, inspects, orders, compares}
use Rattle.cm_eval.specs.Evaluation.{field_in, fields_with, with_field, opens}
use Rattle.cm_eval.specs.Values.{values, summed, placed, into}
use Rattle.cm_eval.specs.State.{same_value}
use Rattle.cm_story.proofs.Compared.{compared_beside}
use Rattle.cm_relation.specs.Relation.{Relation, KeepRelation, IfBoth, AreKeys, AreAll}
use Rattle.cm_twin.specs.Names.{Naming, Names, name_form, named, AreTwins, AreTwinCells, value_type, key_type}
use Rattle.cm_twin.proofs.Renamed.{named-elem, named-int, named-tag, named-rec, named-none, named-some, Pairs}
use Rattle.cm_twin.proofs.Renamed.{pairs_there, pairs_back, pairs_at, pairs_set, pairs_length}
use Rattle.cm_twin.proofs.Alike.{int_same, tag_same, parts_pair, option_pair, compared_same}

-- a type of integers names nothing
module _ (t : Tables) (f : Naming) where
  name_integer : (z : Ty-F Ty) (n : ℕ) → is_integer_ty z ≡ true → name_form f z n ≡ n
  name_integer (Ty-F.Int i) n h = refl
  name_integer (Ty-F.Sort s) n h = absurd (cc)
  name_integer (Ty-F.Enum e) n h = refl
  name_integer (Ty-F.Rec r) n h = refl
  name_integer (Ty-F.Option u) n h = refl

  types_integer : (z : Ty-F Ty) → is_integer_ty z ≡ true → types_form t z ≡ []
  types_integer (Ty-F.Int i) h = refl
  types_integer (Ty-F.Sort s) h = refl
  types_integer (Ty-F.Enum e) h = refl
  types_integer (Ty-F.Rec r) h = absurd (cc)
  types_integer (Ty-F.Option u) h = refl

  payload_integer : (z : Ty-F Ty) → is_integer_ty z ≡ true → payload_form z ≡ None
  payload_integer (Ty-F.Int i) h = refl
  payload_integer (Ty-F.Sort s) h = refl
  payload_integer (Ty-F.Enum e) h = refl
  payload_integer (Ty-F.Rec r) h = refl
  payload_integer (Ty-F.Option u) h = absurd (cc)

  integer_named : (u : Ty) → is_integer_ty (out-Ty u) ≡ true → (v : Value) → named t f v (Some u) ≡ named t f v None
  integer_named u h = value_ind (λ v. named t f v (Some u) ≡ named t f v None)
      (λ n. named-elem t f (Some u) n ∙ ap value.Elem (name_integer (out-Ty u) n h) ∙ sym (named-elem t f None n))
      (λ n. named-int t f (Some u) n ∙ sym (named-int t f None n))
      (λ n. named-tag t f (Some u) n ∙ sym (named-tag t f None n))
      (λ vs each. named-rec t f (Some u) vs
      ∙ ap (λ us. value.Rec (relabelling.each_relabelled (map (named t f) vs) us)) (types_integer (out-Ty u) h)
      ∙ sym (named-rec t f None vs))
      (named-none t f (Some u) ∙ sym (named-none t f None))
      (λ v same. named-some t f (Some u) v
      ∙ ap (λ w. value.Some (named t f v w)) (payload_integer (out-Ty u) h) ∙ sym (named-some t f None v))

module _ (t : Tables) (names : Names) (reply : Ty) where
  -- the second script is the first under the new names, where what it reads is
  abbrev pub Renamed : Doing → Doing → Type 0
  Renamed (Replies x) c = (x' : Value) × (c ≡ Replies x') × AreTwins t names (Some reply) x x'
  Renamed Blocks c = c ≡ Blocks
  Renamed (Decides d k) c = (k' : ℕ → Doing) × (c ≡ Decides d k') × Renamed (k d) (k' d)
  Renamed (Reads p k) c = (p' : CellName) × (k' : Value → Doing) × (c ≡ Reads p' k') × AreTwinCells t names p p'
      × ((x x' : Value) → AreTwins t names (value_type t p.state) x x' → Renamed (k x) (k' x'))
  Renamed (Writes p x k) c = (p' : CellName) × (x' : Value) × (k' : Doing) × (c ≡ Writes p' x' k')
      × AreTwinCells t names p p' × AreTwins t names (value_type t p.state) x x' × Renamed k k'

  abbrev AreOperands : Kind → Operand → Operand → Type 0
  AreOperands (Of u) (operand.Plain x) (operand.Plain y) = AreTwins t names (Some u) x y
  AreOperands Number (operand.Number m) (operand.Number n) = m ≡ n
  AreOperands (Of u) (operand.Number m) p = ⊥
  AreOperands (Of u) (operand.Plain x) (operand.Number n) = ⊥
  AreOperands Number (operand.Plain x) p = ⊥
  AreOperands Number (operand.Number m) (operand.Plain y) = ⊥

  -- values beside the same under the new names
  abbrev pub twins : Relation Value Operand Doing Value Operand Doing
  twins = record {
    value = λ u x y. AreTwins t names (Some u) x y;
    operand = λ n kind o p. AreOperands kind o p;
    doing = Renamed;
  }

  number_same : (kind : Kind) (o p : Operand) → AreOperands kind o p → number_of p ≡ number_of o
  number_same (Of u) (operand.Plain x) (operand.Plain y) h = int_same t names (Some u) x y h
  number_same Number (operand.Number m) (operand.Number n) h = ap Some (sym h)
  number_same (Of u) (operand.Number m) p h = absurd h
  number_same (Of u) (operand.Plain x) (operand.Number n) h = absurd h
  number_same Number (operand.Plain x) p h = absurd h
  number_same Number (operand.Number m) (operand.Plain y) h = absurd h

  choice_same : (u : Ty) (o p : Operand) → AreOperands (Of u) o p → choice_of p ≡ choice_of o
  choice_same u (operand.Plain x) (operand.Plain y) h = tag_same t names (Some u) x y h
  choice_same u (operand.Number m) p h = absurd h
  choice_same u (operand.Plain x) (operand.Number n) h = absurd h

  all_pairs : (us : List Ty) (vs ws : List Value) → AreAll (λ u x y. AreTwins t names (Some u) x y) us vs ws
      → Pairs t names us vs ws
  all_pairs [] [] [] h = tt
  all_pairs (u ∷ us) (v ∷ vs) (w ∷ ws) h = (h.0, all_pairs us vs ws h.1)
  all_pairs [] [] (w ∷ ws) h = absurd h
  all_pairs [] (v ∷ vs) ws h = absurd h
  all_pairs (u ∷ us) [] ws h = absurd h
  all_pairs (u ∷ us) (v ∷ vs) [] h = absurd h

  -- records of the same fields
  rec_twins : (o : Option Ty) (vs ws : List Value) → Pairs t names (types_of_fields t o) vs ws
      → AreTwins t names o (value.Rec vs) (value.Rec ws)
  rec_twins o vs ws h = (
    named-rec t names.there o vs ∙ ap value.Rec (pairs_there t names (types_of_fields t o) vs ws h),
    named-rec t names.back o ws ∙ ap value.Rec (pairs_back t names (types_of_fields t o) vs ws h),
  )

  record_types : (n : ℕ) (d : RecDecl) → slice_get t.records n ≡ Some d
      → types_of_fields t (Some (ty.Rec n)) ≡ map (λ (p : Part). p.ty) d.fields
  record_types n d at = ap (types_form t) (out_rec n) ∙ ap types_in at

  -- the type of a field, where it is one
  field_type : (u w : Ty) (i : ℕ) → field_of t u i ≡ Some w → slice_get (types_of_fields t (Some u)) i ≡ Some w
  field_type u w i at = by (out-Ty u) at
    where
      mapped : (ps : List Part) (j : ℕ) → option_map (λ (p : Part). p.ty) (slice_get ps j) ≡ Some w
          → slice_get (map (λ (p : Part). p.ty) ps) j ≡ Some w
      mapped [] j h = absurd (cc)
      mapped (p ∷ ps) zero h = h
      mapped (p ∷ ps) (suc j) h = mapped ps j h

      fields : (d : Option RecDecl)
          → kinds.given (option_map (λ (d : RecDecl). d.fields) d)
          (λ ps. option_map (λ (p : Part). p.ty) (slice_get ps i)) ≡ Some w
          → slice_get (types_in d) i ≡ Some w
      fields (Some d) h = mapped d.fields i h
      fields None h = absurd (cc)

      by : (z : Ty-F Ty)
          → kinds.given (fields_in t z) (λ ps. option_map (λ (p : Part). p.ty) (slice_get ps i)) ≡ Some w
          → slice_get (types_form t z) i ≡ Some w
      by (Ty-F.Rec r) h = fields (slice_get t.records r) h
      by (Ty-F.Sort s) h = absurd (cc)
      by (Ty-F.Int j) h = absurd (cc)
      by (Ty-F.Enum e) h = absurd (cc)
      by (Ty-F.Option v) h = absurd (cc)

  field_kept : (u w : Ty) (x y : Value) (i : ℕ) → AreTwins t names (Some u) x y → field_of t u i ≡ Some w
      → IfBoth (AreTwins t names (Some w)) (field_in (parts_of x) i) (field_in (parts_of y) i)
  field_kept u w x y i is at = by (parts_of x) (parts_of y) (parts_pair t names (Some u) x y is)
    where
      by : (p q : Option (List Value)) → IfBoth (Pairs t names (types_of_fields t (Some u))) p q
          → IfBoth (AreTwins t names (Some w)) (field_in p i) (field_in q i)
      by (Some vs) (Some ws) h =
          pairs_at t names (types_of_fields t (Some u)) vs ws i w h (field_type u w i at)
      by None None h = tt
      by (Some vs) None h = absurd h
      by None (Some ws) h = absurd h

  with_kept : (u w : Ty) (x y : Value) (i : ℕ) (a b : Value) → AreTwins t names (Some u) x y
      → field_of t u i ≡ Some w → AreTwins t names (Some w) a b
      → IfBoth (AreTwins t names (Some u)) (with_field x i a) (with_field y i b)
  with_kept u w x y i a b is at new = by (parts_of x) (parts_of y) (parts_pair t names (Some u) x y is)
    where
      set : (vs ws : List Value)
          → AreTwins t names (Some u) (value.Rec (slice_set vs i a)) (value.Rec (slice_set ws i b))
          → (c : Bool)
          → IfBoth (AreTwins t names (Some u)) (if c then Some (value.Rec (slice_set vs i a)) else None)
          (if c then Some (value.Rec (slice_set ws i b)) else None)
      set vs ws h true = h
      set vs ws h false = tt

      by : (p q : Option (List Value)) → IfBoth (Pairs t names (types_of_fields t (Some u))) p q
          → IfBoth (AreTwins t names (Some u)) (fields_with p i a) (fields_with q i b)
      by (Some vs) (Some ws) h =
          subst (λ n. IfBoth (AreTwins t names (Some u)) (fields_with (Some vs) i a)
          (if ltb i n then Some (value.Rec (slice_set ws i b)) else None))
          (pairs_length t names (types_of_fields t (Some u)) vs ws h)
          (set vs ws (rec_twins (Some u) (slice_set vs i a) (slice_set ws i b)
          (pairs_set t names (types_of_fields t (Some u)) vs ws i w a b h (field_type u w i at) new))
          (ltb i (length vs)))
      by None None h = tt
      by (Some vs) None h = absurd h
      by None (Some ws) h = absurd h

  option_payload : (u : Ty) → type_of_payload (Some (ty.Option u)) ≡ Some u
  option_payload u = ap payload_form (out_option u)

  some_kept : (u : Ty) (x y : Value) → AreTwins t names (Some u) x y
      → AreTwins t names (Some (ty.Option u)) (value.Some x) (value.Some y)
  some_kept u x y is = (
    named-some t names.there (Some (ty.Option u)) x
        ∙ ap (λ o. value.Some (named t names.there x o)) (option_payload u) ∙ ap value.Some is.0,
    named-some t names.back (Some (ty.Option u)) y
        ∙ ap (λ o. value.Some (named t names.back y o)) (option_payload u) ∙ ap value.Some is.1,
  )

  value_kept : (u : Ty) (o p : Operand) → AreOperands (Of u) o p
      → IfBoth (AreTwins t names (Some u)) (value_of o) (value_of p)
  value_kept u (operand.Plain x) (operand.Plain y) h = h
  value_kept u (operand.Number m) p h = absurd h
  value_kept u (operand.Plain x) (operand.Number n) h = absurd h

  shift_kept : (o : Option ℤ) (by : ℤ) → IfBoth (AreOperands Number) (summed o by) (summed o by)
  shift_kept (Some n) by = refl
  shift_kept None by = tt

  -- the same of both sides is given
  given_kept : {X : Type 0} (o p : Option X) (k l : X → Doing) → p ≡ o → ((x : X) → Renamed (k x) (l x))
      → Renamed (script.given o k) (script.given p l)
  given_kept {X = X} o p k l same h = subst (λ q. Renamed (script.given o k) (script.given q l)) (sym same) (by o)
    where
      by : (q : Option X) → Renamed (script.given q k) (script.given q l)
      by (Some x) = h x
      by None = refl

  orders_kept : (o o' p p' : Operand) (k l : ℕ → Doing) → number_of o' ≡ number_of o → number_of p' ≡ number_of p
      → ((d : ℕ) → Renamed (k d) (l d)) → Renamed (orders o p k) (orders o' p' l)
  orders_kept o o' p p' k l is are h =
      given_kept (number_of o) (number_of o') (λ m. script.given (number_of p) (λ n. Decides (ordered m n) k))
      (λ m. script.given (number_of p') (λ n. Decides (ordered m n) l)) is (λ m.
      given_kept (number_of p) (number_of p') (λ n. Decides (ordered m n) k) (λ n. Decides (ordered m n) l) are (λ n.
      (l, refl, h (ordered m n))))

  -- two values by their form
  compared_kept : (o : Option Ty) (x x' y y' : Value) (k l : Bool → Doing) → AreTwins t names o x x'
      → AreTwins t names o y y' → ((b : Bool) → Renamed (k b) (l b))
      → Renamed (comparison Doing Blocks Decides x y k) (comparison Doing Blocks Decides x' y' l)
  compared_kept o x x' y y' k l is are h =
      subst (λ c. Renamed (comparison Doing Blocks Decides x y k) c)
      (sym (compared_same t names Doing Blocks Decides x x' y y' o l is are))
      (compared_beside Doing Doing Blocks Blocks Decides Decides Renamed refl (λ d f g e. (g, refl, e)) x y k l
      (h (same_value x y)))

  values_compared : (u : Ty) (o o' p p' : Operand) (k l : Bool → Doing) → AreOperands (Of u) o o'
      → AreOperands (Of u) p p' → ((b : Bool) → Renamed (k b) (l b)) → Renamed (compares o p k) (compares o' p' l)
  values_compared u (operand.Plain x) (operand.Plain x') (operand.Plain y) (operand.Plain y') k l is are h =
      compared_kept (Some u) x x' y y' k l is are h
  values_compared u (operand.Number m) o' p p' k l is are h = absurd is
  values_compared u (operand.Plain x) (operand.Number n) p p' k l is are h = absurd is
  values_compared u (operand.Plain x) (operand.Plain x') (operand.Number m) p' k l is are h = absurd are
  values_compared u (operand.Plain x) (operand.Plain x') (operand.Plain y) (operand.Number n) k l is are h = absurd are

  -- integers have no names
  abbrev AreIntegers : Operand → Operand → Type 0
  AreIntegers (operand.Plain x) (operand.Plain y) = AreTwins t names None x y
  AreIntegers (operand.Number m) (operand.Number n) = m ≡ n
  AreIntegers (operand.Plain x) (operand.Number n) = ⊥
  AreIntegers (operand.Number m) (operand.Plain y) = ⊥

  integers_are : (kind : Kind) (o p : Operand) → is_integer (Some kind) ≡ true → AreOperands kind o p
      → AreIntegers o p
  integers_are (Of u) (operand.Plain x) (operand.Plain y) integer h = (
    sym (integer_named t names.there u integer x) ∙ h.0,
    sym (integer_named t names.back u integer y) ∙ h.1,
  )
  integers_are Number (operand.Number m) (operand.Number n) integer h = h
  integers_are (Of u) (operand.Number m) p integer h = absurd h
  integers_are (Of u) (operand.Plain x) (operand.Number n) integer h = absurd h
  integers_are Number (operand.Plain x) p integer h = absurd h
  integers_are Number (operand.Number m) (operand.Plain y) integer h = absurd h

  integers_number : (o p : Operand) → AreIntegers o p → number_of p ≡ number_of o
  integers_number (operand.Plain x) (operand.Plain y) h = int_same t names None x y h
  integers_number (operand.Number m) (operand.Number n) h = ap Some (sym h)
  integers_number (operand.Plain x) (operand.Number n) h = absurd h
  integers_number (operand.Number m) (operand.Plain y) h = absurd h

  numbers_compared : (o o' p p' : Operand) (k l : Bool → Doing) → AreIntegers o o' → AreIntegers p p'
      → ((b : Bool) → Renamed (k b) (l b)) → Renamed (compares o p k) (compares o' p' l)
  numbers_compared (operand.Plain x) (operand.Plain x') (operand.Plain y) (operand.Plain y') k l is are h =
      compared_kept None x x' y y' k l is are h
  numbers_compared (operand.Plain x) (operand.Plain x') (operand.Number m) (operand.Number n) k l is are h =
      orders_kept (operand.Plain x) (operand.Plain x') (operand.Number m) (operand.Number n) (λ d. k (d == 1))
      (λ d. l (d == 1)) (integers_number (operand.Plain x) (operand.Plain x') is) (ap Some (sym are)) (λ d. h (d == 1))
  numbers_compared (operand.Number m) (operand.Number n) p p' k l is are h =
      orders_kept (operand.Number m) (operand.Number n) p p' (λ d. k (d == 1)) (λ d. l (d == 1)) (ap Some (sym is))
      (integers_number p p' are) (λ d. h (d == 1))
  numbers_compared (operand.Plain x) (operand.Plain x') (operand.Plain y) (operand.Number n) k l is are h = absurd are
  numbers_compared (operand.Plain x) (operand.Plain x') (operand.Number m) (operand.Plain y) k l is are h = absurd are
  numbers_compared (operand.Plain x) (operand.Number n) p p' k l is are h = absurd is
  numbers_compared (operand.Number m) (operand.Plain y) p p' k l is are h = absurd is

  into_kept : (lo hi : ℤ) (i : ℕ) (o p : Operand) (k l : Value → Doing) → number_of p ≡ number_of o
      → ((x y : Value) → AreTwins t names (Some (ty.Int i)) x y → Renamed (k x) (l y))
      → Renamed (into lo hi o k) (into lo hi p l)
  into_kept lo hi i o p k l same h =
      given_kept (number_of o) (number_of p)
      (λ n. Decides (placed lo hi n) (λ d. if d == 1 then k (value.Int n) else Blocks))
      (λ n. Decides (placed lo hi n) (λ d. if d == 1 then l (value.Int n) else Blocks)) same (λ n.
      ((λ d. if d == 1 then l (value.Int n) else Blocks), refl, by n (placed lo hi n == 1)))
    where
      by : (n : ℤ) (b : Bool)
          → Renamed (if b then k (value.Int n) else Blocks) (if b then l (value.Int n) else Blocks)
      by n true = h (value.Int n) (value.Int n) (
        named-int t names.there (Some (ty.Int i)) n,
        named-int t names.back (Some (ty.Int i)) n,
      )
      by n false = refl

  payload_type : (u w : Ty) → payload_of u ≡ Some w → type_of_payload (Some u) ≡ Some w
  payload_type u w at = by (out-Ty u) at
    where
      by : (z : Ty-F Ty) → payload_in z ≡ Some w → payload_form z ≡ Some w
      by (Ty-F.Option v) h = h
      by (Ty-F.Sort s) h = absurd (cc)
      by (Ty-F.Int i) h = absurd (cc)
      by (Ty-F.Enum e) h = absurd (cc)
      by (Ty-F.Rec r) h = absurd (cc)

  opens_kept : (u w : Ty) (x y : Value) (k l : Option Value → Doing) → AreTwins t names (Some u) x y
      → payload_of u ≡ Some w
      → ((o p : Option Value) → IfBoth (AreTwins t names (Some w)) o p → Renamed (k o) (l p))
      → Renamed (opens (option_of x) k) (opens (option_of y) l)
  opens_kept u w x y k l is at h =
      by (option_of x) (option_of y) (subst (λ o. IfBoth (IfBoth (AreTwins t names o)) (option_of x) (option_of y))
      (payload_type u w at) (option_pair t names (Some u) x y is))
    where
      by : (p q : Option (Option Value)) → IfBoth (IfBoth (AreTwins t names (Some w))) p q
          → Renamed (opens p k) (opens q l)
      by (Some (Some v)) (Some (Some v')) e = (
        (λ d. if d == 1 then l (Some v') else l None),
        refl,
        h (Some v) (Some v') e,
      )
      by (Some None) (Some None) e = ((λ d. if d == 1 then Blocks else l None), refl, h None None tt)
      by None None e = refl
      by (Some (Some v)) (Some None) e = absurd e
      by (Some None) (Some (Some v)) e = absurd e
      by (Some p) None e = absurd e
      by None (Some q) e = absurd e

  -- cells of one state
  keys_twin : (o : Option Ty) (c c' : Option Value) → AreKeys (λ u x y. AreTwins t names (Some u) x y) o c c'
      → (option_map (λ v. named t names.there v o) c ≡ c') × (option_map (λ v. named t names.back v o) c' ≡ c)
  keys_twin None None None h = (refl, refl)
  keys_twin (Some u) (Some v) (Some w) h = (ap Some h.0, ap Some h.1)
  keys_twin None None (Some w) h = absurd h
  keys_twin None (Some v) c h = absurd h
  keys_twin (Some u) None c h = absurd h
  keys_twin (Some u) (Some v) None h = absurd h

  cells_twin : (s : ℕ) (d : StateDecl) (c c' : Option Value) → slice_get t.states s ≡ Some d
      → AreKeys (λ u x y. AreTwins t names (Some u) x y) d.key c c'
      → AreTwinCells t names (evaluation.named s c) (evaluation.named s c')
  cells_twin s d c c' at are =
      let ty : key_type t s ≡ d.key = ap (λ o. kinds.given o (λ (e : StateDecl). e.key)) at in
      let both = keys_twin d.key c c' are in (
        ap (λ o. evaluation.named s (option_map (λ v. named t names.there v o) c)) ty
            ∙ ap (evaluation.named s) both.0,
        ap (λ o. evaluation.named s (option_map (λ v. named t names.back v o) c')) ty
            ∙ ap (evaluation.named s) both.1,
      )

  -- the type of a state's values
  pub cell_value : (s : ℕ) (d : StateDecl) → slice_get t.states s ≡ Some d → value_type t s ≡ Some d.value
  cell_value s d at = ap (option_map (λ (e : StateDecl). e.value)) at

  pub tag_twin : (o : Option Ty) (n : ℕ) → AreTwins t names o (value.Tag n) (value.Tag n)
  tag_twin o n = (named-tag t names.there o n, named-tag t names.back o n)

  pub keeps_names : KeepRelation t Value Operand Doing Value Operand Doing values values twins
  keeps_names = record {
    tag = λ e i d at lt. tag_twin (Some (ty.Enum e)) i;
    flag = λ b. tag_twin (Some bool_ty) (variant_of b);
    make = λ n d vs ws at are. rec_twins (Some (ty.Rec n)) vs ws
        (subst (λ us. Pairs t names us vs ws) (sym (record_types n d at)) (all_pairs _ vs ws are));
    nothing = λ u known. (
      named-none t names.there (Some (ty.Option u)),
      named-none t names.back (Some (ty.Option u)),
    );
    some = λ u x y known is. some_kept u x y is;
    field = λ u w x y i is at. field_kept u w x y i is at;
    with_field = λ u w x y i a b is at new. with_kept u w x y i a b is at new;
    plain = λ n u x y is. is;
    number = λ n m small. refl;
    value = λ n u o p is. value_kept u o p is;
    shift = λ n kind o p by few integer small is.
        subst (λ q. IfBoth (AreOperands Number) (summed (number_of o) by) (summed q by))
        (sym (number_same kind o p is)) (shift_kept (number_of o) by);
    blocks = refl;
    inspects = λ n o p k l few is goes.
        given_kept (choice_of o) (choice_of p) (λ i. Decides i (λ d. k (d == 1))) (λ i. Decides i (λ d. l (d == 1)))
        (choice_same bool_ty o p is) (λ i. ((λ d. l (d == 1)), refl, goes (i == 1)));
    compares_values = λ m n u o o' p p' k l few fewer is are goes. values_compared u o o' p p' k l is are goes;
    compares_numbers = λ m n i j o o' p p' k l few fewer left right is are goes.
        numbers_compared o o' p p' k l (integers_are i o o' left is) (integers_are j p p' right are) goes;
    orders = λ m n i j o o' p p' k l few fewer left right is are goes.
        orders_kept o o' p p' k l (number_same i o o' is) (number_same j p p' are) goes;
    into = λ n i d kind o p k l few at integer is goes.
        into_kept d.lo d.hi i o p k l (number_same kind o p is) goes;
    opens = λ u w x y k l is at goes. opens_kept u w x y k l is at goes;
    reads = λ s d c c' k l at are goes. (
      evaluation.named s c',
      l,
      refl,
      cells_twin s d c c' at are,
      (λ x y is. goes x y (subst (λ o. AreTwins t names o x y) (cell_value s d at) is)),
    );
    writes = λ s d c c' x y k l at are is goes. (
      evaluation.named s c',
      y,
      l,
      refl,
      cells_twin s d c c' at are,
      subst (λ o. AreTwins t names o x y) (sym (cell_value s d at)) is,
      goes,
    );
  }
