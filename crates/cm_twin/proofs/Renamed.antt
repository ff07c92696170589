-- What a value with other names is, form by form, and what two values that differ in names alone have in common.
use Rattle.std.proofs.Common.{◌≡◌, ℕ, zero, suc, ℤ, List, [], ◌∷◌, map, length, Option, Some, None, slice_get}
use Rattle.std.proofs.Common.{slice_set, refl, sym, ap, ◌∙◌, subst}
use Rattle.std.specs.Prelude.{option_map}
use Rattle.cm_model.specs.Tables.{Tables}
use Rattle.cm_model.specs.declared.ty.Ty.{Ty}
use Rattle.cm_value.specs.declared.value.Value.{Value, out-Value}
use Rattle.cm_value.specs.declared.value.Value.TheVariants as value
use Rattle.cm_value.specs.declared.value.Value.TheViews.{roll-Value, roll-out-Value}
use Rattle.cm_value.specs.declared.value.Value.TheOpen.{Value-F}
use Rattle.cm_value.specs.declared.value.Value.TheFolds.{fold-roll-Value}
use Rattle.cm_value.specs.Relabelling.{Relabel, each_relabelled, types_of_fields, type_of_payload}
use Rattle.cm_value.proofs.Folds.{fold-elem, fold-int, fold-tag, fold-rec, fold-none, fold-some}
use Rattle.cm_eval.specs.Comparison.{elem_in, elem_of, int_in, int_of, tag_in, tag_of, parts_in, parts_of, option_in}
use Rattle.cm_eval.specs.Comparison.{option_of}
use Rattle.cm_eval.proofs.Examples.{out_elem, out_int, out_tag, out_rec, out_none, out_some}
use Rattle.cm_relation.specs.Relation.{IfBoth}
use Rattle.cm_twin.specs.Names.{Naming, Names, name_in, named, named_step, AreTwins}

module _ (t : Tables) (f : Naming) (o : Option Ty) where
  abbrev typed : Relabel → Value
  typed m = m o

  pub named-elem : (n : ℕ) → named t f (value.Elem n) o ≡ value.Elem (name_in f o n)
  named-elem n = ap typed (fold-elem (named_step t f) n)

  pub named-int : (n : ℤ) → named t f (value.Int n) o ≡ value.Int n
  named-int n = ap typed (fold-int (named_step t f) n)

  pub named-tag : (n : ℕ) → named t f (value.Tag n) o ≡ value.Tag n
  named-tag n = ap typed (fold-tag (named_step t f) n)

  pub named-rec : (vs : List Value) → named t f (value.Rec vs) o ≡ value.Rec
      (each_relabelled (map (named t f) vs) (types_of_fields t o))
  named-rec vs = ap typed (fold-rec (named_step t f) vs)

  pub named-none : named t f value.None o ≡ value.None
  named-none = ap typed (fold-none (named_step t f))

  pub named-some : (v : Value) → named t f (value.Some v) o ≡ value.Some (named t f v (type_of_payload o))
  named-some v = ap typed (fold-some (named_step t f) v)

  -- the outer form, with other names inside
  abbrev pub form_named : Value-F Value → Value-F Value
  form_named (Value-F.Elem n) = Value-F.Elem (name_in f o n)
  form_named (Value-F.Int n) = Value-F.Int n
  form_named (Value-F.Tag n) = Value-F.Tag n
  form_named (Value-F.Rec vs) = Value-F.Rec (each_relabelled (map (named t f) vs) (types_of_fields t o))
  form_named Value-F.None = Value-F.None
  form_named (Value-F.Some v) = Value-F.Some (named t f v (type_of_payload o))

  rolled : (y : Value-F Value) → out-Value (named t f (roll-Value y) o) ≡ form_named y
  rolled (Value-F.Elem n) =
      ap (λ (m : Relabel). out-Value (m o)) (fold-roll-Value Relabel (named_step t f) (Value-F.Elem n))
      ∙ out_elem (name_in f o n)
  rolled (Value-F.Int n) =
      ap (λ (m : Relabel). out-Value (m o)) (fold-roll-Value Relabel (named_step t f) (Value-F.Int n)) ∙ out_int n
  rolled (Value-F.Tag n) =
      ap (λ (m : Relabel). out-Value (m o)) (fold-roll-Value Relabel (named_step t f) (Value-F.Tag n)) ∙ out_tag n
  rolled (Value-F.Rec vs) =
      ap (λ (m : Relabel). out-Value (m o)) (fold-roll-Value Relabel (named_step t f) (Value-F.Rec vs))
      ∙ out_rec (each_relabelled (map (named t f) vs) (types_of_fields t o))
  rolled Value-F.None =
      ap (λ (m : Relabel). out-Value (m o)) (fold-roll-Value Relabel (named_step t f) Value-F.None) ∙ out_none
  rolled (Value-F.Some v) =
      ap (λ (m : Relabel). out-Value (m o)) (fold-roll-Value Relabel (named_step t f) (Value-F.Some v))
      ∙ out_some (named t f v (type_of_payload o))

  pub out_named : (v : Value) → out-Value (named t f v o) ≡ form_named (out-Value v)
  out_named v =
      subst (λ w. out-Value (named t f w o) ≡ form_named (out-Value v)) (roll-out-Value v) (rolled (out-Value v))

  pub elem_named : (v : Value) → elem_of (named t f v o) ≡ option_map (name_in f o) (elem_of v)
  elem_named v = ap elem_in (out_named v) ∙ by (out-Value v)
    where
      by : (y : Value-F Value) → elem_in (form_named y) ≡ option_map (name_in f o) (elem_in y)
      by (Value-F.Elem n) = refl
      by (Value-F.Int n) = refl
      by (Value-F.Tag n) = refl
      by (Value-F.Rec vs) = refl
      by Value-F.None = refl
      by (Value-F.Some v) = refl

  pub int_named : (v : Value) → int_of (named t f v o) ≡ int_of v
  int_named v = ap int_in (out_named v) ∙ by (out-Value v)
    where
      by : (y : Value-F Value) → int_in (form_named y) ≡ int_in y
      by (Value-F.Elem n) = refl
      by (Value-F.Int n) = refl
      by (Value-F.Tag n) = refl
      by (Value-F.Rec vs) = refl
      by Value-F.None = refl
      by (Value-F.Some v) = refl

  pub tag_named : (v : Value) → tag_of (named t f v o) ≡ tag_of v
  tag_named v = ap tag_in (out_named v) ∙ by (out-Value v)
    where
      by : (y : Value-F Value) → tag_in (form_named y) ≡ tag_in y
      by (Value-F.Elem n) = refl
      by (Value-F.Int n) = refl
      by (Value-F.Tag n) = refl
      by (Value-F.Rec vs) = refl
      by Value-F.None = refl
      by (Value-F.Some v) = refl

  abbrev pub all_named : List Value → List Value
  all_named vs = each_relabelled (map (named t f) vs) (types_of_fields t o)

  pub parts_named : (v : Value) → parts_of (named t f v o) ≡ option_map all_named (parts_of v)
  parts_named v = ap parts_in (out_named v) ∙ by (out-Value v)
    where
      by : (y : Value-F Value) → parts_in (form_named y) ≡ option_map all_named (parts_in y)
      by (Value-F.Elem n) = refl
      by (Value-F.Int n) = refl
      by (Value-F.Tag n) = refl
      by (Value-F.Rec vs) = refl
      by Value-F.None = refl
      by (Value-F.Some v) = refl

  abbrev pub payload_named : Option Value → Option Value
  payload_named = option_map (λ v. named t f v (type_of_payload o))

  pub option_named : (v : Value) → option_of (named t f v o) ≡ option_map payload_named (option_of v)
  option_named v = ap option_in (out_named v) ∙ by (out-Value v)
    where
      by : (y : Value-F Value) → option_in (form_named y) ≡ option_map payload_named (option_in y)
      by (Value-F.Elem n) = refl
      by (Value-F.Int n) = refl
      by (Value-F.Tag n) = refl
      by (Value-F.Rec vs) = refl
      by Value-F.None = refl
      by (Value-F.Some v) = refl

-- lists of values one for one, by types as far as there are some
module _ (t : Tables) (names : Names) where
  abbrev pub Pairs : List Ty → List Value → List Value → Type 0
  Pairs us [] [] = Unit {0}
  Pairs [] (v ∷ vs) (w ∷ ws) = AreTwins t names None v w × Pairs [] vs ws
  Pairs (u ∷ us) (v ∷ vs) (w ∷ ws) = AreTwins t names (Some u) v w × Pairs us vs ws
  Pairs us [] (w ∷ ws) = ⊥
  Pairs us (v ∷ vs) [] = ⊥

  abbrev pub there : List Ty → List Value → List Value
  there us vs = each_relabelled (map (named t names.there) vs) us

  abbrev pub back : List Ty → List Value → List Value
  back us vs = each_relabelled (map (named t names.back) vs) us

  head_is : (v w : Value) (vs ws : List Value) → v ∷ vs ≡ w ∷ ws → v ≡ w
  head_is v w vs ws e = cc

  rest_is : (v w : Value) (vs ws : List Value) → v ∷ vs ≡ w ∷ ws → vs ≡ ws
  rest_is v w vs ws e = cc

  none_is : (v : Value) (vs : List Value) → v ∷ vs ≡ [] → ⊥
  none_is v vs e = cc

  pub pairs_from : (us : List Ty) (vs ws : List Value) → there us vs ≡ ws → back us ws ≡ vs → Pairs us vs ws
  pairs_from us [] [] e g = tt
  pairs_from [] (v ∷ vs) (w ∷ ws) e g = (
    (head_is _ _ _ _ e, head_is _ _ _ _ g),
    pairs_from [] vs ws (rest_is _ _ _ _ e) (rest_is _ _ _ _ g),
  )
  pairs_from (u ∷ us) (v ∷ vs) (w ∷ ws) e g = (
    (head_is _ _ _ _ e, head_is _ _ _ _ g),
    pairs_from us vs ws (rest_is _ _ _ _ e) (rest_is _ _ _ _ g),
  )
  pairs_from us [] (w ∷ ws) e g = absurd (none_is _ _ (sym e))
  pairs_from [] (v ∷ vs) [] e g = absurd (none_is _ _ e)
  pairs_from (u ∷ us) (v ∷ vs) [] e g = absurd (none_is _ _ e)

  pub pairs_there : (us : List Ty) (vs ws : List Value) → Pairs us vs ws → there us vs ≡ ws
  pairs_there us [] [] h = refl
  pairs_there [] (v ∷ vs) (w ∷ ws) h =
      ap (λ x. x ∷ there [] vs) h.0.0 ∙ ap (λ xs. w ∷ xs) (pairs_there [] vs ws h.1)
  pairs_there (u ∷ us) (v ∷ vs) (w ∷ ws) h =
      ap (λ x. x ∷ there us vs) h.0.0 ∙ ap (λ xs. w ∷ xs) (pairs_there us vs ws h.1)
  pairs_there us [] (w ∷ ws) h = absurd h
  pairs_there us (v ∷ vs) [] h = absurd h

  pub pairs_back : (us : List Ty) (vs ws : List Value) → Pairs us vs ws → back us ws ≡ vs
  pairs_back us [] [] h = refl
  pairs_back [] (v ∷ vs) (w ∷ ws) h =
      ap (λ x. x ∷ back [] ws) h.0.1 ∙ ap (λ xs. v ∷ xs) (pairs_back [] vs ws h.1)
  pairs_back (u ∷ us) (v ∷ vs) (w ∷ ws) h =
      ap (λ x. x ∷ back us ws) h.0.1 ∙ ap (λ xs. v ∷ xs) (pairs_back us vs ws h.1)
  pairs_back us [] (w ∷ ws) h = absurd h
  pairs_back us (v ∷ vs) [] h = absurd h

  pub pairs_at : (us : List Ty) (vs ws : List Value) (i : ℕ) (u : Ty) → Pairs us vs ws → slice_get us i ≡ Some u
      → IfBoth (AreTwins t names (Some u)) (slice_get vs i) (slice_get ws i)
  pairs_at us [] [] i u h at = tt
  pairs_at [] (v ∷ vs) (w ∷ ws) i u h at = absurd (cc)
  pairs_at (x ∷ us) (v ∷ vs) (w ∷ ws) zero u h at =
      let same : x ≡ u = cc in subst (λ y. AreTwins t names (Some y) v w) same h.0
  pairs_at (x ∷ us) (v ∷ vs) (w ∷ ws) (suc i) u h at = pairs_at us vs ws i u h.1 at
  pairs_at us [] (w ∷ ws) i u h at = absurd h
  pairs_at us (v ∷ vs) [] i u h at = absurd h

  pub pairs_set : (us : List Ty) (vs ws : List Value) (i : ℕ) (u : Ty) (x y : Value) → Pairs us vs ws
      → slice_get us i ≡ Some u → AreTwins t names (Some u) x y → Pairs us (slice_set vs i x) (slice_set ws i y)
  pairs_set us [] [] i u x y h at is = tt
  pairs_set [] (v ∷ vs) (w ∷ ws) i u x y h at is = absurd (cc)
  pairs_set (z ∷ us) (v ∷ vs) (w ∷ ws) zero u x y h at is =
      let same : z ≡ u = cc in (subst (λ a. AreTwins t names (Some a) x y) (sym same) is, h.1)
  pairs_set (z ∷ us) (v ∷ vs) (w ∷ ws) (suc i) u x y h at is = (h.0, pairs_set us vs ws i u x y h.1 at is)
  pairs_set us [] (w ∷ ws) i u x y h at is = absurd h
  pairs_set us (v ∷ vs) [] i u x y h at is = absurd h

  pub pairs_length : (us : List Ty) (vs ws : List Value) → Pairs us vs ws → length vs ≡ length ws
  pairs_length us [] [] h = refl
  pairs_length [] (v ∷ vs) (w ∷ ws) h = ap suc (pairs_length [] vs ws h.1)
  pairs_length (u ∷ us) (v ∷ vs) (w ∷ ws) h = ap suc (pairs_length us vs ws h.1)
  pairs_length us [] (w ∷ ws) h = absurd h
  pairs_length us (v ∷ vs) [] h = absurd h
