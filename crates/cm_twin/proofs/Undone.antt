-- Values whose elements come back under the old names are twins of those under the new ones.
use Rattle.std.proofs.Common.{◌≡◌, ℕ, Bool, true, false, ◌&&◌, List, [], ◌∷◌, ◌++◌, map, Option, Some, None, slice_get}
use Rattle.std.proofs.Common.{IsTrue, refl, ap, ◌∙◌, subst}
use Rattle.std.specs.Prelude.{option_map}
use Rattle.cm_model.specs.Tables.{Tables}
use Rattle.cm_model.specs.declared.ty.Ty.{Ty, out-Ty}
use Rattle.cm_model.specs.declared.ty.Ty.TheOpen.{Ty-F}
use Rattle.cm_model.specs.declared.ty.RecDecl.{RecDecl}
use Rattle.cm_model.specs.declared.body.Call.{Call}
use Rattle.cm_model.specs.declared.body.StateDecl.{StateDecl}
use Rattle.cm_value.specs.declared.value.Value.{Value}
use Rattle.cm_value.specs.declared.value.Value.TheVariants as value
use Rattle.cm_value.specs.Membership.{is_value_of, are_values_of, field_types}
use Rattle.cm_value.specs.Relabelling.{each_relabelled, types_of_fields, types_form, types_in, type_of_payload}
use Rattle.cm_value.specs.Relabelling.{payload_form}
use Rattle.cm_value.proofs.Folds.{fold-elem, fold-rec, fold-some}
use Rattle.cm_value.proofs.Induction.{Each, value_ind}
use Rattle.cm_eval.specs.declared.log.CellName.{CellName}
use Rattle.cm_eval.specs.State.{Store, look_up}
use Rattle.cm_world.specs.World.{are_arguments_in}
use Rattle.cm_world.specs.Shape as shape
use Rattle.cm_world.specs.Shape.{Mark, Element, Presence, Number, Marked, element_of, fields_marked, record_marked}
use Rattle.cm_world.specs.Shape.{mark_step, marks_of, arguments_marked, cell_marked, cells_marked}
use Rattle.cm_relation.specs.Relation.{AreAll}
use Rattle.cm_story.specs.Following.{Look, looks, or_filler}
use Rattle.cm_twin.specs.Names.{Naming, Names, name_in, name_form, named, AreTwins, value_type}
use Rattle.cm_twin.specs.Twins.{AreTwinArguments, arguments_named}
use Rattle.cm_twin.specs.Own.{AreUndone}
use Rattle.cm_twin.proofs.Renamed.{named-elem, named-int, named-tag, named-rec, named-none, named-some}

-- where there is no type there are no names
module _ (t : Tables) (f : Naming) where
  all_kept : (vs : List Value) → Each (λ v. named t f v None ≡ v) vs → each_relabelled (map (named t f) vs) [] ≡ vs
  all_kept [] same = refl
  all_kept (v ∷ vs) same =
      ap (λ w. w ∷ each_relabelled (map (named t f) vs) []) same.0 ∙ ap (λ ws. v ∷ ws) (all_kept vs same.1)

  untyped_kept : (v : Value) → named t f v None ≡ v
  untyped_kept = value_ind (λ v. named t f v None ≡ v)
      (λ n. named-elem t f None n)
      (λ n. named-int t f None n)
      (λ n. named-tag t f None n)
      (λ vs same. named-rec t f None vs ∙ ap value.Rec (all_kept vs same))
      (named-none t f None)
      (λ v same. named-some t f None v ∙ ap value.Some same)

module _ (t : Tables) (names : Names) where
  abbrev Undone : List Mark → Type 0
  Undone = AreUndone names

  pub left_undone : (ms ns : List Mark) → Undone (ms ++ ns) → Undone ms
  left_undone [] ns h = tt
  left_undone (Element s n ∷ ms) ns h = (h.0, left_undone ms ns h.1)
  left_undone (Presence d ∷ ms) ns h = left_undone ms ns h
  left_undone (Number n ∷ ms) ns h = left_undone ms ns h

  pub right_undone : (ms ns : List Mark) → Undone (ms ++ ns) → Undone ns
  right_undone [] ns h = h
  right_undone (Element s n ∷ ms) ns h = right_undone ms ns h.1
  right_undone (Presence d ∷ ms) ns h = right_undone ms ns h
  right_undone (Number n ∷ ms) ns h = right_undone ms ns h

  abbrev there : List Value → List Ty → List Value
  there vs us = each_relabelled (map (named t names.there) vs) us

  abbrev back : List Value → List Ty → List Value
  back vs us = each_relabelled (map (named t names.back) vs) us

  abbrev round : Option Ty → Value → Value
  round o v = named t names.back (named t names.there v o) o

  abbrev Returns : Value → Type 0
  Returns v = (u : Ty) → Undone (marks_of t v u) → round (Some u) v ≡ v

  untyped_round : (v : Value) → round None v ≡ v
  untyped_round v =
      ap (λ w. named t names.back w None) (untyped_kept t names.there v) ∙ untyped_kept t names.back v

  fields_round : (vs : List Value) (us : List Ty) → Each Returns vs → Undone (fields_marked (map (marks_of t) vs) us)
      → back (there vs us) us ≡ vs
  fields_round [] us each h = refl
  fields_round (v ∷ vs) [] each h =
      ap (λ w. w ∷ back (there vs []) []) (untyped_round v) ∙ ap (λ ws. v ∷ ws) (fields_round vs [] each.1 (none vs))
    where
      none : (vs : List Value) → Undone (fields_marked (map (marks_of t) vs) [])
      none [] = tt
      none (v ∷ vs) = tt
  fields_round (v ∷ vs) (u ∷ us) each h =
      ap (λ w. w ∷ back (there vs us) us) (each.0 u (left_undone (marks_of t v u) _ h))
      ∙ ap (λ ws. v ∷ ws) (fields_round vs us each.1 (right_undone (marks_of t v u) _ h))

  no_marks : (vs : List Value) → Undone (fields_marked (map (marks_of t) vs) [])
  no_marks [] = tt
  no_marks (v ∷ vs) = tt

  elem_round : (z : Ty-F Ty) (n : ℕ) → Undone (element_of z n) → name_form names.back z (name_form names.there z n) ≡ n
  elem_round (Ty-F.Sort s) n h = h.0
  elem_round (Ty-F.Int i) n h = refl
  elem_round (Ty-F.Enum e) n h = refl
  elem_round (Ty-F.Rec r) n h = refl
  elem_round (Ty-F.Option u) n h = refl

  rec_round : (vs : List Value) → Each Returns vs → (z : Ty-F Ty) → Undone (shape.fields_of t z (map (marks_of t) vs))
      → back (there vs (types_form t z)) (types_form t z) ≡ vs
  rec_round vs each (Ty-F.Rec r) h = by (slice_get t.records r) h
    where
      by : (o : Option RecDecl) → Undone (record_marked o (map (marks_of t) vs))
          → back (there vs (types_in o)) (types_in o) ≡ vs
      by (Some d) h = fields_round vs (field_types d) each h
      by None h = fields_round vs [] each (no_marks vs)
  rec_round vs each (Ty-F.Sort s) h = fields_round vs [] each (no_marks vs)
  rec_round vs each (Ty-F.Int i) h = fields_round vs [] each (no_marks vs)
  rec_round vs each (Ty-F.Enum e) h = fields_round vs [] each (no_marks vs)
  rec_round vs each (Ty-F.Option u) h = fields_round vs [] each (no_marks vs)

  some_round : (v : Value) → Returns v → (z : Ty-F Ty) → Undone (shape.payload_of z (marks_of t v))
      → round (payload_form z) v ≡ v
  some_round v returns (Ty-F.Option u) h = returns u h
  some_round v returns (Ty-F.Sort s) h = untyped_round v
  some_round v returns (Ty-F.Int i) h = untyped_round v
  some_round v returns (Ty-F.Enum e) h = untyped_round v
  some_round v returns (Ty-F.Rec r) h = untyped_round v

  returns : (v : Value) → Returns v
  returns = value_ind Returns
      (λ n u h. ap (λ v. named t names.back v (Some u)) (named-elem t names.there (Some u) n)
      ∙ named-elem t names.back (Some u) (name_in names.there (Some u) n)
      ∙ ap value.Elem (elem_round (out-Ty u) n (subst Undone (ap (λ (m : Marked). m u) (fold-elem (mark_step t) n)) h)))
      (λ n u h. ap (λ v. named t names.back v (Some u)) (named-int t names.there (Some u) n)
      ∙ named-int t names.back (Some u) n)
      (λ n u h. ap (λ v. named t names.back v (Some u)) (named-tag t names.there (Some u) n)
      ∙ named-tag t names.back (Some u) n)
      (λ vs each u h. ap (λ v. named t names.back v (Some u)) (named-rec t names.there (Some u) vs)
      ∙ named-rec t names.back (Some u) (there vs (types_of_fields t (Some u)))
      ∙ ap value.Rec (rec_round vs each (out-Ty u)
      (subst Undone (ap (λ (m : Marked). m u) (fold-rec (mark_step t) vs)) h)))
      (λ u h. ap (λ v. named t names.back v (Some u)) (named-none t names.there (Some u))
      ∙ named-none t names.back (Some u))
      (λ v back_too u h. ap (λ x. named t names.back x (Some u)) (named-some t names.there (Some u) v)
      ∙ named-some t names.back (Some u) (named t names.there v (type_of_payload (Some u)))
      ∙ ap value.Some (some_round v back_too (out-Ty u)
      (subst Undone (ap (λ (m : Marked). m u) (fold-some (mark_step t) v)) h)))

  pub undone_twins : (u : Ty) (v : Value) → Undone (marks_of t v u)
      → AreTwins t names (Some u) v (named t names.there v (Some u))
  undone_twins u v h = (refl, returns v u h)

  untyped_twins : (v : Value) → AreTwins t names None v (named t names.there v None)
  untyped_twins v = (refl, untyped_round v)

  all_undone : (us : List Ty) (vs : List Value) → IsTrue (are_values_of t us vs)
      → Undone (fields_marked (map (marks_of t) vs) us)
      → AreAll (λ u v w. AreTwins t names (Some u) v w) us vs (there vs us)
  all_undone [] [] are h = tt
  all_undone [] (v ∷ vs) are h = absurd (cc)
  all_undone (u ∷ us) [] are h = absurd (cc)
  all_undone (u ∷ us) (v ∷ vs) are h = (
    undone_twins u v (left_undone (marks_of t v u) _ h),
    all_undone us vs (rest (is_value_of t u v) are) (right_undone (marks_of t v u) _ h),
  )
    where
      rest : (b : Bool) → (b && are_values_of t us vs) ≡ true → are_values_of t us vs ≡ true
      rest true e = e
      rest false e = absurd (cc)

  pub arguments_undone : (o : Option Call) (vs : List Value) → IsTrue (are_arguments_in t o vs)
      → Undone (arguments_marked t o vs) → AreTwinArguments t names o vs (arguments_named t names.there o vs)
  arguments_undone (Some d) vs are h = all_undone (map (λ p. p.ty) d.params) vs are h
  arguments_undone None vs are h = absurd (cc)

  -- the values of these cells are twins of those under the new names
  abbrev pub HaveTwins : Look → List CellName → Type 0
  HaveTwins o [] = Unit {0}
  HaveTwins o (c ∷ cs) =
      AreTwins t names (value_type t c.state) (o c) (named t names.there (o c) (value_type t c.state)) × HaveTwins o cs

  pub cells_undone : (s : Store) (cs : List CellName) → Undone (cells_marked t s cs) → HaveTwins (looks s) cs
  cells_undone s [] h = tt
  cells_undone s (c ∷ cs) h = (
    by (slice_get t.states c.state) (look_up s c)
        (left_undone (cell_marked t (slice_get t.states c.state) (look_up s c)) _ h),
    cells_undone s cs (right_undone (cell_marked t (slice_get t.states c.state) (look_up s c)) _ h),
  )
    where
      by : (d : Option StateDecl) (o : Option Value) → Undone (cell_marked t d o)
          → AreTwins t names (option_map (λ (e : StateDecl). e.value) d) (or_filler o)
          (named t names.there (or_filler o) (option_map (λ (e : StateDecl). e.value) d))
      by (Some d) (Some v) h = undone_twins d.value v h
      by (Some d) None h = (
        refl,
        ap (λ v. named t names.back v (Some d.value)) (named-none t names.there (Some d.value))
            ∙ named-none t names.back (Some d.value),
      )
      by None o h = untyped_twins (or_filler o)
