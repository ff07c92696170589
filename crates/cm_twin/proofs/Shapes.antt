-- A twin has the same shape, and where its names are numbers of first appearance its elements are the shape.
use Rattle.std.proofs.Common.{◌≡◌, ℕ, ◌+◌, ◌==◌, Bool, true, false, ◌||◌, List, [], ◌∷◌, ◌++◌, map, Option, Some, None}
use Rattle.std.proofs.Common.{slice_get, refl, sym, ap, ◌∙◌, subst, if◌then◌else◌}
use Rattle.std.proofs.lemmas.Bool.{eqb-true, eqb-false}
use Rattle.std.proofs.lemmas.List.{map-append}
use Rattle.std.specs.Prelude as prelude
use Rattle.cm_model.specs.Tables.{Tables}
use Rattle.cm_model.specs.declared.ty.Ty.{Ty, out-Ty}
use Rattle.cm_model.specs.declared.ty.Ty.TheOpen.{Ty-F}
use Rattle.cm_model.specs.declared.ty.RecDecl.{RecDecl}
use Rattle.cm_model.specs.declared.pair.Pair.{Pair}
use Rattle.cm_model.specs.declared.body.Call.{Call}
use Rattle.cm_model.specs.declared.body.StateDecl.{StateDecl}
use Rattle.cm_value.specs.declared.value.Value.{Value}
use Rattle.cm_value.specs.Membership.{field_types}
use Rattle.cm_value.specs.Relabelling.{each_relabelled, types_of_fields, types_form, types_in, type_of_payload}
use Rattle.cm_value.specs.Relabelling.{payload_form}
use Rattle.cm_value.proofs.Folds.{fold-elem, fold-int, fold-tag, fold-rec, fold-none, fold-some}
use Rattle.cm_value.proofs.Induction.{Each, value_ind}
use Rattle.cm_eval.specs.declared.log.CellName.{CellName}
use Rattle.cm_eval.specs.State.{Store, look_up}
use Rattle.cm_world.specs.declared.world.World.{World}
use Rattle.cm_world.specs.Order.{touched_cells}
use Rattle.cm_world.specs.Shape as shape
use Rattle.cm_world.specs.Shape.{Mark, Element, Presence, Number, Marked, element_of, fields_marked, record_marked}
use Rattle.cm_world.specs.Shape.{mark_step, marks_of, arguments_marked, cell_marked, cells_marked, marks_of_world}
use Rattle.cm_world.specs.Shape.{appeared, is_among, place_of, seen_with, numbers_from, shape_of}
use Rattle.cm_relation.specs.Relation.{IfBoth, AreAll}
use Rattle.cm_twin.specs.Names.{Naming, Names, name_in, name_form, named, AreTwins, cell_named}
use Rattle.cm_twin.specs.Twins.{AreTwinArguments, AreTwinsAt, IsTwin}
use Rattle.cm_twin.specs.Own.{AreUndone}
use Rattle.cm_twin.specs.Numbered.{mark_named}
use Rattle.cm_twin.proofs.Renamed.{named-elem, named-int, named-tag, named-rec, named-none, named-some}

-- the marks of a value with other names
module _ (t : Tables) (f : Naming) where
  abbrev g : Mark → Mark
  g = mark_named f

  abbrev HasMarks : Value → Type 0
  HasMarks v = (u : Ty) → marks_of t (named t f v (Some u)) u ≡ map g (marks_of t v u)

  abbrev at_ty : Ty → Marked → List Mark
  at_ty u m = m u

  fields_marks : (vs : List Value) (us : List Ty) → Each HasMarks vs
      → fields_marked (map (marks_of t) (each_relabelled (map (named t f) vs) us)) us
      ≡ map g (fields_marked (map (marks_of t) vs) us)
  fields_marks [] us each = refl
  fields_marks (v ∷ vs) [] each = refl
  fields_marks (v ∷ vs) (u ∷ us) each =
      ap (λ l. l ++ fields_marked (map (marks_of t) (each_relabelled (map (named t f) vs) us)) us) (each.0 u)
      ∙ ap (λ l. map g (marks_of t v u) ++ l) (fields_marks vs us each.1)
      ∙ sym (map-append g (marks_of t v u) (fields_marked (map (marks_of t) vs) us))

  elem_marks : (z : Ty-F Ty) (n : ℕ) → element_of z (name_form f z n) ≡ map g (element_of z n)
  elem_marks (Ty-F.Sort s) n = refl
  elem_marks (Ty-F.Int i) n = refl
  elem_marks (Ty-F.Enum e) n = refl
  elem_marks (Ty-F.Rec r) n = refl
  elem_marks (Ty-F.Option u) n = refl

  rec_marks : (vs : List Value) → Each HasMarks vs → (z : Ty-F Ty)
      → shape.fields_of t z (map (marks_of t) (each_relabelled (map (named t f) vs) (types_form t z)))
      ≡ map g (shape.fields_of t z (map (marks_of t) vs))
  rec_marks vs each (Ty-F.Rec r) = by (slice_get t.records r)
    where
      by : (o : Option RecDecl)
          → record_marked o (map (marks_of t) (each_relabelled (map (named t f) vs) (types_in o)))
          ≡ map g (record_marked o (map (marks_of t) vs))
      by (Some d) = fields_marks vs (field_types d) each
      by None = refl
  rec_marks vs each (Ty-F.Sort s) = refl
  rec_marks vs each (Ty-F.Int i) = refl
  rec_marks vs each (Ty-F.Enum e) = refl
  rec_marks vs each (Ty-F.Option u) = refl

  some_marks : (v : Value) → HasMarks v → (z : Ty-F Ty)
      → shape.payload_of z (marks_of t (named t f v (payload_form z))) ≡ map g (shape.payload_of z (marks_of t v))
  some_marks v has (Ty-F.Option u) = has u
  some_marks v has (Ty-F.Sort s) = refl
  some_marks v has (Ty-F.Int i) = refl
  some_marks v has (Ty-F.Enum e) = refl
  some_marks v has (Ty-F.Rec r) = refl

  pub marks_named : (v : Value) → HasMarks v
  marks_named = value_ind HasMarks
      (λ n u. ap (λ v. marks_of t v u) (named-elem t f (Some u) n)
      ∙ ap (at_ty u) (fold-elem (mark_step t) (name_in f (Some u) n)) ∙ elem_marks (out-Ty u) n
      ∙ sym (ap (λ (m : Marked). map g (m u)) (fold-elem (mark_step t) n)))
      (λ n u. ap (λ v. marks_of t v u) (named-int t f (Some u) n) ∙ ap (at_ty u) (fold-int (mark_step t) n)
      ∙ sym (ap (λ (m : Marked). map g (m u)) (fold-int (mark_step t) n)))
      (λ n u. ap (λ v. marks_of t v u) (named-tag t f (Some u) n) ∙ ap (at_ty u) (fold-tag (mark_step t) n)
      ∙ sym (ap (λ (m : Marked). map g (m u)) (fold-tag (mark_step t) n)))
      (λ vs each u. ap (λ v. marks_of t v u) (named-rec t f (Some u) vs)
      ∙ ap (at_ty u) (fold-rec (mark_step t) (each_relabelled (map (named t f) vs) (types_of_fields t (Some u))))
      ∙ rec_marks vs each (out-Ty u)
      ∙ sym (ap (λ (m : Marked). map g (m u)) (fold-rec (mark_step t) vs)))
      (λ u. ap (λ v. marks_of t v u) (named-none t f (Some u)) ∙ ap (at_ty u) (fold-none (mark_step t))
      ∙ sym (ap (λ (m : Marked). map g (m u)) (fold-none (mark_step t))))
      (λ v has u. ap (λ x. marks_of t x u) (named-some t f (Some u) v)
      ∙ ap (at_ty u) (fold-some (mark_step t) (named t f v (type_of_payload (Some u))))
      ∙ ap (λ l. Presence 1 ∷ l) (some_marks v has (out-Ty u))
      ∙ sym (ap (λ (m : Marked). map g (m u)) (fold-some (mark_step t) v)))

module _ (t : Tables) (names : Names) where
  abbrev new_mark : Mark → Mark
  new_mark = mark_named names.there

  twin_marks : (u : Ty) (v w : Value) → AreTwins t names (Some u) v w → marks_of t w u ≡ map new_mark (marks_of t v u)
  twin_marks u v w h = ap (λ x. marks_of t x u) (sym h.0) ∙ marks_named t names.there v u

  all_marks : (us : List Ty) (vs ws : List Value) → AreAll (λ u v w. AreTwins t names (Some u) v w) us vs ws
      → fields_marked (map (marks_of t) ws) us ≡ map new_mark (fields_marked (map (marks_of t) vs) us)
  all_marks [] [] [] h = refl
  all_marks (u ∷ us) (v ∷ vs) (w ∷ ws) h =
      ap (λ l. l ++ fields_marked (map (marks_of t) ws) us) (twin_marks u v w h.0)
      ∙ ap (λ l. map new_mark (marks_of t v u) ++ l) (all_marks us vs ws h.1)
      ∙ sym (map-append new_mark (marks_of t v u) (fields_marked (map (marks_of t) vs) us))
  all_marks [] [] (w ∷ ws) h = absurd h
  all_marks [] (v ∷ vs) ws h = absurd h
  all_marks (u ∷ us) [] ws h = absurd h
  all_marks (u ∷ us) (v ∷ vs) [] h = absurd h

  arguments_marks : (o : Option Call) (vs ws : List Value) → AreTwinArguments t names o vs ws
      → arguments_marked t o ws ≡ map new_mark (arguments_marked t o vs)
  arguments_marks (Some d) vs ws h = all_marks (map (λ p. p.ty) d.params) vs ws h
  arguments_marks None vs ws h = absurd h

  cell_marks : (d : Option StateDecl) (o p : Option Value)
      → IfBoth (AreTwins t names (prelude.option_map (λ (e : StateDecl). e.value) d)) o p
      → cell_marked t d p ≡ map new_mark (cell_marked t d o)
  cell_marks (Some d) (Some v) (Some w) h = twin_marks d.value v w h
  cell_marks (Some d) None None h = refl
  cell_marks (Some d) (Some v) None h = absurd h
  cell_marks (Some d) None (Some w) h = absurd h
  cell_marks None o p h = refl

  cells_marks : (s u : Store) (cs : List CellName) → AreTwinsAt t names s u cs
      → cells_marked t u (map (cell_named t names.there) cs) ≡ map new_mark (cells_marked t s cs)
  cells_marks s u [] h = refl
  cells_marks s u (c ∷ cs) h =
      ap (λ l. l ++ cells_marked t u (map (cell_named t names.there) cs))
      (cell_marks (slice_get t.states c.state) (look_up s c) (look_up u (cell_named t names.there c)) h.0)
      ∙ ap (λ l. map new_mark (cell_marked t (slice_get t.states c.state) (look_up s c)) ++ l) (cells_marks s u cs h.1)
      ∙ sym (map-append new_mark (cell_marked t (slice_get t.states c.state) (look_up s c)) (cells_marked t s cs))

  -- what a twin is made of
  pub world_marks : (p : Pair) (w u : World) → IsTwin t p names w u
      → touched_cells t p u ≡ map (cell_named t names.there) (touched_cells t p w)
      → marks_of_world t p u ≡ map new_mark (marks_of_world t p w)
  world_marks p w u twin touches =
      let a_of : List Mark = arguments_marked t (slice_get t.calls p.a) w.a.vals in
      let b_of : List Mark = arguments_marked t (slice_get t.calls p.b) w.b.vals in
      let c_of : List Mark = cells_marked t w.init (touched_cells t p w) in
      let a = arguments_marks (slice_get t.calls p.a) w.a.vals u.a.vals twin.a in
      let b = arguments_marks (slice_get t.calls p.b) w.b.vals u.b.vals twin.b in
      let c : cells_marked t u.init (touched_cells t p u) ≡ map new_mark c_of =
      ap (cells_marked t u.init) touches ∙ cells_marks w.init u.init (touched_cells t p w) twin.cells in
      ap (λ l. l ++ (arguments_marked t (slice_get t.calls p.b) u.b.vals
      ++ cells_marked t u.init (touched_cells t p u))) a
      ∙ ap (λ l. map new_mark a_of ++ (l ++ cells_marked t u.init (touched_cells t p u))) b
      ∙ ap (λ l. map new_mark a_of ++ (map new_mark b_of ++ l)) c
      ∙ ap (λ l. map new_mark a_of ++ l) (sym (map-append new_mark b_of c_of))
      ∙ sym (map-append new_mark a_of (b_of ++ c_of))

-- names that are one to one keep the numbers
module _ (names : Names) where
  abbrev IsUndone : ℕ → ℕ → Type 0
  IsUndone s n = names.back s (names.there s n) ≡ n

  abbrev AllUndone : ℕ → List ℕ → Type 0
  AllUndone s [] = Unit {0}
  AllUndone s (n ∷ ns) = IsUndone s n × AllUndone s ns

  same_names : (s m n : ℕ) → IsUndone s m → IsUndone s n → (names.there s m == names.there s n) ≡ (m == n)
  same_names s m n h g = by (m == n) refl (names.there s m == names.there s n) refl
    where
      by : (b : Bool) → (m == n) ≡ b → (c : Bool) → (names.there s m == names.there s n) ≡ c → c ≡ b
      by true e true f = refl
      by true e false f = absurd (eqb-false (names.there s m) (names.there s n) f (ap (names.there s) (eqb-true m n e)))
      by false e true f =
          absurd (eqb-false m n e
          (sym h ∙ ap (names.back s) (eqb-true (names.there s m) (names.there s n) f) ∙ g))
      by false e false f = refl

  place_kept : (s n : ℕ) (seen : List ℕ) → IsUndone s n → AllUndone s seen
      → place_of (names.there s n) (map (names.there s) seen) ≡ place_of n seen
  place_kept s n [] h all = refl
  place_kept s n (m ∷ seen) h all =
      ap (λ b. if b then 0 else 1 + place_of (names.there s n) (map (names.there s) seen)) (same_names s m n all.0 h)
      ∙ ap (λ k. if m == n then 0 else 1 + k) (place_kept s n seen h all.1)

  among_kept : (s n : ℕ) (seen : List ℕ) → IsUndone s n → AllUndone s seen
      → is_among (names.there s n) (map (names.there s) seen) ≡ is_among n seen
  among_kept s n [] h all = refl
  among_kept s n (m ∷ seen) h all =
      ap (λ b. b || is_among (names.there s n) (map (names.there s) seen)) (same_names s m n all.0 h)
      ∙ ap (λ b. (m == n) || b) (among_kept s n seen h all.1)

  abbrev to : Mark → Mark
  to = mark_named names.there

  appeared_named : (s : ℕ) (seen : List Mark) → appeared s (map to seen) ≡ map (names.there s) (appeared s seen)
  appeared_named s [] = refl
  appeared_named s (Element r n ∷ seen) =
      ap (λ l. if r == s then names.there r n ∷ l else l) (appeared_named s seen) ∙ by (r == s) refl
    where
      by : (b : Bool) → (r == s) ≡ b
          → (if b then names.there r n ∷ map (names.there s) (appeared s seen)
          else map (names.there s) (appeared s seen))
          ≡ map (names.there s) (if b then n ∷ appeared s seen else appeared s seen)
      by true e = ap (λ x. names.there x n ∷ map (names.there s) (appeared s seen)) (eqb-true r s e)
      by false e = refl
  appeared_named s (Presence d ∷ seen) = appeared_named s seen
  appeared_named s (Number n ∷ seen) = appeared_named s seen

  appeared_undone : (s : ℕ) (seen : List Mark) → AreUndone names seen → AllUndone s (appeared s seen)
  appeared_undone s [] h = tt
  appeared_undone s (Element r n ∷ seen) h = by (r == s) refl (appeared_undone s seen h.1)
    where
      by : (b : Bool) → (r == s) ≡ b → AllUndone s (appeared s seen)
          → AllUndone s (if b then n ∷ appeared s seen else appeared s seen)
      by true e more = (subst (λ x. IsUndone x n) (eqb-true r s e) h.0, more)
      by false e more = more
  appeared_undone s (Presence d ∷ seen) h = appeared_undone s seen h
  appeared_undone s (Number n ∷ seen) h = appeared_undone s seen h

  undone_more : (seen : List Mark) (s n : ℕ) → AreUndone names seen → IsUndone s n
      → AreUndone names (seen ++ Element s n ∷ [])
  undone_more [] s n h is = (is, tt)
  undone_more (Element r m ∷ seen) s n h is = (h.0, undone_more seen s n h.1 is)
  undone_more (Presence d ∷ seen) s n h is = undone_more seen s n h is
  undone_more (Number m ∷ seen) s n h is = undone_more seen s n h is

  seen_undone : (seen : List Mark) (s n : ℕ) → AreUndone names seen → IsUndone s n
      → AreUndone names (seen_with s n seen)
  seen_undone seen s n h is = by (is_among n (appeared s seen))
    where
      by : (b : Bool) → AreUndone names (if b then seen else seen ++ Element s n ∷ [])
      by true = h
      by false = undone_more seen s n h is

  seen_kept : (seen : List Mark) (s n : ℕ) → AreUndone names seen → IsUndone s n
      → seen_with s (names.there s n) (map to seen) ≡ map to (seen_with s n seen)
  seen_kept seen s n h is =
      ap (λ l. if is_among (names.there s n) l then map to seen else map to seen ++ Element s (names.there s n) ∷ [])
      (appeared_named s seen)
      ∙ ap (λ b. if b then map to seen else map to seen ++ Element s (names.there s n) ∷ [])
      (among_kept s n (appeared s seen) is (appeared_undone s seen h))
      ∙ by (is_among n (appeared s seen))
    where
      by : (b : Bool) → (if b then map to seen else map to seen ++ Element s (names.there s n) ∷ [])
          ≡ map to (if b then seen else seen ++ Element s n ∷ [])
      by true = refl
      by false = sym (map-append to seen (Element s n ∷ []))

  numbers_kept : (ms seen : List Mark) → AreUndone names ms → AreUndone names seen
      → numbers_from (map to seen) (map to ms) ≡ numbers_from seen ms
  numbers_kept [] seen h g = refl
  numbers_kept (Element s n ∷ ms) seen h g =
      ap (λ l. place_of (names.there s n) l
      ∷ numbers_from (seen_with s (names.there s n) (map to seen)) (map to ms)) (appeared_named s seen)
      ∙ ap (λ k. k ∷ numbers_from (seen_with s (names.there s n) (map to seen)) (map to ms))
      (place_kept s n (appeared s seen) h.0 (appeared_undone s seen g))
      ∙ ap (λ l. place_of n (appeared s seen) ∷ numbers_from l (map to ms)) (seen_kept seen s n g h.0)
      ∙ ap (λ l. place_of n (appeared s seen) ∷ l)
      (numbers_kept ms (seen_with s n seen) h.1 (seen_undone seen s n g h.0))
  numbers_kept (Presence d ∷ ms) seen h g = ap (λ l. d ∷ l) (numbers_kept ms seen h g)
  numbers_kept (Number n ∷ ms) seen h g = numbers_kept ms seen h g

-- a twin has the same shape
pub same_shape : (t : Tables) (names : Names) (p : Pair) (w u : World) → AreUndone names (marks_of_world t p w)
    → IsTwin t p names w u → touched_cells t p u ≡ map (cell_named t names.there) (touched_cells t p w)
    → shape_of t p u ≡ shape_of t p w
same_shape t names p w u undone twin touches =
    ap (numbers_from []) (world_marks t names p w u twin touches)
    ∙ numbers_kept names (marks_of_world t p w) [] undone tt
