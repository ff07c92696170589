-- An expression in which no rule fails has the kind that tables give it.
use Rattle.std.proofs.Common.{◌≡◌, ℕ, ◌≤◌, ◌<◌, ◌&&◌, ◌||◌, ltb, leb, ℤ, pos, neg_ℤ, Bool, true, false, List, [], ◌∷◌}
use Rattle.std.proofs.Common.{map, length, slice_get, Option, Some, None, refl, sym, ap, ◌∙◌, subst, arith}
use Rattle.std.proofs.lemmas.Bool.{and_parts, and_from, le-leb, lt-ltb}
use Rattle.std.specs.Prelude.{option_map}
use Rattle.std.proofs.lemmas.Option.{slice_get_within}
use Rattle.std.specs.List.{list_all}
use Rattle.cm_model.specs.Limits.{is_number}
use Rattle.cm_model.specs.Tables.{Tables}
use Rattle.cm_model.specs.Kinds as kinds
use Rattle.cm_model.specs.declared.place.Place.{Place}
use Rattle.cm_model.specs.declared.ty.Ty.{Ty}
use Rattle.cm_model.specs.declared.ty.Ty.TheVariants as ty
use Rattle.cm_model.specs.declared.ty.EnumDecl.{EnumDecl}
use Rattle.cm_model.specs.declared.body.StateDecl.{StateDecl}
use Rattle.cm_model.specs.declared.body.Op.TheVariants as op
use Rattle.cm_model.specs.declared.body.Expr.{Expr as Made}
use Rattle.cm_model.specs.declared.body.Expr.TheVariants as expr
use Rattle.cm_model.specs.declared.body.Expr.TheOpen.{Expr-F}
use Rattle.cm_syntax.specs.declared.tree.Relation.{Relation}
use Rattle.cm_syntax.specs.declared.tree.Relation.TheVariants as relation
use Rattle.cm_syntax.specs.declared.tree.Expr.{Expr}
use Rattle.cm_syntax.specs.declared.tree.Cmp.TheOpen as layer
use Rattle.cm_typing.specs.declared.flat.Flat.{Flat}
use Rattle.cm_typing.specs.declared.flat.Kind.{Kind}
use Rattle.cm_typing.specs.declared.flat.Kind.TheVariants as kind
use Rattle.cm_typing.specs.declared.names.Entry.{Entry}
use Rattle.cm_typing.specs.declared.names.Entry.TheVariants as entry
use Rattle.cm_typing.specs.declared.scope.Scope.{Scope}
use Rattle.cm_typing.specs.declared.told.Typed.{Typed}
use Rattle.cm_typing.specs.declared.told.FoundMap.{FoundMap}
use Rattle.cm_typing.specs.Told.{rule}
use Rattle.cm_typing.specs.Names.{Names, look, it_name}
use Rattle.cm_typing.specs.Rules as rules
use Rattle.cm_typing.specs.Types.{type_told}
use Rattle.cm_typing.specs.Flats.{same_flat, enum_flat, kind_of, value_of, is_value, is_bool, is_integer}
use Rattle.cm_typing.specs.Flats.{is_integer_flat, are_equal_kinds, wanted, option_flat, option_of, ty_of, ty_of_flat}
use Rattle.cm_typing.specs.Expressions.{named, number_in, truth, it_told, value_named, map_named, map_told}
use Rattle.cm_typing.specs.Expressions.{as_condition, operands_told, at_path, no_path, path_told, shift_told, op_of}
use Rattle.cm_typing.specs.Expressions.{compared, prim_step, post_step, unary_step, sum_step, cmp_step, expr_step}
use Rattle.cm_typing.specs.Expressions.{expr_told}
use Rattle.cm_types.proofs.Items.{no_more, holds, length_map}
use Rattle.cm_types.proofs.ModelForms as forms
use Rattle.cm_types.proofs.Deepening.{same_deep, integer_deep}
use Rattle.cm_types.proofs.Measured.{IsFlat, enum_fits}
use Rattle.cm_types.proofs.Standing.{types_in, Fits, FitsEntry, ScopeFits, looked, named_fits}
use Rattle.cm_types.proofs.TypedParts.{BoolFirst, kind_in, kind_at, IsTyped, value_is, integer_is, bool_is, wanted_is}
use Rattle.cm_types.proofs.TypedParts.{option_is, bool_typed, type_sound}
use Rattle.cm_types.proofs.TypedArguments.{Sound, bare, operands_sound, apply_sound}
use Rattle.cm_types.proofs.TypedFields.{fields_typed}
use Rattle.cm_types.proofs.TypedSets.{with_typed}
use Rattle.cm_types.proofs.ExprRules.{Held, HeldSet, bare_cmp, bare_expr, bare_prim, bare_sum, bare_unary, bare_post}
use Rattle.cm_types.proofs.ExprRules.{expr_keeps}

-- Sides of a comparison

module _ (t : Tables) (m b : ℕ) (l : Names) where
  abbrev Kinds : Type 0
  Kinds = Option kinds.Kind

  same_values : (f g : Flat) → same_flat f g ≡ true
      → kinds.are_comparable op.Eq (Some (kinds.Of (ty_of_flat f))) (Some (kinds.Of (ty_of_flat g))) ≡ true
  same_values f g h = ends (kinds.is_integer (Some (kinds.Of (ty_of_flat f))) && kinds.is_integer
      (Some (kinds.Of (ty_of_flat g)))) (same_deep f g ∙ h)
    where
      ends : (c : Bool) → kinds.same_type (Some (ty_of_flat f)) (Some (ty_of_flat g)) ≡ true
          → (c || kinds.same_type (Some (ty_of_flat f)) (Some (ty_of_flat g))) ≡ true
      ends true e = refl
      ends false e = e

  two_integers : (j k : Kinds) → kinds.is_integer j ≡ true → kinds.is_integer k ≡ true
      → kinds.are_comparable op.Eq j k ≡ true
  two_integers j k p q =
      ap (λ c. (c && kinds.is_integer k) || kinds.same_type (kinds.type_of j) (kinds.type_of k)) p
      ∙ ap (λ c. c || kinds.same_type (kinds.type_of j) (kinds.type_of k)) q

  equal_kinds : (j k : Kind) → are_equal_kinds (Some j) (Some k) ≡ true
      → kinds.are_comparable op.Eq (Some (kind_in j)) (Some (kind_in k)) ≡ true
  equal_kinds kind.Number kind.Number h = refl
  equal_kinds kind.Number (kind.Of g) h = two_integers (Some kinds.Number) (Some (kinds.Of (ty_of_flat g))) refl
      (integer_deep g ∙ h)
  equal_kinds (kind.Of f) kind.Number h = two_integers (Some (kinds.Of (ty_of_flat f))) (Some kinds.Number)
      (integer_deep f ∙ h) refl
  equal_kinds (kind.Of f) (kind.Of g) h = by (same_flat f g) refl h
    where
      by : (c : Bool) → same_flat f g ≡ c → (c || (is_integer_flat f && is_integer_flat g)) ≡ true
          → kinds.are_comparable op.Eq (Some (kinds.Of (ty_of_flat f))) (Some (kinds.Of (ty_of_flat g))) ≡ true
      by true e h = same_values f g e
      by false e h =
          let p = and_parts (is_integer_flat f) (is_integer_flat g) h in
          two_integers (Some (kinds.Of (ty_of_flat f))) (Some (kinds.Of (ty_of_flat g))) (integer_deep f ∙ p.0)
          (integer_deep g ∙ p.1)

  equal_sound : (v w : Typed) → IsTyped t m b l v → IsTyped t m b l w → are_equal_kinds v.kind w.kind ≡ true
      → kinds.are_comparable op.Eq (kind_at t m b l v.expr) (kind_at t m b l w.expr) ≡ true
  equal_sound v w x y h =
      ap (λ k. kinds.are_comparable op.Eq k (kind_at t m b l w.expr)) x.3
      ∙ ap (kinds.are_comparable op.Eq (Some (kind_in x.0))) y.3
      ∙ equal_kinds x.0 y.0 (sym (ap (λ k. are_equal_kinds k w.kind) x.1 ∙ ap (are_equal_kinds (Some x.0)) y.1) ∙ h)

  ordered_sound : (v w : Typed) → IsTyped t m b l v → IsTyped t m b l w → (is_integer v.kind && is_integer w.kind)
      ≡ true
      → (kinds.is_integer (kind_at t m b l v.expr) && kinds.is_integer (kind_at t m b l w.expr)) ≡ true
  ordered_sound v w x y h =
      let p = and_parts (is_integer v.kind) (is_integer w.kind) h in
      and_from _ _ (integer_is t m b l v x p.0) (integer_is t m b l w y p.1)

  compared_sound : (r : Relation) (at : Place) (v w : Typed) → IsTyped t m b l v → IsTyped t m b l w
      → (compared r v.kind w.kind at).1 ≡ []
      → kinds.are_comparable (op_of r) (kind_at t m b l v.expr) (kind_at t m b l w.expr) ≡ true
  compared_sound relation.Equal at v w x y h = equal_sound v w x y
      (holds (are_equal_kinds v.kind w.kind) rules.sides at h)
  compared_sound relation.NotEqual at v w x y h = equal_sound v w x y
      (holds (are_equal_kinds v.kind w.kind) rules.sides at h)
  compared_sound relation.Less at v w x y h = ordered_sound v w x y
      (holds (is_integer v.kind && is_integer w.kind) rules.order at h)
  compared_sound relation.AtMost at v w x y h = ordered_sound v w x y
      (holds (is_integer v.kind && is_integer w.kind) rules.order at h)
  compared_sound relation.Greater at v w x y h = ordered_sound v w x y
      (holds (is_integer v.kind && is_integer w.kind) rules.order at h)
  compared_sound relation.AtLeast at v w x y h = ordered_sound v w x y
      (holds (is_integer v.kind && is_integer w.kind) rules.order at h)

-- Names

module _ (t : Tables) (m b : ℕ) (has_bool : BoolFirst t) where
  abbrev step : Names → Expr-F (Option kinds.Kind) kinds.Set → Option kinds.Kind
  step l = kinds.kind_step (kinds.scope t b (types_in l))

  value_sound : (at : Place) (l : Names) (e : Entry) → FitsEntry t m b (types_in l) e → (value_named at (Some e)).1 ≡ []
      → IsTyped t m b l (value_named at (Some e)).0
  value_sound at l (entry.Local i o) g h =
      (kind.Of g.0, ap kind_of g.1, g.2, forms.of_Local (step l) kinds.set_step i ∙ ap (option_map kinds.Of) g.3)
  value_sound at l (entry.Variant e i) g h = (
    kind.Of (enum_flat e),
    refl,
    enum_fits t m e (lt-ltb e (length t.enums) (slice_get_within t.enums e g.0 g.1)),
    forms.of_Tag (step l) kinds.set_step e i
        ∙ ap (λ o. kinds.given o (λ (d : EnumDecl). kinds.if_so (ltb i (length d.variants)) (kinds.Of (ty.Enum e)))) g.1
        ∙ ap (λ c. kinds.if_so c (kinds.Of (ty.Enum e))) g.2,
  )
  value_sound at l (entry.Cell c o) g h = (
    kind.Of g.0,
    ap kind_of g.2,
    g.3,
    forms.of_Cell (step l) kinds.set_step c
        ∙ ap (λ x. kinds.given x (λ (d : StateDecl). kinds.if_so (kinds.is_key d.key None) (kinds.Of d.value))) g.4
        ∙ ap (λ k. kinds.if_so (kinds.is_key k None) (kinds.Of g.1.value)) g.5 ∙ ap (λ u. Some (kinds.Of u)) g.6,
  )
  value_sound at l (entry.Sort n) g h = absurd cc
  value_sound at l (entry.Int n) g h = absurd cc
  value_sound at l (entry.Enum n) g h = absurd cc
  value_sound at l (entry.Record r o os) g h = absurd cc
  value_sound at l (entry.Map c k o) g h = absurd cc
  value_sound at l (entry.Function k os o) g h = absurd cc
  value_sound at l entry.Unusable g h = absurd cc
  value_sound at l (entry.Field i o) g h = absurd cc

  abbrev pub IsMap : FoundMap → Type 0
  IsMap x =
      (g : Flat) × (f : Flat) × (d : StateDecl) × (x.key ≡ Some g) × (x.value ≡ Some f) × IsFlat t m f
      × (slice_get t.states x.state ≡ Some d) × (d.key ≡ Some (ty_of_flat g)) × (d.value ≡ ty_of_flat f)

  map_entry_sound : (at : Place) (ts : List Ty) (e : Entry) → FitsEntry t m b ts e → (map_named at (Some e)).1 ≡ []
      → IsMap (map_named at (Some e)).0
  map_entry_sound at ts (entry.Map c k o) g h = g
  map_entry_sound at ts (entry.Sort n) g h = absurd cc
  map_entry_sound at ts (entry.Int n) g h = absurd cc
  map_entry_sound at ts (entry.Enum n) g h = absurd cc
  map_entry_sound at ts (entry.Variant e i) g h = absurd cc
  map_entry_sound at ts (entry.Record r o os) g h = absurd cc
  map_entry_sound at ts (entry.Cell c o) g h = absurd cc
  map_entry_sound at ts (entry.Function k os o) g h = absurd cc
  map_entry_sound at ts entry.Unusable g h = absurd cc
  map_entry_sound at ts (entry.Local i o) g h = absurd cc
  map_entry_sound at ts (entry.Field i o) g h = absurd cc

  -- a map's name
  pub map_sound : (at : Place) (n : List ℕ) (s : Scope) (l : Names) → ScopeFits t m b s → Fits t m b (types_in l) l
      → (map_told at n s l).1 ≡ [] → IsMap (map_told at n s l).0
  map_sound at n s l f g h =
      let p = no_more (named at n s l).1 _ h in
      let x = named_fits t m b at n s l f g p.0 in
      subst (λ o. (map_named at o).1 ≡ [] → IsMap (map_named at o).0) (sym x.1)
      (map_entry_sound at (types_in l) x.0 x.2) p.1

  module _ (few : m ≤ length t.records) where
    abbrev H : Type 0
    H = Held (Sound t m b)

    abbrev HS : Type 0
    HS = HeldSet (Sound t m b)

    truth_sound : (at : Place) (l : Names) (i : ℕ) → i < 2 → IsTyped t m b l (truth at i)
    truth_sound at l i lt =
        bool_typed t m b has_bool l at (expr.Tag 0 i)
        (forms.of_Tag (step l) kinds.set_step 0 i
        ∙ ap (λ o. kinds.given o (λ (d : EnumDecl). kinds.if_so (ltb i (length d.variants)) (kinds.Of (ty.Enum 0))))
        has_bool.1
        ∙ ap (λ n. kinds.if_so (ltb i n) (kinds.Of (ty.Enum 0))) has_bool.2
        ∙ ap (λ c. kinds.if_so c (kinds.Of (ty.Enum 0))) (lt-ltb i 2 lt))

    it_sound : (at : Place) (l : Names) → Fits t m b (types_in l) l → (o : Option Entry) → look it_name l ≡ o
        → (it_told at o).1 ≡ []
        → IsTyped t m b l (it_told at o).0
    it_sound at l g None e h = absurd cc
    it_sound at l g (Some x) e h = by x (looked (FitsEntry t m b (types_in l)) it_name l g x e) h
      where
        by : (x : Entry) → FitsEntry t m b (types_in l) x → (it_told at (Some x)).1 ≡ [] → IsTyped t m b l
            (it_told at (Some x)).0
        by (entry.Local i o) k h =
            (kind.Of k.0, ap kind_of k.1, k.2, forms.of_Local (step l) kinds.set_step i ∙ ap (option_map kinds.Of) k.3)
        by (entry.Sort n) k h = absurd cc
        by (entry.Int n) k h = absurd cc
        by (entry.Enum n) k h = absurd cc
        by (entry.Variant e i) k h = absurd cc
        by (entry.Record r o os) k h = absurd cc
        by (entry.Cell c o) k h = absurd cc
        by (entry.Map c q o) k h = absurd cc
        by (entry.Function i os o) k h = absurd cc
        by entry.Unusable k h = absurd cc
        by (entry.Field i o) k h = absurd cc

    prim_sound : (y : layer.Primary-F H H H H H H HS) → Sound t m b (prim_step (bare_prim (Sound t m b) y))
    prim_sound (layer.Number at n) s l f g h =
        let z = number_in n in
        let p = no_more (rule (is_number z) rules.numbers at).1 [] h in (
          kind.Number,
          refl,
          tt,
          forms.of_Num (step l) kinds.set_step z
              ∙ ap (λ c. kinds.if_so c kinds.Number) (holds (is_number z) rules.numbers at p.0),
        )
    prim_sound (layer.True at) s l f g h = truth_sound at l 1 (omega arith)
    prim_sound (layer.False at) s l f g h = truth_sound at l 0 (omega arith)
    prim_sound (layer.It at) s l f g h = it_sound at l g (look it_name l) refl h
    prim_sound (layer.Name at n) s l f g h =
        let p = no_more (named at n s l).1 _ h in
        let x = named_fits t m b at n s l f g p.0 in
        subst (λ o. (value_named at o).1 ≡ [] → IsTyped t m b l (value_named at o).0) (sym x.1)
        (value_sound at l x.0 x.2) p.1
    prim_sound (layer.Entry at n k) s l f g h =
        let w = (map_told at n s l).0 in
        let v = (k.0 s l).0 in
        let p = no_more (map_told at n s l).1 _ h in
        let q = no_more (k.0 s l).1 _ p.1 in
        let r = no_more (wanted w.key v.at v.kind).1 [] q.1 in
        let x = map_sound at n s l f g p.0 in
        let so = wanted_is t m b l w.key v.at v x.0 x.3 (k.1 s l f g q.0) r.0 in (
          kind.Of x.1,
          ap kind_of x.4,
          x.5,
          forms.of_Entry (step l) kinds.set_step w.state v.expr
              ∙ ap (λ o. kinds.given o (λ (d : StateDecl). kinds.if_so
              (kinds.is_key d.key (Some (kind_at t m b l v.expr))) (kinds.Of d.value))) x.6
              ∙ ap (λ o. kinds.if_so (kinds.is_key o (Some (kind_at t m b l v.expr))) (kinds.Of x.2.value)) x.7
              ∙ ap (λ c. kinds.if_so c (kinds.Of x.2.value)) so
              ∙ ap (λ u. Some (kinds.Of u)) x.8,
        )
    prim_sound (layer.Apply at n ms) s l f g h =
        let e = named at n s l in
        let p = no_more e.1 _ h in
        let x = named_fits t m b at n s l f g p.0 in
        apply_sound t m b s l f g at e.0 e.1 x.0 ms x.1 x.2 h
    prim_sound (layer.NoneOf at ty) s l f g h =
        let o = (type_told ty s.names).0 in
        let p = no_more (type_told ty s.names).1 _ h in
        let q = no_more (option_of at o).1 [] p.1 in
        let x = type_sound t m b has_bool few ty s.names f.names p.0 in
        let y = option_is t m b few at o x.0 x.1 x.2 q.0 in (
          kind.Of (option_flat x.0),
          ap kind_of y.0,
          y.1,
          forms.of_NoneOf (step l) kinds.set_step (ty_of o) ∙ ap (λ z. kinds.option_kind t (ty_of z)) x.1 ∙ y.2,
        )
    prim_sound (layer.SomeOf at k) s l f g h =
        let v = (k.0 s l).0 in
        let p = no_more (k.0 s l).1 _ h in
        let q = no_more (rule (is_value v.kind) rules.number v.at).1 _ p.1 in
        let r = no_more (option_of at (value_of v.kind)).1 [] q.1 in
        let x = value_is t m b l v (k.1 s l f g p.0) (holds (is_value v.kind) rules.number v.at q.0) in
        let y = option_is t m b few at (value_of v.kind) x.0 (ap value_of x.1) x.2 r.0 in (
          kind.Of (option_flat x.0),
          ap kind_of y.0,
          y.1,
          forms.of_SomeOf (step l) kinds.set_step v.expr
              ∙ ap (λ o. kinds.given (kinds.type_of o) (kinds.option_kind t)) x.3 ∙ y.2,
        )
    prim_sound (layer.Group at k) s l f g h = k.1 s l f g (no_more (k.0 s l).1 [] h).0

    post_sound : (y : layer.Post-F H H H H H H HS) → Sound t m b (post_step (bare_post (Sound t m b) y))
    post_sound y s l f g h =
        let v = (y.prim.0 s l).0 in
        let p = no_more (y.prim.0 s l).1 _ h in
        let q = no_more (path_told y.at (no_path v.kind) y.fields s).1 _ p.1 in
        let x = fields_typed t m b y.at s l f.records v (y.prim.1 s l f g p.0) y.fields q.0 in
        with_typed t m b s l f g (at_path v (path_told y.at (no_path v.kind) y.fields s).0) x y.sets q.1

    unary_sound : (y : layer.Unary-F H H H H H H HS) → Sound t m b (unary_step (bare_unary (Sound t m b) y))
    unary_sound (layer.Bare at k) s l f g h = k.1 s l f g h
    unary_sound (layer.Not at k) s l f g h =
        let v = (k.0 s l).0 in
        let p = no_more (k.0 s l).1 _ h in
        let q = no_more (as_condition v).1 [] p.1 in
        let r = no_more (rule (is_bool v.kind) rules.condition v.at).1 [] q.0 in
        let so = bool_is t m b l v (k.1 s l f g p.0) (holds (is_bool v.kind) rules.condition v.at r.0) in
        bool_typed t m b has_bool l at (expr.Not v.expr)
        (forms.of_Not (step l) kinds.set_step v.expr ∙ ap (λ c. kinds.if_so c (kinds.Of kinds.bool_ty)) so)

    shift_sound : (at : Place) (k : H) (z : ℤ) → Sound t m b (shift_told at k.0 z)
    shift_sound at k z s l f g h =
        let v = (k.0 s l).0 in
        let p = no_more (k.0 s l).1 _ h in
        let q = no_more (rule (is_integer v.kind) rules.integer v.at).1 _ p.1 in
        let r = no_more (rule (is_number z) rules.numbers at).1 [] q.1 in
        let so = integer_is t m b l v (k.1 s l f g p.0) (holds (is_integer v.kind) rules.integer v.at q.0) in (
          kind.Number,
          refl,
          tt,
          forms.of_Shift (step l) kinds.set_step v.expr z
              ∙ ap (λ c. kinds.if_so c kinds.Number) (and_from (kinds.is_integer (kind_at t m b l v.expr))
              (is_number z) so (holds (is_number z) rules.numbers at r.0)),
        )

    sum_sound : (y : layer.Sum-F H H H H H H HS) → Sound t m b (sum_step (bare_sum (Sound t m b) y))
    sum_sound (layer.Term at k) s l f g h = k.1 s l f g h
    sum_sound (layer.Plus at k n) s l f g h = shift_sound at k (pos n) s l f g h
    sum_sound (layer.Minus at k n) s l f g h = shift_sound at k (neg_ℤ (pos n)) s l f g h

    cmp_sound : (y : layer.Cmp-F H H H H H H HS) → Sound t m b (cmp_step (bare_cmp (Sound t m b) y))
    cmp_sound (layer.Side at k) s l f g h = k.1 s l f g h
    cmp_sound (layer.Compared at k r n) s l f g h =
        let v = (k.0 s l).0 in
        let w = (n.0 s l).0 in
        let p = no_more (k.0 s l).1 _ h in
        let q = no_more (n.0 s l).1 _ p.1 in
        let o = no_more (compared r v.kind w.kind at).1 [] q.1 in
        let so = compared_sound t m b l r at v w (k.1 s l f g p.0) (n.1 s l f g q.0) o.0 in
        bool_typed t m b has_bool l at (expr.Compare (op_of r) v.expr w.expr)
        (forms.of_Compare (step l) kinds.set_step (op_of r) v.expr w.expr
        ∙ ap (λ c. kinds.if_so c (kinds.Of kinds.bool_ty)) so)

    abbrev joined : Names → List Made → Option kinds.Kind
    joined l es = kinds.if_so (leb 2 (length (map (kind_at t m b l) es)) && list_all kinds.is_bool
        (map (kind_at t m b l) es)) (kinds.Of kinds.bool_ty)

    all_bool : (s : Scope) (l : Names) → ScopeFits t m b s → Fits t m b (types_in l) l → (k n : H) (ms : List H)
        → (operands_told [] (bare t m b (k ∷ n ∷ ms)) s l).1 ≡ []
        → joined l (operands_told [] (bare t m b (k ∷ n ∷ ms)) s l).0 ≡ Some (kinds.Of kinds.bool_ty)
    all_bool s l f g k n ms h =
        let x = operands_sound t m b s l f g (k ∷ n ∷ ms) [] h in
        let many : leb 2 (length (map (kind_at t m b l) x.0)) ≡ true =
        le-leb 2 (length (map (kind_at t m b l) x.0)) (omega (arith, x.2, length_map (kind_at t m b l) x.0)) in
        ap (joined l) x.1 ∙ ap (λ c. kinds.if_so c (kinds.Of kinds.bool_ty))
        (and_from (leb 2 (length (map (kind_at t m b l) x.0))) (list_all kinds.is_bool
        (map (kind_at t m b l) x.0)) many x.3)

    expr_step_sound : (y : layer.Expr-F H H H H H H HS) → Sound t m b (expr_step (bare_expr (Sound t m b) y))
    expr_step_sound (layer.Single at k) s l f g h = k.1 s l f g h
    expr_step_sound (layer.All at k n ms) s l f g h =
        let es = (operands_told [] (bare t m b (k ∷ n ∷ ms)) s l).0 in
        let p = no_more (operands_told [] (bare t m b (k ∷ n ∷ ms)) s l).1 [] h in
        bool_typed t m b has_bool l at (expr.All es) (forms.of_All (step l) kinds.set_step es
        ∙ all_bool s l f g k n ms p.0)
    expr_step_sound (layer.Any at k n ms) s l f g h =
        let es = (operands_told [] (bare t m b (k ∷ n ∷ ms)) s l).0 in
        let p = no_more (operands_told [] (bare t m b (k ∷ n ∷ ms)) s l).1 [] h in
        bool_typed t m b has_bool l at (expr.Any es) (forms.of_Any (step l) kinds.set_step es
        ∙ all_bool s l f g k n ms p.0)

    -- AN EXPRESSION IN WHICH NO RULE FAILS IS TYPED.
    pub expr_sound : (e : Expr) → Sound t m b (expr_told e)
    expr_sound = expr_keeps (Sound t m b) (record {
      cmps = cmp_sound;
      exprs = expr_step_sound;
      prims = prim_sound;
      sums = sum_sound;
      unarys = unary_sound;
      posts = post_sound;
      sets = λ y. y.value.1;
    })
