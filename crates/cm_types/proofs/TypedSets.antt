-- Sets of fields, where no rule fails.
use Rattle.std.proofs.Common.{◌≡◌, ℕ, suc, ◌≤◌, ◌<◌, ◌==◌, ◌&&◌, ◌||◌, ltb, not, Bool, true, false, List, [], ◌∷◌, ◌++◌}
use Rattle.std.proofs.Common.{map, length, Option, Some, None, refl, sym, ap, ◌∙◌, subst, arith, if◌then◌else◌, inl}
use Rattle.std.proofs.Common.{inr}
use Rattle.std.proofs.lemmas.Bool.{and_parts, and_from, lt-ltb, ltb-true}
use Rattle.std.proofs.lemmas.Bool.Decides.{eqb_tells}
use Rattle.std.proofs.lemmas.List.{length-append}
use Rattle.cm_model.specs.Tables.{Tables}
use Rattle.cm_model.specs.Limits.{width_limit}
use Rattle.cm_model.specs.Kinds as kinds
use Rattle.cm_model.specs.declared.ty.Ty.{Ty}
use Rattle.cm_model.specs.declared.body.Expr.TheVariants as expr
use Rattle.cm_model.specs.declared.body.SetField.{SetField, roll-SetField}
use Rattle.cm_typing.specs.declared.flat.Flat.{Flat}
use Rattle.cm_typing.specs.declared.flat.Kind.{Kind}
use Rattle.cm_typing.specs.declared.flat.Kind.TheVariants as kind
use Rattle.cm_typing.specs.declared.scope.Scope.{Scope}
use Rattle.cm_typing.specs.declared.told.Typed.{Typed}
use Rattle.cm_typing.specs.declared.told.Sets.{Sets}
use Rattle.cm_typing.specs.Told.{rule}
use Rattle.cm_typing.specs.Names.{Names}
use Rattle.cm_typing.specs.Rules as rules
use Rattle.cm_typing.specs.Flats.{wanted, ty_of_flat}
use Rattle.cm_typing.specs.Expressions.{SetMeaning, typed, fields_of, field_of, is_among, is_new, set_field, set_value}
use Rattle.cm_typing.specs.Expressions.{next_set_told, sets_told, no_sets, is_record_base, record_kind, with_told}
use Rattle.cm_types.proofs.Items.{no_more, holds, not_true, or_false, nat_sym, map_more, length_map}
use Rattle.cm_types.proofs.ModelForms as forms
use Rattle.cm_types.proofs.Measured.{IsFlat}
use Rattle.cm_types.proofs.Standing.{types_in, Fits, ScopeFits}
use Rattle.cm_types.proofs.TypedParts.{IsKind, kind_in, kind_at, IsTyped, wanted_is}
use Rattle.cm_types.proofs.TypedArguments.{Sound}
use Rattle.cm_types.proofs.TypedFields.{field_is, fields_found}
use Rattle.cm_types.proofs.ExprRules.{HeldSet}

named_more : (i : ℕ) (ks : List kinds.Set) (x : kinds.Set) → not (kinds.is_named i ks) ≡ true → (x.0 == i) ≡ false
    → not (kinds.is_named i (ks ++ x ∷ [])) ≡ true
named_more i [] x h e = ap (λ c. not (c || false)) e
named_more i (k ∷ ks) x h e = step (k.0 == i) h (λ r. named_more i ks x r e)
  where
    step : (c : Bool) → not (c || kinds.is_named i ks) ≡ true
        → (not (kinds.is_named i ks) ≡ true → not (kinds.is_named i (ks ++ x ∷ [])) ≡ true)
        → not (c || kinds.is_named i (ks ++ x ∷ [])) ≡ true
    step true h rest = absurd cc
    step false h rest = rest h

module _ (t : Tables) (r : Ty) where
  abbrev IsSet : kinds.Set → Type 0
  IsSet x = (u : Ty) × (kinds.field_of t r x.0 ≡ Some u) × (kinds.is_of u x.1 ≡ true)

  set_part : (x : kinds.Set) (ks : List kinds.Set) → kinds.are_sets t r (x ∷ ks) ≡ true
      → IsSet x × (not (kinds.is_named x.0 ks) ≡ true) × (kinds.are_sets t r ks ≡ true)
  set_part x ks h = by (kinds.field_of t r x.0) refl
    where
      none : kinds.field_of t r x.0 ≡ None → kinds.are_sets t r (x ∷ ks) ≡ false
      none is = rw (is) refl

      one : (u : Ty) → kinds.field_of t r x.0 ≡ Some u
          → kinds.are_sets t r (x ∷ ks) ≡ (kinds.is_of u x.1 && (not (kinds.is_named x.0 ks) && kinds.are_sets t r ks))
      one u is = rw (is) refl

      by : (o : Option Ty) → kinds.field_of t r x.0 ≡ o
          → IsSet x × (not (kinds.is_named x.0 ks) ≡ true) × (kinds.are_sets t r ks ≡ true)
      by (Some u) is =
          let p = and_parts (kinds.is_of u x.1) (not (kinds.is_named x.0 ks) && kinds.are_sets t r ks) (sym (one u is)
          ∙ h) in
          let q = and_parts (not (kinds.is_named x.0 ks)) (kinds.are_sets t r ks) p.1 in
          ((u, is, p.0), q.0, q.1)
      by None is = absurd (let never = none is in cc)

  set_whole : (x : kinds.Set) (ks : List kinds.Set) → IsSet x → not (kinds.is_named x.0 ks) ≡ true
      → kinds.are_sets t r ks ≡ true
      → kinds.are_sets t r (x ∷ ks) ≡ true
  set_whole x ks s n rest =
      rw (s.1) (and_from (kinds.is_of s.0 x.1) (not (kinds.is_named x.0 ks) && kinds.are_sets t r ks) s.2
      (and_from (not (kinds.is_named x.0 ks)) (kinds.are_sets t r ks) n rest))

  sets_more : (ks : List kinds.Set) (x : kinds.Set) → kinds.are_sets t r ks ≡ true → IsSet x
      → is_among x.0 (map (λ k. k.0) ks) ≡ false → kinds.are_sets t r (ks ++ x ∷ []) ≡ true
  sets_more [] x h s e = set_whole x [] s refl refl
  sets_more (k ∷ ks) x h s e =
      let p = set_part k ks h in
      let q = or_false (k.0 == x.0) (is_among x.0 (map (λ k. k.0) ks)) e in
      set_whole k (ks ++ x ∷ []) p.0 (named_more k.0 ks x p.1 (nat_sym x.0 k.0 ∙ q.0)) (sets_more ks x p.2 s q.1)

is_fresh : (i : ℕ) (taken : List ℕ) → ltb i width_limit ≡ true → is_new i taken ≡ true → is_among i taken ≡ false
is_fresh i taken lt h = by (i == 65535) (far i (ltb-true i width_limit lt)) h
  where
    far : (i : ℕ) → i < 32 → (i == 65535) ≡ false
    far i lt = elim (eqb_tells i 65535) [ inl p ↦ absurd (omega (arith, lt, p.1)) | inr p ↦ p.0 ]

    by : (c : Bool) → c ≡ false → (c || not (is_among i taken)) ≡ true → is_among i taken ≡ false
    by true e h = absurd cc
    by false e h = not_true (is_among i taken) h

module _ (t : Tables) (m b : ℕ) (s : Scope) (l : Names) (f : ScopeFits t m b s) (g : Fits t m b (types_in l) l) where
  abbrev set_kind : SetField → kinds.Set
  set_kind = forms.set_of (kinds.kind_step (kinds.scope t b (types_in l))) kinds.set_step

  -- sets that are done of a record of this type
  record AreDone (x : Flat) (d : Sets) : Type 0 where
    good : kinds.are_sets t (ty_of_flat x) (map set_kind d.sets) ≡ true
    same : d.taken ≡ map (λ k. k.0) (map set_kind d.sets)

  next_done : (x : Flat) (d : Sets) (n : HeldSet (Sound t m b)) → AreDone x d
      → (next_set_told d n.0 (Some (kind.Of x)) s l).1 ≡ []
      → AreDone x (next_set_told d n.0 (Some (kind.Of x)) s l).0
      × (length (next_set_told d n.0 (Some (kind.Of x)) s l).0.sets ≡ suc (length d.sets))
      × (fields : Names) × (fields_of x s.records ≡ Some fields)
  unfolding next_set_told
  next_done x d n k h =
      let k0 = Some (kind.Of x) in
      let p = no_more (set_field n.0.0 n.0.1 d.taken k0 s).1 _ h in
      let q = no_more (field_of n.0.0 n.0.1 k0 s).1 _ p.0 in
      let y = (field_of n.0.0 n.0.1 k0 s).0 in
      let z = no_more (rule (is_new y.index d.taken) rules.field n.0.0).1 [] q.1 in
      let found = field_is t m b n.0.0 n.0.1 x s f.records q.0 in
      let field = found.0 in
      let a = no_more (set_value n.0.2 y s l).1 [] p.1 in
      let v = (n.0.2 s l).0 in
      let c = no_more (n.0.2 s l).1 _ a.0 in
      let w = no_more (wanted y.ty v.at v.kind).1 [] c.1 in
      let so = wanted_is t m b l y.ty v.at v field.0 field.1 (n.1 s l f g c.0) w.0 in
      let fresh = is_fresh y.index d.taken field.4 (holds (is_new y.index d.taken) rules.field n.0.0 z.0) in
      let new : kinds.Set = (y.index, kind_at t m b l v.expr) in
      let one : SetField = roll-SetField (record { field = y.index; value = v.expr }) in
      let is : map set_kind (d.sets ++ one ∷ []) ≡ map set_kind d.sets ++ new ∷ [] =
      map_more set_kind d.sets one
      ∙ ap (λ z. map set_kind d.sets ++ z ∷ [])
      (forms.of_set (kinds.kind_step (kinds.scope t b (types_in l))) kinds.set_step y.index v.expr) in (
        record {
          good =
              ap (kinds.are_sets t (ty_of_flat x)) is
              ∙ sets_more t (ty_of_flat x) (map set_kind d.sets) new k.good (ty_of_flat field.0, field.3, so)
              (sym (ap (is_among y.index) k.same) ∙ fresh);
          same =
              ap (λ ts. ts ++ y.index ∷ []) k.same ∙ sym (map_more (λ (z : kinds.Set). z.0) (map set_kind d.sets) new)
              ∙ sym (ap (map (λ (z : kinds.Set). z.0)) is);
        },
        omega (arith, length-append d.sets (one ∷ [])),
        found.1,
        found.2,
      )

  sets_done : (x : Flat) (ns : List (HeldSet (Sound t m b))) (d : Sets) → AreDone x d
      → (sets_told d (map (λ n. n.0) ns) (Some (kind.Of x)) s l).1 ≡ []
      → AreDone x (sets_told d (map (λ n. n.0) ns) (Some (kind.Of x)) s l).0
      × (length d.sets ≤ length (sets_told d (map (λ n. n.0) ns) (Some (kind.Of x)) s l).0.sets)
  sets_done x [] d k h = (k, omega arith)
  sets_done x (n ∷ ns) d k h =
      let p = no_more (next_set_told d n.0 (Some (kind.Of x)) s l).1 _ h in
      let a = next_done x d n k p.0 in
      let rest = sets_done x ns (next_set_told d n.0 (Some (kind.Of x)) s l).0 a.0 p.1 in
      (rest.0, omega (arith, rest.1, a.1))

  record_kind_is : (x : Flat) (fields : Names) → fields_of x s.records ≡ Some fields → record_kind (Some (kind.Of x))
      ≡ Some (kind.Of x)
  record_kind_is x fields e =
      let r = fields_found x s.records fields e in
      ap (λ c. if is_record_base c && (x.options == 0) then Some (kind.Of x) else None) r.2
      ∙ ap (λ k. if (k == 0) then Some (kind.Of x) else None) r.3

  number_absurd : {X : Type 0} (d : Sets) (n : SetMeaning) → (next_set_told d n (Some kind.Number) s l).1 ≡ [] → X
  unfolding next_set_told
  number_absurd d n h = absurd (let p = no_more (set_field n.0 n.1 d.taken (Some kind.Number) s).1 _ h in let e =
      p.0 in cc)

  -- a record with fields set
  pub with_typed : (v : Typed) → IsTyped t m b l v → (ns : List (HeldSet (Sound t m b)))
      → (with_told v (map (λ n. n.0) ns) s l).1 ≡ [] → IsTyped t m b l (with_told v (map (λ n. n.0) ns) s l).0
  with_typed v x [] h = x
  with_typed v x (n ∷ ns) h = by x.0 x.1 x.2 x.3
    where
      all : List SetMeaning
      all = map (λ (n : HeldSet (Sound t m b)). n.0) (n ∷ ns)

      p : (sets_told no_sets all v.kind s l).1 ≡ []
      p = (no_more (sets_told no_sets all v.kind s l).1 [] h).0

      of_record : (y : Flat) → v.kind ≡ Some (kind.Of y) → IsFlat t m y
          → kind_at t m b l v.expr ≡ Some (kinds.Of (ty_of_flat y))
          → (sets_told no_sets all (Some (kind.Of y)) s l).1 ≡ []
          → IsTyped t m b l (typed v.at (expr.With v.expr (sets_told no_sets all v.kind s l).0.sets)
          (record_kind v.kind))
      of_record y e fits at_v q =
          let first = no_more (next_set_told no_sets n.0 (Some (kind.Of y)) s l).1 _ q in
          let one = next_done y no_sets n (record { good = refl; same = refl }) first.0 in
          let whole = sets_done y ns (next_set_told no_sets n.0 (Some (kind.Of y)) s l).0 one.0 first.1 in
          let d = (sets_told no_sets all (Some (kind.Of y)) s l).0 in
          let ks = map set_kind d.sets in
          let some : ltb 0 (length ks) ≡ true = lt-ltb 0 (length ks)
          (omega (arith, whole.1, one.1, length_map set_kind d.sets)) in
          subst (λ o. IsTyped t m b l (typed v.at (expr.With v.expr (sets_told no_sets all o s l).0.sets)
          (record_kind o))) (sym e) (
            kind.Of y,
            record_kind_is y one.2 one.3,
            fits,
            forms.of_With (kinds.kind_step (kinds.scope t b (types_in l))) kinds.set_step v.expr d.sets
                ∙ ap (λ o. kinds.given (kinds.type_of o)
                (λ u. kinds.if_so (ltb 0 (length ks) && kinds.are_sets t u ks) (kinds.Of u))) at_v
                ∙ ap (λ c. kinds.if_so c (kinds.Of (ty_of_flat y)))
                (and_from (ltb 0 (length ks)) (kinds.are_sets t (ty_of_flat y) ks) some whole.0.good),
          )

      by : (c : Kind) → v.kind ≡ Some c → IsKind t m b c → kind_at t m b l v.expr ≡ Some (kind_in c)
          → IsTyped t m b l (typed v.at (expr.With v.expr (sets_told no_sets all v.kind s l).0.sets)
          (record_kind v.kind))
      by kind.Number e fits at_v = number_absurd no_sets n.0
          (no_more (next_set_told no_sets n.0 (Some kind.Number) s l).1 _
          (sym (ap (λ o. (sets_told no_sets all o s l).1) e) ∙ p)).0
      by (kind.Of y) e fits at_v = of_record y e fits at_v (sym (ap (λ o. (sets_told no_sets all o s l).1) e) ∙ p)
