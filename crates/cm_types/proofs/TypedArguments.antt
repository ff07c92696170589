-- Operands and arguments in which no rule fails.
use Rattle.std.proofs.Common.{◌≡◌, ℕ, suc, ◌==◌, ltb, Bool, true, false, List, [], ◌∷◌, ◌++◌, map, length, slice_get}
use Rattle.std.proofs.Common.{Option, Some, None, refl, sym, ap, ◌∙◌, subst, arith, if◌then◌else◌}
use Rattle.std.specs.List.{list_all}
use Rattle.std.proofs.lemmas.Bool.{eqb-true, and_from}
use Rattle.std.proofs.lemmas.List.{length-append, append_assoc, append-nil}
use Rattle.cm_model.specs.Tables.{Tables}
use Rattle.cm_model.specs.Kinds as kinds
use Rattle.cm_model.specs.declared.place.Place.{Place}
use Rattle.cm_model.specs.declared.ty.Ty.TheVariants as ty
use Rattle.cm_model.specs.declared.ty.Part.{Part}
use Rattle.cm_model.specs.declared.ty.RecDecl.{RecDecl}
use Rattle.cm_model.specs.declared.body.Call.{Call}
use Rattle.cm_model.specs.declared.body.Expr.{Expr as Made}
use Rattle.cm_model.specs.declared.body.Expr.TheVariants as expr
use Rattle.cm_typing.specs.declared.flat.Flat.{Flat}
use Rattle.cm_typing.specs.declared.flat.Kind.TheVariants as kind
use Rattle.cm_typing.specs.declared.names.Entry.{Entry}
use Rattle.cm_typing.specs.declared.names.Entry.TheVariants as entry
use Rattle.cm_typing.specs.declared.scope.Scope.{Scope}
use Rattle.cm_typing.specs.Told.{Broken, rule, fails}
use Rattle.cm_typing.specs.Names.{Names, in_invariant}
use Rattle.cm_typing.specs.Rules as rules
use Rattle.cm_typing.specs.Flats.{is_bool, is_integer, wanted, kind_of, int_flat}
use Rattle.cm_typing.specs.Expressions.{Meaning, typed, as_condition, operands_told, type_at, args_told, counted_told}
use Rattle.cm_typing.specs.Expressions.{loose_told, into_told, make_told, call_told, applied_told, apply_told}
use Rattle.cm_types.proofs.Items.{no_more, holds, length_map}
use Rattle.cm_types.proofs.ModelForms.{of_Make, of_Into, of_Apply}
use Rattle.cm_types.proofs.Measured.{int_fits}
use Rattle.cm_types.proofs.Standing.{types_in, AreParts, Fits, FitsEntry, ScopeFits}
use Rattle.cm_types.proofs.TypedParts.{kind_at, IsTyped, integer_is, bool_is, wanted_is}
use Rattle.cm_types.proofs.ExprRules.{Held}

-- the type behind so many others
pub type_behind : (ds : List (Option Flat)) (o : Option Flat) (os : List (Option Flat)) (i : ℕ) → i ≡ length ds
    → type_at (ds ++ o ∷ os) i ≡ o
type_behind ds o os i e = ap (type_at (ds ++ o ∷ os)) e ∙ here ds
  where
    here : (ds : List (Option Flat)) → type_at (ds ++ o ∷ os) (length ds) ≡ o
    here [] = first o
      where
        first : (o : Option Flat) → type_at (o ∷ os) 0 ≡ o
        first (Some f) = refl
        first None = refl
    here (d ∷ ds) = here ds

module _ (t : Tables) (m b : ℕ) where
  -- with the names that are declared and the locals, what is told without a fault is typed
  abbrev pub Sound : Meaning → Type 0
  Sound n = (s : Scope) (l : Names) → ScopeFits t m b s → Fits t m b (types_in l) l → (n s l).1 ≡ [] → IsTyped t m b l
      (n s l).0

  abbrev pub bare : List (Held Sound) → List Meaning
  bare ms = map (λ n. n.0) ms

  module _ (s : Scope) (l : Names) (f : ScopeFits t m b s) (g : Fits t m b (types_in l) l) where
    abbrev at : Made → Option kinds.Kind
    at = kind_at t m b l

    -- operands of `and` or `or`
    pub operands_sound : (ms : List (Held Sound)) (done : List Made) → (operands_told done (bare ms) s l).1 ≡ []
        → (es : List Made) × ((operands_told done (bare ms) s l).0 ≡ done ++ es) × (length es ≡ length ms)
        × (list_all kinds.is_bool (map at es) ≡ true)
    operands_sound [] done h = ([], sym (append-nil done), refl, refl)
    operands_sound (n ∷ ms) done h =
        let v = (n.0 s l).0 in
        let p = no_more ((n.0 s l).1 ++ ((as_condition v).1 ++ [])) _ h in
        let q = no_more (n.0 s l).1 _ p.0 in
        let r = no_more (as_condition v).1 [] q.1 in
        let c = no_more (rule (is_bool v.kind) rules.condition v.at).1 [] r.0 in
        let x = n.1 s l f g q.0 in
        let so = bool_is t m b l v x (holds (is_bool v.kind) rules.condition v.at c.0) in
        let rest = operands_sound ms (done ++ v.expr ∷ []) p.1 in (
          v.expr ∷ rest.0,
          rest.1 ∙ append_assoc done (v.expr ∷ []) rest.0,
          ap suc rest.2,
          and_from (kinds.is_bool (at v.expr)) (list_all kinds.is_bool (map at rest.0)) so rest.3,
        )

    -- arguments of these types
    pub args_sound : (ps : List Part) (ms : List (Held Sound)) (ds os : List (Option Flat)) (done : List Made)
        → length done ≡ length ds → length ms ≡ length os → AreParts os ps
        → (args_told done (bare ms) (ds ++ os) s l).1 ≡ []
        → (es : List Made) × ((args_told done (bare ms) (ds ++ os) s l).0 ≡ done ++ es)
        × (kinds.are_of ps (map at es) ≡ true)
    args_sound [] [] ds [] done e n k h = ([], sym (append-nil done), refl)
    args_sound (p ∷ ps) (a ∷ ms) ds (o ∷ os) done e n k h =
        let v = (a.0 s l).0 in
        let want = type_at (ds ++ o ∷ os) (length done) in
        let p1 = no_more (a.0 s l).1 _ h in
        let p2 = no_more (wanted want v.at v.kind).1 _ p1.1 in
        let x = a.1 s l f g p1.0 in
        let here : want ≡ Some k.0.0 = type_behind ds o os (length done) e ∙ k.0.1 in
        let so : kinds.is_of p.ty (at v.expr) ≡ true =
        ap (λ u. kinds.is_of u (at v.expr)) k.0.2 ∙ wanted_is t m b l want v.at v k.0.0 here x p2.0 in
        let moved : (ds ++ o ∷ []) ++ os ≡ ds ++ o ∷ os = append_assoc ds (o ∷ []) os in
        let fewer : length ms ≡ length os = omega (arith, n) in
        let longer : length (done ++ v.expr ∷ []) ≡ length (ds ++ o ∷ []) =
        omega (arith, e, length-append done (v.expr ∷ []), length-append ds (o ∷ [])) in
        let rest = args_sound ps ms (ds ++ o ∷ []) os (done ++ v.expr ∷ []) longer fewer k.1
        (ap (λ ts. (args_told (done ++ v.expr ∷ []) (bare ms) ts s l).1) moved ∙ p2.1) in (
          v.expr ∷ rest.0,
          ap (λ ts. (args_told (done ++ v.expr ∷ []) (bare ms) ts s l).0) (sym moved) ∙ rest.1
              ∙ append_assoc done (v.expr ∷ []) rest.0,
          and_from (kinds.is_of p.ty (at v.expr)) (kinds.are_of ps (map at rest.0)) so rest.2,
        )
    args_sound [] [] ds (o ∷ os) done e n k h = absurd k
    args_sound (p ∷ ps) [] ds [] done e n k h = absurd k
    args_sound (p ∷ ps) [] ds (o ∷ os) done e n k h = absurd (omega (arith, n))
    args_sound [] (a ∷ ms) ds [] done e n k h = absurd (omega (arith, n))
    args_sound [] (a ∷ ms) ds (o ∷ os) done e n k h = absurd k
    args_sound (p ∷ ps) (a ∷ ms) ds [] done e n k h = absurd k

    pub counted_sound : (place : Place) (ps : List Part) (os : List (Option Flat)) (ms : List (Held Sound))
        → AreParts os ps
        → (counted_told place os (bare ms) s l).1 ≡ []
        → kinds.are_of ps (map at (counted_told place os (bare ms) s l).0) ≡ true
    counted_sound place ps os ms k h =
        let p = no_more (rule (length (bare ms) == length os) rules.count place).1 _ h in
        let n = eqb-true (length (bare ms)) (length os) (holds (length (bare ms) == length os) rules.count place p.0) in
        let fewer : length ms ≡ length os = sym (length_map (λ (x : Held Sound). x.0) ms) ∙ n in
        let x = args_sound ps ms [] os [] refl fewer k p.1 in
        ap (λ es. kinds.are_of ps (map at es)) x.1 ∙ x.2

    module _ (ms : List (Held Sound)) where
      loose_absurd : {X : Type 0} (place : Place) (code : ℕ) → (loose_told place code (bare ms) s l).1 ≡ [] → X
      loose_absurd place code h = absurd (let p = no_more (fails code place).1 _ h in let e = p.0 in cc)

      make_sound : (place : Place) (r : ℕ) (o : Option Flat) (os : List (Option Flat)) → FitsEntry t m b (types_in l)
          (entry.Record r o os)
          → (make_told place r o os (bare ms) s l).1 ≡ [] → IsTyped t m b l (make_told place r o os (bare ms) s l).0
      make_sound place r o os k h =
          let p = no_more (counted_told place os (bare ms) s l).1 [] h in
          let es = (counted_told place os (bare ms) s l).0 in
          let so = counted_sound place k.1.fields os ms k.6 p.0 in
          let step = kinds.kind_step (kinds.scope t b (types_in l)) in (
            kind.Of k.0,
            ap (λ (x : Option Flat). (typed place (expr.Make r es) (kind_of x)).kind) k.2,
            k.3,
            of_Make step kinds.set_step r es
                ∙ ap (λ d. kinds.given d (λ (x : RecDecl). kinds.if_so (kinds.are_of x.fields (map at es))
                (kinds.Of (ty.Rec r)))) k.5
                ∙ ap (λ c. kinds.if_so c (kinds.Of (ty.Rec r))) so
                ∙ ap (λ u. Some (kinds.Of u)) (sym k.4),
          )

      call_sound : (place : Place) (i : ℕ) (os : List (Option Flat)) (o : Option Flat) → FitsEntry t m b (types_in l)
          (entry.Function i os o)
          → (call_told place i os o (bare ms) s l).1 ≡ [] → IsTyped t m b l (call_told place i os o (bare ms) s l).0
      call_sound place i os o k h =
          let p = no_more (counted_told place os (bare ms) s l).1 [] h in
          let es = (counted_told place os (bare ms) s l).0 in
          let so = counted_sound place k.1.params os ms k.6 p.0 in
          let step = kinds.kind_step (kinds.scope t b (types_in l)) in (
            kind.Of k.0,
            ap (λ (x : Option Flat). (typed place (expr.Apply i es) (kind_of x)).kind) k.2,
            k.3,
            of_Apply step kinds.set_step i es
                ∙ ap (λ c. if c then kinds.given (slice_get t.funs i)
                (λ d. kinds.if_so (kinds.are_of d.params (map at es)) (kinds.Of d.reply)) else None) k.5
                ∙ ap (λ d. kinds.given d (λ (x : Call). kinds.if_so (kinds.are_of x.params (map at es))
                (kinds.Of x.reply))) k.4
                ∙ ap (λ c. kinds.if_so c (kinds.Of k.1.reply)) so
                ∙ ap (λ u. Some (kinds.Of u)) k.7,
          )

    into_sound : (place : Place) (i : ℕ) (ms : List (Held Sound)) → ltb i (length t.ints) ≡ true
        → (into_told place i (bare ms) s l).1 ≡ [] → IsTyped t m b l (into_told place i (bare ms) s l).0
    into_sound place i [] k h = loose_absurd [] place rules.count h
    into_sound place i (n ∷ o ∷ ms) k h = loose_absurd (n ∷ o ∷ ms) place rules.count h
    into_sound place i (n ∷ []) k h =
        let v = (n.0 s l).0 in
        let p = no_more (n.0 s l).1 _ h in
        let q = no_more (rule (is_integer v.kind) rules.integer v.at).1 [] p.1 in
        let so = integer_is t m b l v (n.1 s l f g p.0) (holds (is_integer v.kind) rules.integer v.at q.0) in (
          kind.Of (int_flat i),
          refl,
          int_fits t m i k,
          of_Into (kinds.kind_step (kinds.scope t b (types_in l))) kinds.set_step i v.expr
              ∙ ap (λ c. kinds.if_so c (kinds.Of (ty.Int i))) (and_from (ltb i (length t.ints))
              (kinds.is_integer (at v.expr)) k so),
        )

    -- a record's value, a conversion or a call
    applied_sound : (place : Place) (e : Entry) (inside : Bool) (ms : List (Held Sound)) → FitsEntry t m b
        (types_in l) e
        → (applied_told place e inside (bare ms) s l).1 ≡ [] → IsTyped t m b l (applied_told place e inside
        (bare ms) s l).0
    applied_sound place (entry.Record r o os) inside ms k h = make_sound ms place r o os k h
    applied_sound place (entry.Int i) true ms k h = loose_absurd ms place rules.invariant h
    applied_sound place (entry.Int i) false ms k h = into_sound place i ms k h
    applied_sound place (entry.Function i os o) true ms k h = loose_absurd ms place rules.invariant h
    applied_sound place (entry.Function i os o) false ms k h = call_sound ms place i os o k h
    applied_sound place (entry.Sort n) inside ms k h = loose_absurd ms place rules.unknown h
    applied_sound place (entry.Enum n) inside ms k h = loose_absurd ms place rules.unknown h
    applied_sound place (entry.Variant e i) inside ms k h = loose_absurd ms place rules.unknown h
    applied_sound place (entry.Cell c o) inside ms k h = loose_absurd ms place rules.unknown h
    applied_sound place (entry.Map c o q) inside ms k h = loose_absurd ms place rules.unknown h
    applied_sound place entry.Unusable inside ms k h = loose_absurd ms place rules.unknown h
    applied_sound place (entry.Local i o) inside ms k h = loose_absurd ms place rules.unknown h
    applied_sound place (entry.Field i o) inside ms k h = loose_absurd ms place rules.unknown h

    pub apply_sound : (place : Place) (o : Option Entry) (fs : List Broken) (e : Entry) (ms : List (Held Sound))
        → o ≡ Some e
        → FitsEntry t m b (types_in l) e → (apply_told place (o, fs) (bare ms) s l).1 ≡ []
        → IsTyped t m b l (apply_told place (o, fs) (bare ms) s l).0
    apply_sound place None fs e ms is k h = absurd cc
    apply_sound place (Some x) fs e ms is k h =
        let same : x ≡ e = cc in
        applied_sound place x (in_invariant l) ms (subst (FitsEntry t m b (types_in l)) (sym same) k) (no_more fs _ h).1
