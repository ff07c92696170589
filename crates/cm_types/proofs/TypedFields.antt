-- Fields that are asked or set, where no rule fails.
use Rattle.std.proofs.Common.{◌≡◌, ℕ, zero, suc, ◌+◌, ltb, Bool, true, List, [], ◌∷◌, ◌++◌, length, slice_get, Option}
use Rattle.std.proofs.Common.{Some, None, refl, sym, ap, ◌∙◌, subst, arith, if◌then◌else◌}
use Rattle.std.specs.Prelude.{option_map}
use Rattle.std.proofs.lemmas.Bool.{lt-ltb}
use Rattle.std.proofs.lemmas.List.{length-append}
use Rattle.cm_model.specs.Tables.{Tables}
use Rattle.cm_model.specs.Limits.{width_limit}
use Rattle.cm_model.specs.Kinds as kinds
use Rattle.cm_model.specs.declared.place.Place.{Place}
use Rattle.cm_model.specs.declared.ty.Ty.{Ty}
use Rattle.cm_model.specs.declared.ty.Ty.TheVariants as ty
use Rattle.cm_typing.specs.declared.flat.Base.{Base}
use Rattle.cm_typing.specs.declared.flat.Base.TheVariants as base
use Rattle.cm_typing.specs.declared.flat.Flat.{Flat}
use Rattle.cm_typing.specs.declared.flat.Kind.{Kind}
use Rattle.cm_typing.specs.declared.flat.Kind.TheVariants as kind
use Rattle.cm_typing.specs.declared.names.Entry.{Entry}
use Rattle.cm_typing.specs.declared.names.Entry.TheVariants as entry
use Rattle.cm_typing.specs.declared.scope.Scope.{Scope}
use Rattle.cm_typing.specs.declared.told.Typed.{Typed}
use Rattle.cm_typing.specs.declared.told.FieldPath.{FieldPath}
use Rattle.cm_typing.specs.declared.told.FoundField.{FoundField}
use Rattle.cm_typing.specs.Names.{Names, look}
use Rattle.cm_typing.specs.Flats.{kind_of, ty_of_flat}
use Rattle.cm_typing.specs.Expressions.{field_entry, field_in, fields_of, field_of, path_told, no_path, expr_at}
use Rattle.cm_typing.specs.Expressions.{at_path}
use Rattle.cm_types.proofs.Items.{no_more}
use Rattle.cm_types.proofs.Deepening.{suc_zero}
use Rattle.cm_types.proofs.ModelForms.{of_Fields}
use Rattle.cm_types.proofs.Measured.{IsFlat}
use Rattle.cm_types.proofs.Standing.{types_in, FieldsFit, IsField, looked}
use Rattle.cm_types.proofs.TypedParts.{IsKind, kind_in, kind_at, IsTyped}

-- what has fields is a record
abbrev IsRecord : Flat → List Names → Names → Type 0
IsRecord f rs fields = (r : ℕ) × (ty_of_flat f ≡ ty.Rec r) × (f.base ≡ base.Record r) × (f.options ≡ 0)
    × (slice_get rs r ≡ Some fields)

record_found : (b : Base) (k w i : ℕ) (o : Bool) (rs : List Names) (fields : Names)
    → fields_of (record { base = b; options = k; width = w; integers = i; optional = o }) rs ≡ Some fields
    → IsRecord (record { base = b; options = k; width = w; integers = i; optional = o }) rs fields
record_found (base.Sort s) zero w i o rs fields h = absurd cc
record_found (base.Int s) zero w i o rs fields h = absurd cc
record_found (base.Enum s) zero w i o rs fields h = absurd cc
record_found (base.Record r) zero w i o rs fields h = (r, refl, refl, refl, h)
record_found b (suc k) w i o rs fields h =
    absurd (let e : None ≡ Some fields =
    sym (ap (λ c. if c then fields_of (record {
      base = b;
      options = zero;
      width = w;
      integers = i;
      optional =
          o;
    }) rs else None) (suc_zero k)) ∙ h in cc)

pub fields_found : (f : Flat) (rs : List Names) (fields : Names) → fields_of f rs ≡ Some fields → IsRecord f rs fields
fields_found f rs fields h = record_found f.base f.options f.width f.integers f.optional rs fields h

nought_add : (n : ℕ) → 0 + n ≡ n
nought_add n = omega arith

type_at_more : (t : Tables) (is : List ℕ) (i : ℕ) (r u : Ty) (o : Option Ty) → kinds.type_at t r is ≡ Some u
    → kinds.field_of t u i ≡ o → kinds.type_at t r (is ++ i ∷ []) ≡ o
type_at_more t [] i r u o e h = let same : r ≡ u = cc in ends (kinds.field_of t r i)
    ∙ ap (λ v. kinds.field_of t v i) same ∙ h
  where
    ends : (x : Option Ty) → kinds.given x (λ u. kinds.type_at t u []) ≡ x
    ends (Some v) = refl
    ends None = refl
type_at_more t (j ∷ is) i r u o e h = step (kinds.field_of t r j) e (λ v k. type_at_more t is i v u o k h)
  where
    step : (x : Option Ty) → kinds.given x (λ v. kinds.type_at t v is) ≡ Some u
        → ((v : Ty) → kinds.type_at t v is ≡ Some u → kinds.type_at t v (is ++ i ∷ []) ≡ o)
        → kinds.given x (λ v. kinds.type_at t v (is ++ i ∷ [])) ≡ o
    step (Some v) e rest = rest v e
    step None e rest = absurd cc

module _ (t : Tables) (m b : ℕ) where
  -- a field of a record type
  abbrev pub FieldIs : Flat → FoundField → Type 0
  FieldIs f x = (g : Flat) × (x.ty ≡ Some g) × IsFlat t m g × (kinds.field_of t (ty_of_flat f) x.index ≡ Some
      (ty_of_flat g))
      × (ltb x.index width_limit ≡ true)

  entry_is : (at : Place) (f : Flat) (r : ℕ) (e : Entry) → ty_of_flat f ≡ ty.Rec r → IsField t m b r e
      → FieldIs f (field_entry at (Some e)).0
  entry_is at f r (entry.Field i o) is h = (h.0, h.1, h.2, ap (λ u. kinds.field_of t u i) is ∙ h.3, h.4)
  entry_is at f r (entry.Sort n) is h = absurd h
  entry_is at f r (entry.Int n) is h = absurd h
  entry_is at f r (entry.Enum n) is h = absurd h
  entry_is at f r (entry.Variant e i) is h = absurd h
  entry_is at f r (entry.Record q o os) is h = absurd h
  entry_is at f r (entry.Cell c o) is h = absurd h
  entry_is at f r (entry.Map c k o) is h = absurd h
  entry_is at f r (entry.Function k os o) is h = absurd h
  entry_is at f r entry.Unusable is h = absurd h
  entry_is at f r (entry.Local i o) is h = absurd h

  pub field_is : (at : Place) (n : List ℕ) (f : Flat) (s : Scope) → FieldsFit t m b s.records
      → (field_of at n (Some (kind.Of f)) s).1 ≡ []
      → FieldIs f (field_of at n (Some (kind.Of f)) s).0 × (fields : Names) × (fields_of f s.records ≡ Some fields)
  field_is at n f s k h = by (fields_of f s.records) refl h
    where
      found : (fields : Names) → fields_of f s.records ≡ Some fields → (o : Option Entry) → look n fields ≡ o
          → (field_entry at o).1 ≡ [] → FieldIs f (field_entry at o).0
      found fields is None e h = absurd cc
      found fields is (Some x) e h =
          let r = fields_found f s.records fields is in
          entry_is at f r.0 x r.1 (looked (IsField t m b r.0) n fields (k r.0 fields r.4) x e)

      by : (o : Option Names) → fields_of f s.records ≡ o → (field_in at n o).1 ≡ []
          → FieldIs f (field_in at n o).0 × (fields : Names) × (fields_of f s.records ≡ Some fields)
      by (Some fields) is h = (found fields is (look n fields) refl h, fields, is)
      by None is h = absurd cc

  -- a path of fields from a type
  abbrev PathIs : Flat → FieldPath → Type 0
  PathIs f p = (g : Flat) × (p.kind ≡ Some (kind.Of g)) × IsFlat t m g × (kinds.type_at t (ty_of_flat f) p.path ≡ Some
      (ty_of_flat g))

  path_is : (at : Place) (f : Flat) (s : Scope) → FieldsFit t m b s.records → (ns : List (List ℕ)) (done : FieldPath)
      → PathIs f done → (path_told at done ns s).1 ≡ []
      → PathIs f (path_told at done ns s).0 × (length (path_told at done ns s).0.path ≡ length done.path + length ns)
  path_is at f s k [] done p h = (p, omega arith)
  path_is at f s k (n ∷ ns) done p h =
      let x = (field_of at n done.kind s).0 in
      let q = no_more (field_of at n done.kind s).1 _ h in
      let y = subst (λ o. (field_of at n o s).1 ≡ [] → FieldIs p.0 (field_of at n o s).0) (sym p.1)
      (λ e. (field_is at n p.0 s k e).0) q.0 in
      let next : FieldPath = record { path = done.path ++ x.index ∷ []; kind = kind_of x.ty } in
      let r = path_is at f s k ns next (
        y.0,
        ap kind_of y.1,
        y.2,
        type_at_more t done.path x.index (ty_of_flat f) (ty_of_flat p.0)
            (Some (ty_of_flat y.0)) p.3 y.3,
      ) q.1 in
      (r.0, omega (arith, r.1, length-append done.path (x.index ∷ [])))

  -- fields of an expression
  pub fields_typed : (at : Place) (s : Scope) (l : Names) → FieldsFit t m b s.records → (v : Typed) → IsTyped t m b l v
      → (ns : List (List ℕ)) → (path_told at (no_path v.kind) ns s).1 ≡ []
      → IsTyped t m b l (at_path v (path_told at (no_path v.kind) ns s).0)
  fields_typed at s l k v x [] h = x
  fields_typed at s l k v x (n ∷ ns) h = by x.0 x.1 x.2 x.3
    where
      longer : (f : Flat) → kind_at t m b l v.expr ≡ Some (kinds.Of (ty_of_flat f)) → (p : FieldPath) → PathIs f p
          → length p.path ≡ suc (length ns) → IsTyped t m b l (at_path v p)
      longer f at_v p q e = named p.path refl
        where
          named : (is : List ℕ) → p.path ≡ is → IsTyped t m b l (at_path v p)
          named [] same = absurd (omega (arith, e, ap length same))
          named (i ∷ is) same = (
            kind.Of q.0,
            q.1,
            q.2,
            ap (λ js. kind_at t m b l (expr_at v.expr js)) same
                ∙ of_Fields (kinds.kind_step (kinds.scope t b (types_in l))) kinds.set_step v.expr (i ∷ is)
                ∙ ap (λ o. kinds.given (kinds.type_of o) (λ u. if ltb 0 (length (i ∷ is)) then option_map kinds.Of
                (kinds.type_at t u (i ∷ is)) else None)) at_v
                ∙ ap (λ c. if c then option_map kinds.Of (kinds.type_at t (ty_of_flat f) (i ∷ is)) else None)
                (lt-ltb 0 (length (i ∷ is)) (omega arith))
                ∙ ap (λ js. option_map kinds.Of (kinds.type_at t (ty_of_flat f) js)) (sym same)
                ∙ ap (option_map kinds.Of) q.3,
          )

      by : (c : Kind) → v.kind ≡ Some c → IsKind t m b c → kind_at t m b l v.expr ≡ Some (kind_in c)
          → IsTyped t m b l (at_path v (path_told at (no_path v.kind) (n ∷ ns) s).0)
      by kind.Number e g at_v = absurd (let p = no_more (field_of at n v.kind s).1 _ h in
          let q : (field_of at n (Some kind.Number) s).1 ≡ [] = sym (ap (λ o. (field_of at n o s).1) e) ∙ p.0 in cc)
      by (kind.Of f) e g at_v =
          let r = path_is at f s k (n ∷ ns) (no_path v.kind) (f, e, g, refl) h in
          longer f at_v (path_told at (no_path v.kind) (n ∷ ns) s).0 r.0 (r.1 ∙ nought_add (suc (length ns)))
