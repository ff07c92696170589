-- What a name promises of tables, by what it stands for.
use Rattle.std.proofs.Common.{◌≡◌, ℕ, ◌≤◌, ltb, ◌&&◌, Bool, true, false, cond, List, [], ◌∷◌, ◌++◌, map, length}
use Rattle.std.proofs.Common.{slice_get, Option, Some, None, refl, sym, ap, ◌∙◌, subst, arith}
use Rattle.std.specs.Str.{bytes_eq}
use Rattle.std.specs.Map.{lookup}
use Rattle.std.proofs.lemmas.Bool.{lt-ltb, ltb-true}
use Rattle.cm_model.specs.Tables.{Tables}
use Rattle.cm_model.specs.Limits.{width_limit}
use Rattle.cm_model.specs.Kinds.{field_of}
use Rattle.cm_model.specs.declared.place.Place.{Place}
use Rattle.cm_model.specs.declared.ty.Ty.{Ty}
use Rattle.cm_model.specs.declared.ty.Ty.TheVariants as ty
use Rattle.cm_model.specs.declared.ty.EnumDecl.{EnumDecl}
use Rattle.cm_model.specs.declared.ty.RecDecl.{RecDecl}
use Rattle.cm_model.specs.declared.ty.Part.{Part}
use Rattle.cm_model.specs.declared.body.StateDecl.{StateDecl}
use Rattle.cm_model.specs.declared.body.Call.{Call}
use Rattle.cm_typing.specs.declared.flat.Flat.{Flat}
use Rattle.cm_typing.specs.declared.names.Entry.{Entry}
use Rattle.cm_typing.specs.declared.names.Entry.TheVariants as entry
use Rattle.cm_typing.specs.declared.scope.Scope.{Scope}
use Rattle.cm_typing.specs.Names.{Names, look, more, allowed, found, in_invariant, is_state}
use Rattle.cm_typing.specs.Flats.{ty_of, ty_of_flat}
use Rattle.cm_typing.specs.Expressions.{named}
use Rattle.cm_types.proofs.Items.{Each, each_as, each_more, map_more, length_map, stands_behind, still_at}
use Rattle.cm_types.proofs.Measured.{IsFlat, wider}

-- what stands where a name is found has what all that stand there have
pub looked : (P : Entry → Type 0) (n : List ℕ) (d : Names) → Each (λ e. P e.1) d → (e : Entry) → look n d ≡ Some e → P e
unfolding look
looked P n [] h e at = absurd cc
looked P n (x ∷ d) h e at = by (bytes_eq n x.0) at (looked P n d h.1 e)
  where
    by : (b : Bool) → cond b (Some x.1) (lookup (bytes_eq n) d) ≡ Some e → (lookup (bytes_eq n) d ≡ Some e → P e) → P e
    by true at rest = let same : x.1 ≡ e = cc in subst P same h.0
    by false at rest = rest at

-- flat types that are there, of parts one for one
abbrev pub AreParts : List (Option Flat) → List Part → Type 0
AreParts [] [] = Unit {0}
AreParts (o ∷ os) (p ∷ ps) = ((f : Flat) × (o ≡ Some f) × (p.ty ≡ ty_of_flat f)) × AreParts os ps
AreParts [] (p ∷ ps) = ⊥
AreParts (o ∷ os) [] = ⊥

pub parts_more : (os : List (Option Flat)) (ps : List Part) (f : Flat) (p : Part) → AreParts os ps → p.ty ≡ ty_of_flat f
    → AreParts (os ++ Some f ∷ []) (ps ++ p ∷ [])
parts_more [] [] f p h e = ((f, refl, e), tt)
parts_more (o ∷ os) (q ∷ ps) f p h e = (h.0, parts_more os ps f p h.1 e)
parts_more [] (q ∷ ps) f p h e = absurd h
parts_more (o ∷ os) [] f p h e = absurd h

-- the type of a local
abbrev pub local_type : Entry → Ty
local_type (entry.Local i o) = ty_of o
local_type _ = ty.Enum 0

abbrev pub types_in : Names → List Ty
types_in l = map (λ e. local_type e.1) l

-- where the first m records and the first b functions may be used
module _ (t : Tables) (m b : ℕ) where
  abbrev pub IsThere : Option Flat → Type 0
  IsThere o = (f : Flat) × (o ≡ Some f) × IsFlat t m f

  -- and locals have these types
  abbrev pub FitsEntry : List Ty → Entry → Type 0
  FitsEntry ts (entry.Sort n) = ltb n (length t.sorts) ≡ true
  FitsEntry ts (entry.Int n) = ltb n (length t.ints) ≡ true
  FitsEntry ts (entry.Enum n) = ltb n (length t.enums) ≡ true
  FitsEntry ts (entry.Variant e i) =
      (d : EnumDecl) × (slice_get t.enums e ≡ Some d) × (ltb i (length d.variants) ≡ true)
  FitsEntry ts (entry.Record r o os) =
      (f : Flat) × (d : RecDecl) × (o ≡ Some f) × IsFlat t m f × (ty_of_flat f ≡ ty.Rec r)
      × (slice_get t.records r ≡ Some d) × AreParts os d.fields
  FitsEntry ts (entry.Cell c o) =
      (f : Flat) × (d : StateDecl) × (o ≡ Some f) × IsFlat t m f × (slice_get t.states c ≡ Some d)
      × (d.key ≡ None) × (d.value ≡ ty_of_flat f)
  FitsEntry ts (entry.Map c k o) =
      (g : Flat) × (f : Flat) × (d : StateDecl) × (k ≡ Some g) × (o ≡ Some f) × IsFlat t m f
      × (slice_get t.states c ≡ Some d) × (d.key ≡ Some (ty_of_flat g)) × (d.value ≡ ty_of_flat f)
  FitsEntry ts (entry.Function k os o) =
      (f : Flat) × (d : Call) × (o ≡ Some f) × IsFlat t m f × (slice_get t.funs k ≡ Some d)
      × (ltb k b ≡ true) × AreParts os d.params × (d.reply ≡ ty_of_flat f)
  FitsEntry ts entry.Unusable = Unit {0}
  FitsEntry ts (entry.Local i o) = (f : Flat) × (o ≡ Some f) × IsFlat t m f × (slice_get ts i ≡ Some (ty_of_flat f))
  FitsEntry ts (entry.Field i o) = Unit {0}

  abbrev pub Fits : List Ty → Names → Type 0
  Fits ts = Each (λ e. FitsEntry ts e.1)

  -- a field of the record with this number
  abbrev pub IsField : ℕ → Entry → Type 0
  IsField r (entry.Field i o) =
      (f : Flat) × (o ≡ Some f) × IsFlat t m f × (field_of t (ty.Rec r) i ≡ Some (ty_of_flat f))
      × (ltb i width_limit ≡ true)
  IsField r _ = ⊥

  abbrev pub FieldsFit : List Names → Type 0
  FieldsFit rs = (r : ℕ) (fields : Names) → slice_get rs r ≡ Some fields → Each (λ e. IsField r e.1) fields

  pub record ScopeFits (s : Scope) : Type 0 where
    pub names : Fits [] s.names
    pub records : FieldsFit s.records

  -- what fits beside no local fits beside each
  pub beside : (ts : List Ty) (e : Entry) → FitsEntry [] e → FitsEntry ts e
  beside ts (entry.Sort n) h = h
  beside ts (entry.Int n) h = h
  beside ts (entry.Enum n) h = h
  beside ts (entry.Variant e i) h = h
  beside ts (entry.Record r o os) h = h
  beside ts (entry.Cell c o) h = h
  beside ts (entry.Map c k o) h = h
  beside ts (entry.Function k os o) h = h
  beside ts entry.Unusable h = tt
  beside ts (entry.Local i o) h = absurd (let e = h.3 in cc)
  beside ts (entry.Field i o) h = tt

  -- a name at whose use no rule fails
  pub named_fits : (at : Place) (n : List ℕ) (s : Scope) (l : Names) → ScopeFits s → Fits (types_in l) l
      → (named at n s l).1 ≡ [] → (e : Entry) × ((named at n s l).0 ≡ Some e) × FitsEntry (types_in l) e
  named_fits at n s l f g h = by (look n l) (look n s.names) refl refl h
    where
      barred : (c : Bool) (e : Entry) → FitsEntry (types_in l) e → (allowed at c e).1 ≡ []
          → (x : Entry) × ((allowed at c e).0 ≡ Some x) × FitsEntry (types_in l) x
      barred true e k h = absurd cc
      barred false e k h = (e, refl, k)

      by : (o d : Option Entry) → look n l ≡ o → look n s.names ≡ d → (found at (in_invariant l) o d).1 ≡ []
          → (x : Entry) × ((found at (in_invariant l) o d).0 ≡ Some x) × FitsEntry (types_in l) x
      by (Some e) d p q h = (e, refl, looked (FitsEntry (types_in l)) n l g e p)
      by None None p q h = absurd cc
      by None (Some e) p q h = barred (in_invariant l && is_state e) e (beside (types_in l) e
          (looked (FitsEntry []) n s.names f.names e q)) h

-- where more may be used
module _ (t : Tables) (m b n c : ℕ) (few : m ≤ n) (less : b ≤ c) where
  pub entry_wider : (ts : List Ty) (e : Entry) → FitsEntry t m b ts e → FitsEntry t n c ts e
  entry_wider ts (entry.Sort k) h = h
  entry_wider ts (entry.Int k) h = h
  entry_wider ts (entry.Enum k) h = h
  entry_wider ts (entry.Variant e i) h = h
  entry_wider ts (entry.Record r o os) h = (h.0, h.1, h.2, wider t m n few h.0 h.3, h.4, h.5, h.6)
  entry_wider ts (entry.Cell k o) h = (h.0, h.1, h.2, wider t m n few h.0 h.3, h.4, h.5, h.6)
  entry_wider ts (entry.Map k g o) h = (h.0, h.1, h.2, h.3, h.4, wider t m n few h.1 h.5, h.6, h.7, h.8)
  entry_wider ts (entry.Function k os o) h =
      (h.0, h.1, h.2, wider t m n few h.0 h.3, h.4, lt-ltb k c (omega (arith, less, ltb-true k b h.5)), h.6, h.7)
  entry_wider ts entry.Unusable h = tt
  entry_wider ts (entry.Local i o) h = (h.0, h.1, wider t m n few h.0 h.2, h.3)
  entry_wider ts (entry.Field i o) h = tt

  pub fits_wider : (ts : List Ty) (d : Names) → Fits t m b ts d → Fits t n c ts d
  fits_wider ts = each_as (λ e. FitsEntry t m b ts e.1) (λ e. FitsEntry t n c ts e.1) (λ x h. entry_wider ts x.1 h)

  pub field_wider : (r : ℕ) (e : Entry) → IsField t m b r e → IsField t n c r e
  field_wider r (entry.Field i o) h = (h.0, h.1, wider t m n few h.0 h.2, h.3, h.4)
  field_wider r (entry.Sort k) h = absurd h
  field_wider r (entry.Int k) h = absurd h
  field_wider r (entry.Enum k) h = absurd h
  field_wider r (entry.Variant e i) h = absurd h
  field_wider r (entry.Record q o os) h = absurd h
  field_wider r (entry.Cell k o) h = absurd h
  field_wider r (entry.Map k g o) h = absurd h
  field_wider r (entry.Function k os o) h = absurd h
  field_wider r entry.Unusable h = absurd h
  field_wider r (entry.Local i o) h = absurd h

  pub fields_wider : (rs : List Names) → FieldsFit t m b rs → FieldsFit t n c rs
  fields_wider rs h r fields e =
      each_as (λ e. IsField t m b r e.1) (λ e. IsField t n c r e.1) (λ x k. field_wider r x.1 k) fields (h r fields e)

-- where locals are more
module _ (t : Tables) (m b : ℕ) (ts : List Ty) (u : Ty) where
  pub entry_still : (e : Entry) → FitsEntry t m b ts e → FitsEntry t m b (ts ++ u ∷ []) e
  entry_still (entry.Sort k) h = h
  entry_still (entry.Int k) h = h
  entry_still (entry.Enum k) h = h
  entry_still (entry.Variant e i) h = h
  entry_still (entry.Record r o os) h = h
  entry_still (entry.Cell k o) h = h
  entry_still (entry.Map k g o) h = h
  entry_still (entry.Function k os o) h = h
  entry_still entry.Unusable h = tt
  entry_still (entry.Local i o) h = (h.0, h.1, h.2, still_at ts (u ∷ []) i (ty_of_flat h.0) h.3)
  entry_still (entry.Field i o) h = tt

-- one local more
pub local_more : (t : Tables) (m b : ℕ) (l : Names) (n : List ℕ) (o : Option Flat) (f : Flat)
    → Fits t m b (types_in l) l
    → o ≡ Some f → IsFlat t m f
    → Fits t m b (types_in (more l n (entry.Local (length l) o))) (more l n (entry.Local (length l) o))
    × (types_in (more l n (entry.Local (length l) o)) ≡ types_in l ++ ty_of_flat f ∷ [])
local_more t m b l n o f g e fits =
    let x : List ℕ × Entry = (n, entry.Local (length l) o) in
    let u = ty_of_flat f in
    let same : types_in (more l n (entry.Local (length l) o)) ≡ types_in l ++ u ∷ [] =
    map_more (λ (e : List ℕ × Entry). local_type e.1) l x ∙ ap (λ z. types_in l ++ ty_of z ∷ []) e in
    let here : slice_get (types_in l ++ u ∷ []) (length l) ≡ Some u =
    ap (slice_get (types_in l ++ u ∷ [])) (sym (length_map (λ (e : List ℕ × Entry). local_type e.1) l))
    ∙ stands_behind (types_in l) u [] in
    let old = each_as (λ (e : List ℕ × Entry). FitsEntry t m b (types_in l) e.1) (λ e. FitsEntry t m b
    (types_in l ++ u ∷ []) e.1)
    (λ z h. entry_still t m b (types_in l) u z.1 h) l g in (
      subst (λ ts. Fits t m b ts (more l n (entry.Local (length l) o))) (sym same)
          (each_more (λ (e : List ℕ × Entry). FitsEntry t m b (types_in l ++ u ∷ []) e.1) l x old (f, e, fits, here)),
      same,
    )
