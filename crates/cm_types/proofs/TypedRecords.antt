-- The fields of a record in which no rule fails.
use Rattle.std.proofs.Common.{◌≡◌, ℕ, suc, ◌+◌, ◌≤◌, ◌&&◌, ltb, leb, not, true, false, List, [], ◌∷◌, ◌++◌, map, length}
use Rattle.std.proofs.Common.{slice_get, Option, Some, refl, sym, ap, ◌∙◌, append_assoc}
use Rattle.std.specs.Prelude.{option_map}
use Rattle.std.specs.List.{list_all}
use Rattle.std.proofs.lemmas.Bool.{and_from}
use Rattle.std.proofs.lemmas.List.{append-nil}
use Rattle.cm_model.specs.Tables.{Tables}
use Rattle.cm_model.specs.Limits.{width_limit}
use Rattle.cm_model.specs.Types.{is_type_before, is_type_in_use}
use Rattle.cm_model.specs.Kinds as kinds
use Rattle.cm_model.specs.Names.{is_name, is_among, are_distinct, part_names}
use Rattle.cm_model.specs.WellTyped as well
use Rattle.cm_model.specs.declared.place.Place.{Place}
use Rattle.cm_model.specs.declared.ty.Ty.TheVariants as ty
use Rattle.cm_model.specs.declared.ty.Part.{Part as ModelPart}
use Rattle.cm_model.specs.declared.ty.RecDecl.{RecDecl}
use Rattle.cm_syntax.specs.declared.tree.Part.{Part}
use Rattle.cm_typing.specs.declared.flat.Base.TheVariants as base
use Rattle.cm_typing.specs.declared.flat.Flat.{Flat}
use Rattle.cm_typing.specs.declared.names.Entry.{Entry}
use Rattle.cm_typing.specs.declared.names.Entry.TheVariants as entry
use Rattle.cm_typing.specs.declared.scope.Scope.{Scope}
use Rattle.cm_typing.specs.declared.told.Params.{Params}
use Rattle.cm_typing.specs.Told.{rule}
use Rattle.cm_typing.specs.Names.{Names, is_taken}
use Rattle.cm_typing.specs.Rules as rules
use Rattle.cm_typing.specs.Flats.{is_small, widths_of, integers_of, record_flat, ty_of, ty_of_flat}
use Rattle.cm_typing.specs.Types.{type_told}
use Rattle.cm_typing.specs.Declarations.{model_part, no_params, field_told, fields_told}
use Rattle.cm_types.proofs.Items.{Each, each_as, each_more, GoesOn, no_more, holds, not_true, map_more, length_map}
use Rattle.cm_types.proofs.Items.{still_at, stands_behind}
use Rattle.cm_types.proofs.Deepening.{out_base}
use Rattle.cm_types.proofs.DistinctLists.{taken_is, distinct_more}
use Rattle.cm_types.proofs.Measured.{IsFlat, wider, in_use}
use Rattle.cm_types.proofs.Standing.{ScopeFits, IsField}
use Rattle.cm_types.proofs.Recorded.{AreFlat, flat_more, flat_in_use, record_fits}
use Rattle.cm_types.proofs.TypedParts.{BoolFirst, type_sound}
use Rattle.cm_types.proofs.TypedRoutines.{names_in}

module _ (t : Tables) (m b : ℕ) (has_bool : BoolFirst t) (few : m ≤ length t.records) (s : Scope)
    (f : ScopeFits t m b s) where
  -- a field that stands among parts
  abbrev pub FieldAt : List ModelPart → Entry → Type 0
  FieldAt ps (entry.Field i o) =
      (g : Flat) × (p : ModelPart) × (o ≡ Some g) × IsFlat t m g × (slice_get ps i ≡ Some p) × (p.ty ≡ ty_of_flat g)
      × (ltb i width_limit ≡ true)
  FieldAt ps _ = ⊥

  pub record FieldsOf (q : Params) (fields : Names) : Type 0 where
    pub flats : AreFlat t m q.types q.parts
    pub entries : Each (λ e. FieldAt q.parts e.1) fields
    pub names : map (λ e. e.0) fields ≡ part_names q.parts
    pub distinct : are_distinct (part_names q.parts) ≡ true

  field_still : (ps : List ModelPart) (p : ModelPart) (e : Entry) → FieldAt ps e → FieldAt (ps ++ p ∷ []) e
  field_still ps p (entry.Field i o) h = (h.0, h.1, h.2, h.3, still_at ps (p ∷ []) i h.1 h.4, h.5, h.6)
  field_still ps p (entry.Sort n) h = absurd h
  field_still ps p (entry.Int n) h = absurd h
  field_still ps p (entry.Enum n) h = absurd h
  field_still ps p (entry.Variant e i) h = absurd h
  field_still ps p (entry.Record r o os) h = absurd h
  field_still ps p (entry.Cell c o) h = absurd h
  field_still ps p (entry.Map c k o) h = absurd h
  field_still ps p (entry.Function k os o) h = absurd h
  field_still ps p entry.Unusable h = absurd h
  field_still ps p (entry.Local i o) h = absurd h

  one_field : (at : Place) (q : Params) (p : Part) (fields : Names) → FieldsOf q fields
      → (field_told at q p s fields).1 ≡ []
      → FieldsOf (field_told at q p s fields).0.0 (field_told at q p s fields).0.1
  one_field at q p fields k h =
      let o = (type_told p.value s.names).0 in
      let a = no_more (rule (not (is_taken p.name fields)) rules.taken p.at).1 _ h in
      let c = no_more (rule (ltb (length fields) width_limit) rules.wide at).1 _ a.1 in
      let e = no_more (type_told p.value s.names).1 [] c.1 in
      let new = not_true (is_taken p.name fields) (holds (not (is_taken p.name fields)) rules.taken p.at a.0) in
      let x = type_sound t m b has_bool few p.value s.names f.names e.0 in
      let part = model_part p.name o in
      let ty_is : part.ty ≡ ty_of_flat x.0 = ap ty_of x.1 in
      let grown : part_names (q.parts ++ part ∷ []) ≡ part_names q.parts ++ p.name ∷ [] =
      map_more (λ (z : ModelPart). z.name) q.parts part in
      let absent : is_among p.name (part_names q.parts) ≡ false = sym (taken_is p.name fields
      ∙ ap (is_among p.name) k.names) ∙ new in
      let still : part_names q.parts ++ [] ≡ part_names q.parts = append-nil (part_names q.parts) in
      let count : length fields ≡ length q.parts =
      sym (length_map (λ (e : List ℕ × Entry). e.0) fields) ∙ ap length k.names
      ∙ length_map (λ (z : ModelPart). z.name) q.parts in
      let here : slice_get (q.parts ++ part ∷ []) (length fields) ≡ Some part =
      ap (slice_get (q.parts ++ part ∷ [])) count ∙ stands_behind q.parts part [] in
      record {
        flats = flat_more t m q.types q.parts o part x.0 k.flats x.1 ty_is x.2;
        entries =
            each_more (λ (e : List ℕ × Entry). FieldAt (q.parts ++ part ∷ []) e.1) fields
            (p.name, entry.Field (length fields) o)
            (each_as (λ (e : List ℕ × Entry). FieldAt q.parts e.1) (λ e. FieldAt (q.parts ++ part ∷ []) e.1)
            (λ z h. field_still q.parts part z.1 h) fields k.entries)
            (x.0, part, x.1, x.2, here, ty_is, holds (ltb (length fields) width_limit) rules.wide at c.0);
        names = map_more (λ (e : List ℕ × Entry). e.0) fields (p.name, entry.Field (length fields) o)
            ∙ ap (λ ns. ns ++ p.name ∷ []) k.names ∙ sym grown;
        distinct = ap are_distinct grown
            ∙ distinct_more p.name (part_names q.parts) [] (ap are_distinct still ∙ k.distinct)
            (ap (is_among p.name) still ∙ absent);
      }

  pub fields_fit : (at : Place) (ps : List Part) (q : Params) (fields : Names) → FieldsOf q fields
      → (fields_told at q ps s fields).1 ≡ []
      → FieldsOf (fields_told at q ps s fields).0.0 (fields_told at q ps s fields).0.1
      × (part_names (fields_told at q ps s fields).0.0.parts ≡ part_names q.parts ++ names_in ps)
  fields_fit at [] q fields k h = (k, sym (append-nil (part_names q.parts)))
  fields_fit at (p ∷ ps) q fields k h =
      let x = (field_told at q p s fields).0 in
      let a = no_more (field_told at q p s fields).1 _ h in
      let rest = fields_fit at ps x.0 x.1 (one_field at q p fields k a.0) a.1 in (
        rest.0,
        rest.1 ∙ ap (λ ns. ns ++ names_in ps) (map_more (λ (z : ModelPart). z.name) q.parts
            (model_part p.name (type_told p.value s.names).0))
            ∙ append_assoc (part_names q.parts) (p.name ∷ []) (names_in ps),
      )

  pub no_fields : FieldsOf no_params []
  no_fields = record { flats = tt; entries = tt; names = refl; distinct = refl }

-- A record in its table

field_there : (t : Tables) (r : ℕ) (d : RecDecl) → slice_get t.records r ≡ Some d → (i : ℕ) (p : ModelPart)
    → slice_get d.fields i ≡ Some p
    → kinds.field_of t (ty.Rec r) i ≡ Some p.ty
field_there t r d at i p h =
    ap (λ x. kinds.given (kinds.fields_in t x) (λ fields. option_map (λ (p : ModelPart). p.ty) (slice_get fields i)))
    (out_base (base.Record r))
    ∙ ap (λ o. kinds.given (option_map (λ (d : RecDecl). d.fields) o) (λ fields. option_map (λ (p : ModelPart). p.ty)
    (slice_get fields i))) at
    ∙ ap (option_map (λ (p : ModelPart). p.ty)) h

pub entries_fit : (t : Tables) (m n b : ℕ) (has_bool : BoolFirst t) (few : m ≤ length t.records) (s : Scope)
    (f : ScopeFits t m b s) → m ≤ n
    → (r : ℕ) (d : RecDecl) → slice_get t.records r ≡ Some d → (e : Entry) → FieldAt t m b has_bool few s f d.fields e
    → IsField t n b r e
entries_fit t m n b has_bool few s f le r d at (entry.Field i o) h =
    (h.0, h.2, wider t m n le h.0 h.3, field_there t r d at i h.1 h.4 ∙ ap Some h.5, h.6)
entries_fit t m n b has_bool few s f le r d at (entry.Sort k) h = absurd h
entries_fit t m n b has_bool few s f le r d at (entry.Int k) h = absurd h
entries_fit t m n b has_bool few s f le r d at (entry.Enum k) h = absurd h
entries_fit t m n b has_bool few s f le r d at (entry.Variant e i) h = absurd h
entries_fit t m n b has_bool few s f le r d at (entry.Record q o os) h = absurd h
entries_fit t m n b has_bool few s f le r d at (entry.Cell c o) h = absurd h
entries_fit t m n b has_bool few s f le r d at (entry.Map c k o) h = absurd h
entries_fit t m n b has_bool few s f le r d at (entry.Function k os o) h = absurd h
entries_fit t m n b has_bool few s f le r d at entry.Unusable h = absurd h
entries_fit t m n b has_bool few s f le r d at (entry.Local i o) h = absurd h

-- the declaration is well typed
pub record_is : (t : Tables) (xs : List RecDecl) (d : RecDecl) → GoesOn (xs ++ d ∷ []) t.records
    → length xs ≤ length t.records
    → suc (length xs) ≤ length t.records → (os : List (Option Flat)) → AreFlat t (length xs) os d.fields
    → is_small (widths_of os + 1) (integers_of os) ≡ true → leb 1 (length d.fields) ≡ true
    → are_distinct (part_names d.fields) ≡ true → list_all is_name (part_names d.fields) ≡ true
    → well.is_record t (length xs) d ≡ true
record_is t xs d g few most os h small some distinct names =
    let r = length xs in
    let f = record_flat r os in
    let fields = list_all (λ (p : ModelPart). is_type_before t r p.ty && is_type_in_use t p.ty) d.fields in
    let used = in_use t (suc r) f (record_fits t xs d g os h small) most in
    and_from (leb 1 (length d.fields)) _ some
    (and_from fields _ (flat_in_use t r few os d.fields h)
    (and_from (are_distinct (part_names d.fields) && list_all is_name (part_names d.fields))
    (is_type_in_use t (ty.Rec r))
    (and_from (are_distinct (part_names d.fields)) (list_all is_name (part_names d.fields)) distinct names) used))
