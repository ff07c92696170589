-- Kinds of a checked expression's parts, beside those that tables give it.
use Rattle.std.proofs.Common.{◌≡◌, ℕ, ◌+◌, ◌≤◌, ◌==◌, ◌&&◌, true, [], length, slice_get, Option, Some, None, refl, sym}
use Rattle.std.proofs.Common.{ap, ◌∙◌, subst}
use Rattle.std.proofs.lemmas.Bool.{lt-ltb}
use Rattle.std.proofs.lemmas.Option.{slice_get_within}
use Rattle.cm_model.specs.Tables.{Tables}
use Rattle.cm_model.specs.Kinds as kinds
use Rattle.cm_model.specs.Types.{is_type_in_use}
use Rattle.cm_model.specs.declared.place.Place.{Place}
use Rattle.cm_model.specs.declared.ty.EnumDecl.{EnumDecl}
use Rattle.cm_model.specs.declared.body.Expr.{Expr as Made}
use Rattle.cm_syntax.specs.declared.tree.«Type».{«Type» as TypeTree}
use Rattle.cm_syntax.specs.declared.tree.«Type».TheOpen as type_layer
use Rattle.cm_typing.specs.declared.flat.Base.{Base}
use Rattle.cm_typing.specs.declared.flat.Base.TheVariants as base
use Rattle.cm_typing.specs.declared.flat.Flat.{Flat}
use Rattle.cm_typing.specs.declared.flat.Kind.{Kind}
use Rattle.cm_typing.specs.declared.flat.Kind.TheVariants as kind
use Rattle.cm_typing.specs.declared.names.Entry.{Entry}
use Rattle.cm_typing.specs.declared.names.Entry.TheVariants as entry
use Rattle.cm_typing.specs.declared.told.Typed.{Typed}
use Rattle.cm_typing.specs.Told.{rule}
use Rattle.cm_typing.specs.Names.{Names, look}
use Rattle.cm_typing.specs.Rules as rules
use Rattle.cm_typing.specs.Flats.{same_base, same_flat, width_of, is_small, bool_flat, bool_kind, is_value, is_bool}
use Rattle.cm_typing.specs.Flats.{is_integer, agree, wanted, option_flat, option_of, ty_of_flat, sort_flat, int_flat}
use Rattle.cm_typing.specs.Flats.{enum_flat}
use Rattle.cm_typing.specs.Types.{type_named, type_step, type_told}
use Rattle.cm_typing.specs.Expressions.{typed}
use Rattle.cm_types.proofs.Items.{no_more, holds, nat_sym}
use Rattle.cm_types.proofs.Deepening.{same_deep, integer_deep, option_deep}
use Rattle.cm_types.proofs.Measured.{IsFlat, in_use, option_fits, sort_fits, int_fits, enum_fits}
use Rattle.cm_types.proofs.Standing.{types_in, Fits, FitsEntry, IsThere, looked}
use Rattle.cm_types.proofs.StmtRules.{TypeMeaning, HeldType, bare_type, type_keeps}

base_sym : (a b : Base) → same_base a b ≡ same_base b a
base_sym (base.Sort m) (base.Sort n) = nat_sym m n
base_sym (base.Sort m) (base.Int n) = refl
base_sym (base.Sort m) (base.Enum n) = refl
base_sym (base.Sort m) (base.Record n) = refl
base_sym (base.Int m) (base.Sort n) = refl
base_sym (base.Int m) (base.Int n) = nat_sym m n
base_sym (base.Int m) (base.Enum n) = refl
base_sym (base.Int m) (base.Record n) = refl
base_sym (base.Enum m) (base.Sort n) = refl
base_sym (base.Enum m) (base.Int n) = refl
base_sym (base.Enum m) (base.Enum n) = nat_sym m n
base_sym (base.Enum m) (base.Record n) = refl
base_sym (base.Record m) (base.Sort n) = refl
base_sym (base.Record m) (base.Int n) = refl
base_sym (base.Record m) (base.Enum n) = refl
base_sym (base.Record m) (base.Record n) = nat_sym m n

pub flat_sym : (f g : Flat) → same_flat f g ≡ same_flat g f
flat_sym f g =
    ap (λ c. c && (f.options == g.options)) (base_sym f.base g.base) ∙ ap (λ c. same_base g.base f.base && c)
    (nat_sym f.options g.options)

-- enum 0 is there, with two variants
abbrev pub BoolFirst : Tables → Type 0
BoolFirst t = (d : EnumDecl) × (slice_get t.enums 0 ≡ Some d) × (length d.variants ≡ 2)

-- what tables have of a kind
abbrev pub kind_in : Kind → kinds.Kind
kind_in kind.Number = kinds.Number
kind_in (kind.Of f) = kinds.Of (ty_of_flat f)

module _ (t : Tables) (m b : ℕ) where
  abbrev pub kind_at : Names → Made → Option kinds.Kind
  kind_at l = kinds.kind_of (kinds.scope t b (types_in l))

  abbrev pub IsKind : Kind → Type 0
  IsKind kind.Number = Unit {0}
  IsKind (kind.Of f) = IsFlat t m f

  -- it has a kind, and tables give it the same
  abbrev pub IsTyped : Names → Typed → Type 0
  IsTyped l v = (k : Kind) × (v.kind ≡ Some k) × IsKind k × (kind_at l v.expr ≡ Some (kind_in k))

  -- a value
  abbrev pub IsOf : Names → Typed → Type 0
  IsOf l v = (f : Flat) × (v.kind ≡ Some (kind.Of f)) × IsFlat t m f
      × (kind_at l v.expr ≡ Some (kinds.Of (ty_of_flat f)))

  pub value_is : (l : Names) (v : Typed) → IsTyped l v → is_value v.kind ≡ true → IsOf l v
  value_is l v h so = by h.0 h.1 h.2 h.3
    where
      by : (k : Kind) → v.kind ≡ Some k → IsKind k → kind_at l v.expr ≡ Some (kind_in k) → IsOf l v
      by kind.Number e g at = absurd (let x : is_value (Some kind.Number) ≡ true = sym (ap is_value e) ∙ so in cc)
      by (kind.Of f) e g at = (f, e, g, at)

  pub integer_is : (l : Names) (v : Typed) → IsTyped l v → is_integer v.kind ≡ true → kinds.is_integer
      (kind_at l v.expr) ≡ true
  integer_is l v h so = by h.0 h.1 h.3
    where
      by : (k : Kind) → v.kind ≡ Some k → kind_at l v.expr ≡ Some (kind_in k) → kinds.is_integer (kind_at l v.expr)
          ≡ true
      by kind.Number e at = ap kinds.is_integer at
      by (kind.Of f) e at = ap kinds.is_integer at ∙ integer_deep f ∙ sym (ap is_integer e) ∙ so

  pub bool_is : (l : Names) (v : Typed) → IsTyped l v → is_bool v.kind ≡ true → kinds.is_bool (kind_at l v.expr) ≡ true
  bool_is l v h so = by h.0 h.1 h.3
    where
      by : (k : Kind) → v.kind ≡ Some k → kind_at l v.expr ≡ Some (kind_in k) → kinds.is_bool (kind_at l v.expr) ≡ true
      by kind.Number e at = absurd (let x : is_bool (Some kind.Number) ≡ true = sym (ap is_bool e) ∙ so in cc)
      by (kind.Of f) e at =
          ap kinds.is_bool at ∙ same_deep f bool_flat ∙ flat_sym f bool_flat ∙ sym (ap is_bool e) ∙ so

  pub wanted_is : (l : Names) (want : Option Flat) (at : Place) (v : Typed) (f : Flat) → want ≡ Some f → IsTyped l v
      → (wanted want at v.kind).1 ≡ [] → kinds.is_of (ty_of_flat f) (kind_at l v.expr) ≡ true
  wanted_is l want at v f e h so =
      let p = no_more (rule (is_value v.kind) rules.number at).1 _ so in
      let x = value_is l v h (holds (is_value v.kind) rules.number at p.0) in
      let same : same_flat f x.0 ≡ true =
      sym (ap (λ w. agree w v.kind) e ∙ ap (agree (Some f)) x.1) ∙ holds (agree want v.kind) rules.types at p.1 in
      ap (kinds.is_of (ty_of_flat f)) x.3 ∙ same_deep x.0 f ∙ flat_sym x.0 f ∙ same

  module _ (few : m ≤ length t.records) where
    -- the option of a type
    pub option_is : (at : Place) (o : Option Flat) (f : Flat) → o ≡ Some f → IsFlat t m f → (option_of at o).1 ≡ []
        → ((option_of at o).0 ≡ Some (option_flat f)) × IsFlat t m (option_flat f)
        × (kinds.option_kind t (ty_of_flat f) ≡ Some (kinds.Of (ty_of_flat (option_flat f))))
    option_is at None f e h so = absurd cc
    option_is at (Some g) f e h so =
        let same : g ≡ f = cc in
        let p = no_more (rule (is_small (width_of g + 1) g.integers) rules.wide at).1 _ so in
        let small = subst (λ x. is_small (width_of x + 1) x.integers ≡ true) same (holds _ rules.wide at p.0) in
        let fits = option_fits t m f h small in
        let u = ty_of_flat (option_flat f) in
        let used : is_type_in_use t u ≡ true = in_use t m (option_flat f) fits few in
        let whole : kinds.if_so (is_type_in_use t u) (kinds.Of u) ≡ Some (kinds.Of u) =
        ap (λ c. kinds.if_so c (kinds.Of u)) used in (
          ap (λ x. Some (option_flat x)) same,
          fits,
          subst (λ w. kinds.if_so (is_type_in_use t w) (kinds.Of w) ≡ Some
              (kinds.Of u)) (option_deep f) whole,
        )

  module _ (has_bool : BoolFirst t) where
    pub bool_fits : IsFlat t m bool_flat
    bool_fits = enum_fits t m 0 (lt-ltb 0 (length t.enums) (slice_get_within t.enums 0 has_bool.0 has_bool.1))

    pub bool_typed : (l : Names) (at : Place) (e : Made) → kind_at l e ≡ Some (kinds.Of kinds.bool_ty)
        → IsTyped l (typed at e bool_kind)
    bool_typed l at e h = (kind.Of bool_flat, refl, bool_fits, h)

    -- Types that are written

    abbrev SoundType : TypeMeaning → Type 0
    SoundType n = (d : Names) → Fits t m b [] d → (n d).1 ≡ [] → IsThere t m b (n d).0

    named_sound : (at : Place) (e : Entry) → FitsEntry t m b [] e → (type_named at (Some e)).1 ≡ []
        → IsThere t m b (type_named at (Some e)).0
    named_sound at (entry.Sort n) g h = (sort_flat n, refl, sort_fits t m n g)
    named_sound at (entry.Int n) g h = (int_flat n, refl, int_fits t m n g)
    named_sound at (entry.Enum n) g h = (enum_flat n, refl, enum_fits t m n g)
    named_sound at (entry.Record r o os) g h = (g.0, g.2, g.3)
    named_sound at (entry.Variant e i) g h = absurd cc
    named_sound at (entry.Cell c o) g h = absurd cc
    named_sound at (entry.Map c k o) g h = absurd cc
    named_sound at (entry.Function k os o) g h = absurd cc
    named_sound at entry.Unusable g h = absurd cc
    named_sound at (entry.Local i o) g h = absurd cc
    named_sound at (entry.Field i o) g h = absurd cc

    type_step_sound : m ≤ length t.records → (y : type_layer.Type-F (HeldType SoundType))
        → SoundType (type_step (bare_type SoundType y))
    type_step_sound few (type_layer.Bool at) d f h = (bool_flat, refl, bool_fits)
    type_step_sound few (type_layer.Named at n) d f h = by (look n d) refl h
      where
        by : (o : Option Entry) → look n d ≡ o → (type_named at o).1 ≡ [] → IsThere t m b (type_named at o).0
        by (Some e) at_name h = named_sound at e (looked (FitsEntry t m b []) n d f e at_name) h
        by None at_name h = absurd cc
    type_step_sound few (type_layer.Optional at n) d f h =
        let p = no_more (n.0 d).1 (option_of at (n.0 d).0).1 h in
        let s = n.1 d f p.0 in
        let o = option_is few at (n.0 d).0 s.0 s.1 s.2 p.1 in
        (option_flat s.0, o.0, o.1)

    pub type_sound : m ≤ length t.records → (x : TypeTree) → SoundType (type_told x)
    type_sound few = type_keeps SoundType (type_step_sound few)
