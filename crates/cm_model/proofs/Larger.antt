-- What tables have by its number they have after more is declared: widths, integers, types in use, kinds, weights.
use Rattle.std.proofs.Common.{◌≡◌, ℕ, zero, suc, ◌+◌, ◌<◌, ◌≤◌, ltb, leb, Bool, true, false, not, ◌&&◌, List, [], ◌∷◌}
use Rattle.std.proofs.Common.{◌++◌, map, length, sum, Option, Some, None, is_some, slice_get, refl, sym, ap, ◌∙◌, subst}
use Rattle.std.proofs.Common.{if◌then◌else◌, append_assoc, arith}
use Rattle.std.specs.Prelude.{option_map}
use Rattle.std.specs.List.{list_all}
use Rattle.std.proofs.lemmas.List.{append-nil, length-append}
use Rattle.std.proofs.lemmas.Bool.{and_parts, and_from, ltb-true, lt-ltb}
use Rattle.cm_model.specs.Tables.{Tables}
use Rattle.cm_model.specs.Types.{or_else, record_values, ty_step, is_type_before, width_step, width_in, widths}
use Rattle.cm_model.specs.Types.{width_of, integers_step, integers_in, record_integers, integers_of, is_type_in_use}
use Rattle.cm_model.specs.Kinds.{Kind, Number, Of, Set, scope, given, if_so, is_bool, is_integer, is_of, bool_ty}
use Rattle.cm_model.specs.Kinds.{type_of, are_of, is_named, fields_of, fields_in, field_of, type_at, are_sets, is_key}
use Rattle.cm_model.specs.Kinds.{are_comparable, option_kind, kind_step, set_step, kind_of}
use Rattle.cm_model.specs.Weights.{weights_from, fun_weights, body_weight}
use Rattle.cm_model.specs.Limits.{width_limit, integer_limit, is_number}
use Rattle.cm_model.specs.declared.ty.Ty.{Ty, out-Ty}
use Rattle.cm_model.specs.declared.ty.Ty.TheVariants as ty
use Rattle.cm_model.specs.declared.ty.Ty.TheViews.{roll-Ty}
use Rattle.cm_model.specs.declared.ty.Ty.TheOpen.{Ty-F}
use Rattle.cm_model.specs.declared.ty.Ty.TheFolds.{fold-roll-Ty, ind-Ty, map-Ty}
use Rattle.cm_model.specs.declared.ty.RecDecl.{RecDecl}
use Rattle.cm_model.specs.declared.ty.Part.{Part}
use Rattle.cm_model.specs.declared.ty.EnumDecl.{EnumDecl}
use Rattle.cm_model.specs.declared.body.StateDecl.{StateDecl}
use Rattle.cm_model.specs.declared.body.Call.{Call}
use Rattle.cm_model.specs.declared.body.SetField.{SetField, fold-SetField, out-SetField, roll-out-SetField}
use Rattle.cm_model.specs.declared.body.SetField.{fold-roll-SetField}
use Rattle.cm_model.specs.declared.body.Expr.{Expr}
use Rattle.cm_model.specs.declared.body.Expr.TheViews.{roll-Expr}
use Rattle.cm_model.specs.declared.body.Expr.TheOpen.{Expr-F}
use Rattle.cm_model.specs.declared.body.Expr.TheFolds.{fold-roll-Expr, ind-Expr, map-Expr}
use Rattle.cm_model.proofs.KindParts.{chosen, given_some, typed_kind, value_part, bool_part, integer_part, key_part}
use Rattle.cm_model.proofs.KindParts.{compared}

-- the longer list has what stands in the shorter one
pub still_there : {X : Type 0} (xs ys : List X) (i : ℕ) (x : X) → slice_get xs i ≡ Some x
    → slice_get (xs ++ ys) i ≡ Some x
still_there [] ys i x at = absurd (cc)
still_there (y ∷ xs) ys zero x at = at
still_there (y ∷ xs) ys (suc i) x at = still_there xs ys i x at

same_place : {X : Type 0} (xs ys : List X) (i : ℕ) → i < length xs → slice_get (xs ++ ys) i ≡ slice_get xs i
same_place [] ys i lt = absurd (omega arith)
same_place (x ∷ xs) ys zero lt = refl
same_place (x ∷ xs) ys (suc i) lt = same_place xs ys i (omega arith)

module _ {X : Type 0} (f : List X → RecDecl → X) where
  -- the values of records come after those of the records before them
  more_values : (before : List X) (rs : List RecDecl) → (more : List X) × (record_values f before rs ≡ before ++ more)
      × (length more ≡ length rs)
  more_values before [] = ([], sym (append-nil before), refl)
  more_values before (r ∷ rs) =
      let rest = more_values (before ++ f before r ∷ []) rs in
      (f before r ∷ rest.0, rest.1 ∙ append_assoc before (f before r ∷ []) rest.0, ap suc rest.2)

  in_two : (before : List X) (rs more : List RecDecl) → record_values f before (rs ++ more) ≡ record_values
      f (record_values f before rs) more
  in_two before [] more = refl
  in_two before (r ∷ rs) more = in_two (before ++ f before r ∷ []) rs more

  pub count_values : (rs : List RecDecl) → length (record_values f [] rs) ≡ length rs
  count_values rs = let m = more_values [] rs in ap length m.1 ∙ m.2

  -- the first records have what they had
  pub values_kept : (rs more : List RecDecl) (r : ℕ) → r < length rs
      → slice_get (record_values f [] (rs ++ more)) r ≡ slice_get (record_values f [] rs) r
  values_kept rs more r lt =
      let m = more_values (record_values f [] rs) more in
      ap (λ vs. slice_get vs r) (in_two [] rs more ∙ m.1)
      ∙ same_place (record_values f [] rs) m.0 r (omega (arith, lt, count_values rs))

pub widths_kept : (rs more : List RecDecl) (r : ℕ) → r < length rs → slice_get (widths (rs ++ more)) r
    ≡ slice_get (widths rs) r
widths_kept = values_kept (λ records r. 1 + sum (map (λ p. width_in records p.ty) r.fields))

pub integers_kept : (rs more : List RecDecl) (r : ℕ) → r < length rs
    → slice_get (record_integers (rs ++ more)) r ≡ slice_get (record_integers rs) r
integers_kept = values_kept (λ records r. sum (map (λ p. integers_in records p.ty) r.fields))

-- a type of the first n records, by the values that these records have
module _ (t : Tables) (n : ℕ) (vs ws : List ℕ) (same : (r : ℕ) → r < n → slice_get vs r ≡ slice_get ws r) where
  abbrev Known : (Ty → Type 0) → Type 0
  Known Q = (u : Ty) × Q u

  abbrev SameWidth : Ty → Type 0
  SameWidth u = is_type_before t n u ≡ true → width_in vs u ≡ width_in ws u

  abbrev before_at : Ty-F (Known SameWidth) → Bool
  before_at y = ty_step t n (map-Ty Ty Bool (is_type_before t n) (map-Ty (Known SameWidth) Ty (λ k. k.0) y))

  width_layer : (y : Ty-F (Known SameWidth)) → before_at y ≡ true
      → width_step vs (map-Ty Ty ℕ (width_in vs) (map-Ty (Known SameWidth) Ty (λ k. k.0) y))
      ≡ width_step ws (map-Ty Ty ℕ (width_in ws) (map-Ty (Known SameWidth) Ty (λ k. k.0) y))
  width_layer (Ty-F.Sort s) h = refl
  width_layer (Ty-F.Int i) h = refl
  width_layer (Ty-F.Enum e) h = refl
  width_layer (Ty-F.Rec r) h = ap (or_else 0) (same r (ltb-true r n h))
  width_layer (Ty-F.Option k) h = ap (λ m. 1 + m) (k.1 h)

  width_rolled : (x : Ty-F Ty) → (ty_step t n (map-Ty Ty Bool (is_type_before t n) x) ≡ true
      → width_step vs (map-Ty Ty ℕ (width_in vs) x) ≡ width_step ws (map-Ty Ty ℕ (width_in ws) x))
      → SameWidth (roll-Ty x)
  width_rolled x one h =
      fold-roll-Ty ℕ (width_step vs) x ∙ one (sym (fold-roll-Ty Bool (ty_step t n) x) ∙ h)
      ∙ sym (fold-roll-Ty ℕ (width_step ws) x)

  pub same_width : (u : Ty) → SameWidth u
  same_width = ind-Ty SameWidth (λ x y is. subst (λ z. SameWidth (roll-Ty z)) is
      (width_rolled (map-Ty (Known SameWidth) Ty (λ k. k.0) y) (width_layer y)))

  abbrev SameIntegers : Ty → Type 0
  SameIntegers u = is_type_before t n u ≡ true → integers_in vs u ≡ integers_in ws u

  integers_layer : (y : Ty-F (Known SameIntegers))
      → ty_step t n (map-Ty Ty Bool (is_type_before t n) (map-Ty (Known SameIntegers) Ty (λ k. k.0) y)) ≡ true
      → integers_step vs (map-Ty Ty ℕ (integers_in vs) (map-Ty (Known SameIntegers) Ty (λ k. k.0) y))
      ≡ integers_step ws (map-Ty Ty ℕ (integers_in ws) (map-Ty (Known SameIntegers) Ty (λ k. k.0) y))
  integers_layer (Ty-F.Sort s) h = refl
  integers_layer (Ty-F.Int i) h = refl
  integers_layer (Ty-F.Enum e) h = refl
  integers_layer (Ty-F.Rec r) h = ap (or_else 0) (same r (ltb-true r n h))
  integers_layer (Ty-F.Option k) h = k.1 h

  integers_rolled : (x : Ty-F Ty) → (ty_step t n (map-Ty Ty Bool (is_type_before t n) x) ≡ true
      → integers_step vs (map-Ty Ty ℕ (integers_in vs) x) ≡ integers_step ws (map-Ty Ty ℕ (integers_in ws) x))
      → SameIntegers (roll-Ty x)
  integers_rolled x one h =
      fold-roll-Ty ℕ (integers_step vs) x ∙ one (sym (fold-roll-Ty Bool (ty_step t n) x) ∙ h)
      ∙ sym (fold-roll-Ty ℕ (integers_step ws) x)

  pub same_integers : (u : Ty) → SameIntegers u
  same_integers = ind-Ty SameIntegers (λ x y is. subst (λ z. SameIntegers (roll-Ty z)) is
      (integers_rolled (map-Ty (Known SameIntegers) Ty (λ k. k.0) y) (integers_layer y)))

-- the weights of the first functions
more_weights : (before : List ℕ) (fs : List Call) → (more : List ℕ) × (weights_from before fs ≡ before ++ more)
    × (length more ≡ length fs)
more_weights before [] = ([], sym (append-nil before), refl)
more_weights before (f ∷ fs) =
    let rest = more_weights (before ++ body_weight before f.body ∷ []) fs in (
      body_weight before f.body ∷ rest.0,
      rest.1 ∙ append_assoc before (body_weight before f.body ∷ []) rest.0,
      ap suc rest.2,
    )

weights_in_two : (before : List ℕ) (fs more : List Call) → weights_from before (fs ++ more) ≡ weights_from
    (weights_from before fs) more
weights_in_two before [] more = refl
weights_in_two before (f ∷ fs) more = weights_in_two (before ++ body_weight before f.body ∷ []) fs more

pub weights_kept : (fs more : List Call) (i : ℕ) → i < length fs → slice_get (fun_weights (fs ++ more)) i
    ≡ slice_get (fun_weights fs) i
weights_kept fs more i lt =
    let m = more_weights (fun_weights fs) more in
    let count = more_weights [] fs in
    ap (λ vs. slice_get vs i) (weights_in_two [] fs more ∙ m.1)
    ∙ same_place (fun_weights fs) m.0 i (omega (arith, lt, ap length count.1, count.2))

abbrev pub Extends : {X : Type 0} → List X → List X → Type 0
Extends {X} xs ys = (more : List X) × (ys ≡ xs ++ more)

has_still : {X : Type 0} (xs ys : List X) → Extends xs ys → (i : ℕ) (x : X) → slice_get xs i ≡ Some x
    → slice_get ys i ≡ Some x
has_still xs ys e i x at = ap (λ zs. slice_get zs i) e.1 ∙ still_there xs e.0 i x at

as_many : {X : Type 0} (xs ys : List X) → Extends xs ys → length xs ≤ length ys
as_many xs ys e = let n = ap length e.1 ∙ length-append xs e.0 in omega (arith, n)

-- the second tables declare what the first ones do, and more
pub record IsLarger (t u : Tables) : Type 0 where
  pub sorts : Extends t.sorts u.sorts
  pub ints : Extends t.ints u.ints
  pub enums : Extends t.enums u.enums
  pub records : Extends t.records u.records
  pub states : Extends t.states u.states
  pub funs : Extends t.funs u.funs

module _ (t u : Tables) (larger : IsLarger t u) where
  below : (i m n : ℕ) → ltb i m ≡ true → m ≤ n → ltb i n ≡ true
  below i m n h le = lt-ltb i n (omega (arith, ltb-true i m h, le))

  module _ (m n : ℕ) (le : m ≤ n) where
    abbrev StillBefore : Ty → Type 0
    StillBefore v = is_type_before t m v ≡ true → is_type_before u n v ≡ true

    abbrev KnownTy : Type 0
    KnownTy = (v : Ty) × StillBefore v

    before_layer : (y : Ty-F KnownTy)
        → ty_step t m (map-Ty Ty Bool (is_type_before t m) (map-Ty KnownTy Ty (λ k. k.0) y)) ≡ true
        → ty_step u n (map-Ty Ty Bool (is_type_before u n) (map-Ty KnownTy Ty (λ k. k.0) y)) ≡ true
    before_layer (Ty-F.Sort s) h = below s (length t.sorts) (length u.sorts) h (as_many t.sorts u.sorts larger.sorts)
    before_layer (Ty-F.Int i) h = below i (length t.ints) (length u.ints) h (as_many t.ints u.ints larger.ints)
    before_layer (Ty-F.Enum e) h = below e (length t.enums) (length u.enums) h (as_many t.enums u.enums larger.enums)
    before_layer (Ty-F.Rec r) h = below r m n h le
    before_layer (Ty-F.Option k) h = k.1 h

    before_rolled : (x : Ty-F Ty) → (ty_step t m (map-Ty Ty Bool (is_type_before t m) x) ≡ true
        → ty_step u n (map-Ty Ty Bool (is_type_before u n) x) ≡ true) → StillBefore (roll-Ty x)
    before_rolled x one h = fold-roll-Ty Bool (ty_step u n) x ∙ one (sym (fold-roll-Ty Bool (ty_step t m) x) ∙ h)

    pub still_before : (v : Ty) → StillBefore v
    still_before = ind-Ty StillBefore (λ x y is. subst (λ z. StillBefore (roll-Ty z)) is
        (before_rolled (map-Ty KnownTy Ty (λ k. k.0) y) (before_layer y)))

  same_values : {X : Type 0} (f : List RecDecl → List X) → ((rs more : List RecDecl) (r : ℕ) → r < length rs
      → slice_get (f (rs ++ more)) r ≡ slice_get (f rs) r)
      → (r : ℕ) → r < length t.records → slice_get (f t.records) r ≡ slice_get (f u.records) r
  same_values f kept r lt = sym (ap (λ rs. slice_get (f rs) r) larger.records.1 ∙ kept t.records larger.records.0 r lt)

  -- a declared type has the width and the integers that it had
  pub width_kept : (v : Ty) → is_type_before t (length t.records) v ≡ true → width_of u v ≡ width_of t v
  width_kept v h = sym (same_width t (length t.records) (widths t.records) (widths u.records)
      (same_values widths widths_kept) v h)

  pub integers_still : (v : Ty) → is_type_before t (length t.records) v ≡ true → integers_of u v ≡ integers_of t v
  integers_still v h = sym (same_integers t (length t.records) (record_integers t.records) (record_integers u.records)
      (same_values record_integers integers_kept) v h)

  -- a type in use stays one
  pub still_in_use : (v : Ty) → is_type_in_use t v ≡ true → is_type_in_use u v ≡ true
  still_in_use v h =
      let parts = and_parts (is_type_before t (length t.records) v) (leb (width_of t v) width_limit
      && leb (integers_of t v) integer_limit) h in
      let before = still_before (length t.records) (length u.records) (as_many t.records u.records larger.records)
      v parts.0 in
      and_from (is_type_before u (length u.records) v) (leb (width_of u v) width_limit
      && leb (integers_of u v) integer_limit) before
      (rw (width_kept v parts.0, integers_still v parts.0) parts.1)

  fields_still : (v : Ty) (ps : List Part) → fields_of t v ≡ Some ps → fields_of u v ≡ Some ps
  fields_still v ps h = by (out-Ty v) h
    where
      by : (x : Ty-F Ty) → fields_in t x ≡ Some ps → fields_in u x ≡ Some ps
      by (Ty-F.Rec r) e = found (slice_get t.records r) refl e
        where
          found : (o : Option RecDecl) → slice_get t.records r ≡ o → option_map (λ (d : RecDecl). d.fields) o ≡ Some ps
              → option_map (λ (d : RecDecl). d.fields) (slice_get u.records r) ≡ Some ps
          found (Some d) at e = ap (option_map (λ (d : RecDecl). d.fields)) (has_still t.records u.records
              larger.records r d at) ∙ e
          found None at e = absurd (cc)
      by (Ty-F.Sort s) e = absurd (cc)
      by (Ty-F.Int i) e = absurd (cc)
      by (Ty-F.Enum n) e = absurd (cc)
      by (Ty-F.Option w) e = absurd (cc)

  pub field_still : (v w : Ty) (i : ℕ) → field_of t v i ≡ Some w → field_of u v i ≡ Some w
  field_still v w i h =
      let ps = given_some (fields_of t v) _ w h in
      ap (λ o. given o (λ qs. option_map (λ (p : Part). p.ty) (slice_get qs i))) (fields_still v ps.0 ps.1) ∙ ps.2

  path_still : (path : List ℕ) (v w : Ty) → type_at t v path ≡ Some w → type_at u v path ≡ Some w
  path_still [] v w h = h
  path_still (i ∷ is) v w h =
      let next = given_some (field_of t v i) _ w h in
      ap (λ o. given o (λ x. type_at u x is)) (field_still v next.0 i next.1) ∙ path_still is next.0 w next.2

  module _ (n : ℕ) (ls : List Ty) where
    abbrev before : Expr → Option Kind
    before = kind_of (scope t n ls)

    abbrev after : Expr → Option Kind
    after = kind_of (scope u n ls)

    abbrev Stays : Expr → Type 0
    Stays e = (k : Kind) → before e ≡ Some k → after e ≡ Some k

    same_kind : (e : Expr) → Stays e → is_some (before e) ≡ true → after e ≡ before e
    same_kind e stays h = by (before e) refl h
      where
        by : (o : Option Kind) → before e ≡ o → is_some o ≡ true → after e ≡ before e
        by (Some k) is some = stays k is ∙ sym is
        by None is some = absurd (cc)

    abbrev set_before : SetField → Set
    set_before = fold-SetField (Option Kind) Set (kind_step (scope t n ls)) set_step

    abbrev set_after : SetField → Set
    set_after = fold-SetField (Option Kind) Set (kind_step (scope u n ls)) set_step

    abbrev SetStays : SetField → Type 0
    SetStays x = is_some (set_before x).1 ≡ true → set_after x ≡ set_before x

    set_stays : (x : SetField) → Stays x.value → SetStays x
    set_stays x stays h =
        let one : set_before x ≡ (x.field, before x.value) =
        ap set_before (sym (roll-out-SetField x)) ∙ fold-roll-SetField (Option Kind) Set (kind_step (scope t n ls))
        set_step (out-SetField x) in
        let two : set_after x ≡ (x.field, after x.value) =
        ap set_after (sym (roll-out-SetField x)) ∙ fold-roll-SetField (Option Kind) Set (kind_step (scope u n ls))
        set_step (out-SetField x) in
        two ∙ ap (λ k. (x.field, k)) (same_kind x.value stays (sym (ap (λ (p : Set). is_some p.1) one) ∙ h)) ∙ sym one

    abbrev KnownExpr : Type 0
    KnownExpr = (e : Expr) × Stays e

    abbrev KnownSet : Type 0
    KnownSet = (x : SetField) × SetStays x

    abbrev bare : List KnownExpr → List Expr
    bare = map (λ k. k.0)

    abbrev bare_sets : List KnownSet → List SetField
    bare_sets = map (λ k. k.0)

    abbrev kind_at : Tables → (Expr → Option Kind) → (SetField → Set) → Expr-F KnownExpr KnownSet → Option Kind
    kind_at v kind set y = kind_step (scope v n ls) (map-Expr Expr SetField (Option Kind) Set kind set
        (map-Expr KnownExpr KnownSet Expr SetField (λ k. k.0) (λ k. k.0) y))

    parts_same : (ps : List Part) (ks : List KnownExpr) → are_of ps (map before (bare ks)) ≡ true
        → map after (bare ks) ≡ map before (bare ks)
    parts_same [] [] h = refl
    parts_same (p ∷ ps) [] h = refl
    parts_same [] (k ∷ ks) h = absurd (cc)
    parts_same (p ∷ ps) (k ∷ ks) h =
        let b = and_parts (is_of p.ty (before k.0)) (are_of ps (map before (bare ks))) h in
        ap (λ x. x ∷ map after (bare ks)) (same_kind k.0 k.1 (value_part p.ty (before k.0) b.0))
        ∙ ap (λ xs. before k.0 ∷ xs) (parts_same ps ks b.1)

    flags_same : (ks : List KnownExpr) → list_all is_bool (map before (bare ks)) ≡ true
        → map after (bare ks) ≡ map before (bare ks)
    flags_same [] h = refl
    flags_same (k ∷ ks) h =
        let b = and_parts (is_bool (before k.0)) (list_all is_bool (map before (bare ks))) h in
        ap (λ x. x ∷ map after (bare ks)) (same_kind k.0 k.1 (bool_part (before k.0) b.0))
        ∙ ap (λ xs. before k.0 ∷ xs) (flags_same ks b.1)

    -- sets of fields, each to a value of its type, stay so
    set_part : (v : Ty) (k : Set) (ks : List Set) → are_sets t v (k ∷ ks) ≡ true
        → (w : Ty) × (field_of t v k.0 ≡ Some w) × (is_of w k.1 ≡ true) × (not (is_named k.0 ks) ≡ true)
        × (are_sets t v ks ≡ true)
    set_part v k ks h = by (field_of t v k.0) refl
      where
        none : field_of t v k.0 ≡ None → are_sets t v (k ∷ ks) ≡ false
        none is = rw (is) refl

        one : (w : Ty) → field_of t v k.0 ≡ Some w
            → are_sets t v (k ∷ ks) ≡ (is_of w k.1 && (not (is_named k.0 ks) && are_sets t v ks))
        one w is = rw (is) refl

        by : (o : Option Ty) → field_of t v k.0 ≡ o
            → (w : Ty) × (field_of t v k.0 ≡ Some w) × (is_of w k.1 ≡ true) × (not (is_named k.0 ks) ≡ true)
            × (are_sets t v ks ≡ true)
        by (Some w) is =
            let b = and_parts (is_of w k.1) (not (is_named k.0 ks) && are_sets t v ks) (sym (one w is) ∙ h) in
            let c = and_parts (not (is_named k.0 ks)) (are_sets t v ks) b.1 in (w, is, b.0, c.0, c.1)
        by None is = absurd (let never = none is in cc)

    sets_still : (v : Ty) (ks : List Set) → are_sets t v ks ≡ true → are_sets u v ks ≡ true
    sets_still v [] h = refl
    sets_still v (k ∷ ks) h =
        let p = set_part v k ks h in
        rw (field_still v p.0 k.0 p.1)
        (and_from (is_of p.0 k.1) (not (is_named k.0 ks) && are_sets u v ks) p.2
        (and_from (not (is_named k.0 ks)) (are_sets u v ks) p.3 (sets_still v ks p.4)))

    sets_same : (v : Ty) (ks : List KnownSet) → are_sets t v (map set_before (bare_sets ks)) ≡ true
        → map set_after (bare_sets ks) ≡ map set_before (bare_sets ks)
    sets_same v [] h = refl
    sets_same v (k ∷ ks) h =
        let p = set_part v (set_before k.0) (map set_before (bare_sets ks)) h in
        ap (λ x. x ∷ map set_after (bare_sets ks)) (k.1 (value_part p.0 (set_before k.0).1 p.2))
        ∙ ap (λ xs. set_before k.0 ∷ xs) (sets_same v ks p.4)

    option_still : (v : Ty) (k : Kind) → option_kind t v ≡ Some k → option_kind u v ≡ Some k
    option_still v k h =
        let c = chosen (is_type_in_use t (ty.Option v)) (Of (ty.Option v)) k h in
        ap (λ b. if_so b (Of (ty.Option v))) (still_in_use (ty.Option v) c.0) ∙ ap Some c.1

    node_stays : (y : Expr-F KnownExpr KnownSet) (k : Kind) → kind_at t before set_before y ≡ Some k
        → kind_at u after set_after y ≡ Some k
    node_stays (Expr-F.Num x) k h = h
    node_stays (Expr-F.Tag e i) k h =
        let d = given_some (slice_get t.enums e) _ k h in
        ap (λ o. given o (λ (x : EnumDecl). if_so (ltb i (length x.variants)) (Of (ty.Enum e))))
        (has_still t.enums u.enums larger.enums e d.0 d.1) ∙ d.2
    node_stays (Expr-F.Local i) k h = h
    node_stays (Expr-F.Cell c None) k h =
        let d = given_some (slice_get t.states c) _ k h in
        ap (λ o. given o (λ (x : StateDecl). if_so (is_key x.key None) (Of x.value)))
        (has_still t.states u.states larger.states c d.0 d.1) ∙ d.2
    node_stays (Expr-F.Cell c (Some e)) k h =
        let d = given_some (slice_get t.states c) _ k h in
        let fits = chosen (is_key d.0.key (Some (before e.0))) (Of d.0.value) k d.2 in
        ap (λ o. given o (λ (x : StateDecl). if_so (is_key x.key (Some (after e.0))) (Of x.value)))
        (has_still t.states u.states larger.states c d.0 d.1)
        ∙ ap (λ o. if_so (is_key d.0.key (Some o)) (Of d.0.value))
        (same_kind e.0 e.1 (key_part d.0.key (before e.0) fits.0)) ∙ d.2
    node_stays (Expr-F.Fields e path) k h =
        let v = given_some (type_of (before e.0)) _ k h in
        ap (λ o. given o (λ x. if ltb 0 (length path) then option_map Of (type_at u x path) else None))
        (ap type_of (e.1 (Of v.0) (typed_kind (before e.0) v.0 v.1))) ∙ by v.0 (ltb 0 (length path)) v.2
      where
        by : (v : Ty) (b : Bool) → (if b then option_map Of (type_at t v path) else None) ≡ Some k
            → (if b then option_map Of (type_at u v path) else None) ≡ Some k
        by v true e = ends (type_at t v path) refl e
          where
            ends : (o : Option Ty) → type_at t v path ≡ o → option_map Of o ≡ Some k
                → option_map Of (type_at u v path) ≡ Some k
            ends (Some w) at e = ap (option_map Of) (path_still path v w at) ∙ e
            ends None at e = absurd (cc)
        by v false e = absurd (cc)
    node_stays (Expr-F.With e sets) k h =
        let v = given_some (type_of (before e.0)) _ k h in
        let c = chosen _ (Of v.0) k v.2 in
        let tests = and_parts (ltb 0 (length (map set_before (bare_sets sets))))
        (are_sets t v.0 (map set_before (bare_sets sets))) c.0 in
        ap (λ o. given o (λ x. if_so (ltb 0 (length (map set_after (bare_sets sets)))
        && are_sets u x (map set_after (bare_sets sets))) (Of x)))
        (ap type_of (e.1 (Of v.0) (typed_kind (before e.0) v.0 v.1)))
        ∙ ap (λ xs. if_so (ltb 0 (length xs) && are_sets u v.0 xs) (Of v.0)) (sets_same v.0 sets tests.1)
        ∙ ap (λ b. if_so (ltb 0 (length (map set_before (bare_sets sets))) && b) (Of v.0))
        (sets_still v.0 (map set_before (bare_sets sets)) tests.1 ∙ sym tests.1) ∙ v.2
    node_stays (Expr-F.Make r ks) k h =
        let d = given_some (slice_get t.records r) _ k h in
        let c = chosen (are_of d.0.fields (map before (bare ks))) (Of (ty.Rec r)) k d.2 in
        ap (λ o. given o (λ (x : RecDecl). if_so (are_of x.fields (map after (bare ks))) (Of (ty.Rec r))))
        (has_still t.records u.records larger.records r d.0 d.1)
        ∙ ap (λ xs. if_so (are_of d.0.fields xs) (Of (ty.Rec r))) (parts_same d.0.fields ks c.0) ∙ d.2
    node_stays (Expr-F.NoneOf v) k h = option_still v k h
    node_stays (Expr-F.SomeOf e) k h =
        let v = given_some (type_of (before e.0)) _ k h in
        ap (λ o. given o (option_kind u)) (ap type_of (e.1 (Of v.0) (typed_kind (before e.0) v.0 v.1)))
        ∙ option_still v.0 k v.2
    node_stays (Expr-F.Shift e x) k h =
        let c = chosen (is_integer (before e.0) && is_number x) Number k h in
        ap (λ o. if_so (is_integer o && is_number x) Number)
        (same_kind e.0 e.1 (integer_part (before e.0) (and_parts (is_integer (before e.0)) (is_number x) c.0).0))
        ∙ h
    node_stays (Expr-F.Into j e) k h =
        let c = chosen (ltb j (length t.ints) && is_integer (before e.0)) (Of (ty.Int j)) k h in
        let tests = and_parts (ltb j (length t.ints)) (is_integer (before e.0)) c.0 in
        ap (λ o. if_so (ltb j (length u.ints) && is_integer o) (Of (ty.Int j)))
        (same_kind e.0 e.1 (integer_part (before e.0) tests.1))
        ∙ ap (λ b. if_so b (Of (ty.Int j))) (and_from (ltb j (length u.ints)) (is_integer (before e.0))
        (below j (length t.ints) (length u.ints) tests.0 (as_many t.ints u.ints larger.ints)) tests.1)
        ∙ ap Some c.1
    node_stays (Expr-F.Compare o left right) k h =
        let c = chosen (are_comparable o (before left.0) (before right.0)) _ k h in
        let parts = compared o (before left.0) (before right.0) c.0 in
        ap (λ x. if_so (are_comparable o x (after right.0)) (Of bool_ty)) (same_kind left.0 left.1 parts.0)
        ∙ ap (λ x. if_so (are_comparable o (before left.0) x) (Of bool_ty)) (same_kind right.0 right.1 parts.1) ∙ h
    node_stays (Expr-F.All ks) k h =
        let c = chosen (leb 2 (length (map before (bare ks))) && list_all is_bool (map before (bare ks)))
        (Of bool_ty) k h in
        ap (λ xs. if_so (leb 2 (length xs) && list_all is_bool xs) (Of bool_ty))
        (flags_same ks (and_parts (leb 2 (length (map before (bare ks)))) (list_all is_bool (map before (bare ks)))
        c.0).1) ∙ h
    node_stays (Expr-F.Any ks) k h =
        let c = chosen (leb 2 (length (map before (bare ks))) && list_all is_bool (map before (bare ks)))
        (Of bool_ty) k h in
        ap (λ xs. if_so (leb 2 (length xs) && list_all is_bool xs) (Of bool_ty))
        (flags_same ks (and_parts (leb 2 (length (map before (bare ks)))) (list_all is_bool (map before (bare ks)))
        c.0).1) ∙ h
    node_stays (Expr-F.Not e) k h =
        let c = chosen (is_bool (before e.0)) (Of bool_ty) k h in
        ap (λ o. if_so (is_bool o) (Of bool_ty)) (same_kind e.0 e.1 (bool_part (before e.0) c.0)) ∙ h
    node_stays (Expr-F.Apply f ks) k h = by (ltb f n) h
      where
        by : (b : Bool) → (if b then given (slice_get t.funs f) (λ d. if_so (are_of d.params (map before (bare ks)))
            (Of d.reply)) else None) ≡ Some k
            → (if b then given (slice_get u.funs f) (λ d. if_so (are_of d.params (map after (bare ks))) (Of d.reply))
            else None) ≡ Some k
        by true e =
            let d = given_some (slice_get t.funs f) _ k e in
            let c = chosen (are_of d.0.params (map before (bare ks))) (Of d.0.reply) k d.2 in
            ap (λ o. given o (λ (x : Call). if_so (are_of x.params (map after (bare ks))) (Of x.reply)))
            (has_still t.funs u.funs larger.funs f d.0 d.1)
            ∙ ap (λ xs. if_so (are_of d.0.params xs) (Of d.0.reply)) (parts_same d.0.params ks c.0) ∙ d.2
        by false e = absurd (cc)

    rolled_stays : (x : Expr-F Expr SetField)
        → ((k : Kind) → kind_step (scope t n ls) (map-Expr Expr SetField (Option Kind) Set before set_before x) ≡ Some k
        → kind_step (scope u n ls) (map-Expr Expr SetField (Option Kind) Set after set_after x) ≡ Some k)
        → Stays (roll-Expr x)
    rolled_stays x stays k h =
        fold-roll-Expr (Option Kind) Set (kind_step (scope u n ls)) set_step x
        ∙ stays k (sym (fold-roll-Expr (Option Kind) Set (kind_step (scope t n ls)) set_step x) ∙ h)

    -- an expression keeps the kind that it had
    pub kind_kept : (e : Expr) → Stays e
    kind_kept = ind-Expr Stays SetStays
        (λ x y is. subst (λ z. Stays (roll-Expr z)) is (rolled_stays _ (node_stays y)))
        (λ x y is. set_stays (record { field = x.field; value = x.value }) (subst (λ z. Stays z.value) is y.value.1))
