-- A plain expression has one kind, whichever functions stand before it.
use Rattle.std.proofs.Common.{◌≡◌, ℕ, ◌&&◌, ltb, leb, Bool, true, List, [], ◌∷◌, map, length, Option, None, refl, sym}
use Rattle.std.proofs.Common.{ap, ◌∙◌, subst, if◌then◌else◌}
use Rattle.std.specs.Prelude.{option_map}
use Rattle.std.specs.List.{list_all}
use Rattle.std.proofs.lemmas.Bool.{and_parts}
use Rattle.cm_model.specs.Tables.{Tables}
use Rattle.cm_model.specs.Limits.{is_number}
use Rattle.cm_model.specs.Plain.{plain_step, is_plain}
use Rattle.cm_model.specs.Kinds.{Kind, Number, Of, Set, scope, given, if_so, is_bool, is_integer, bool_ty, type_of}
use Rattle.cm_model.specs.Kinds.{type_at, are_of, are_sets, are_comparable, option_kind, kind_step, set_step, kind_of}
use Rattle.cm_model.specs.declared.ty.Ty.{Ty}
use Rattle.cm_model.specs.declared.ty.Ty.TheVariants as ty
use Rattle.cm_model.specs.declared.body.SetField.{SetField, fold-SetField, out-SetField, roll-out-SetField}
use Rattle.cm_model.specs.declared.body.SetField.{fold-roll-SetField}
use Rattle.cm_model.specs.declared.body.Expr.{Expr}
use Rattle.cm_model.specs.declared.body.Expr.TheViews.{roll-Expr}
use Rattle.cm_model.specs.declared.body.Expr.TheOpen.{Expr-F}
use Rattle.cm_model.specs.declared.body.Expr.TheFolds.{fold-roll-Expr, ind-Expr, map-Expr}
use Rattle.std.specs.Prelude.{slice_get}

module _ (t : Tables) (b c : ℕ) (ls : List Ty) where
  abbrev kind_over : ℕ → Expr → Option Kind
  kind_over n = kind_of (scope t n ls)

  abbrev set_over : ℕ → SetField → Set
  set_over n = fold-SetField (Option Kind) Set (kind_step (scope t n ls)) set_step

  abbrev plain_set : SetField → Bool
  plain_set = fold-SetField Bool Bool plain_step (λ x. x.value)

  abbrev Same : Expr → Type 0
  Same e = is_plain e ≡ true → kind_over b e ≡ kind_over c e

  abbrev SameSet : SetField → Type 0
  SameSet x = plain_set x ≡ true → set_over b x ≡ set_over c x

  set_same : (x : SetField) → Same x.value → SameSet x
  set_same x one h =
      let is : plain_set x ≡ is_plain x.value =
      ap plain_set (sym (roll-out-SetField x)) ∙ fold-roll-SetField Bool Bool plain_step (λ x. x.value)
      (out-SetField x) in
      kind_is b ∙ ap (λ k. (x.field, k)) (one (sym is ∙ h)) ∙ sym (kind_is c)
    where
      kind_is : (n : ℕ) → set_over n x ≡ (x.field, kind_over n x.value)
      kind_is n = ap (set_over n) (sym (roll-out-SetField x)) ∙ fold-roll-SetField (Option Kind) Set
          (kind_step (scope t n ls)) set_step (out-SetField x)

  abbrev KE : Type 0
  KE = (e : Expr) × Same e

  abbrev KS : Type 0
  KS = (x : SetField) × SameSet x

  abbrev all_so : List Bool → Bool
  all_so = list_all (λ b. b)

  list_same : (ks : List KE) → all_so (map is_plain (map (λ k. k.0) ks)) ≡ true
      → map (kind_over b) (map (λ k. k.0) ks) ≡ map (kind_over c) (map (λ k. k.0) ks)
  list_same [] h = refl
  list_same (k ∷ ks) h =
      let p = and_parts (is_plain k.0) (all_so (map is_plain (map (λ (z : KE). z.0) ks))) h in
      ap (λ x. x ∷ map (kind_over b) (map (λ (z : KE). z.0) ks)) (k.1 p.0) ∙ ap (λ xs. kind_over c k.0 ∷ xs)
      (list_same ks p.1)

  sets_same : (ks : List KS) → all_so (map plain_set (map (λ k. k.0) ks)) ≡ true
      → map (set_over b) (map (λ k. k.0) ks) ≡ map (set_over c) (map (λ k. k.0) ks)
  sets_same [] h = refl
  sets_same (k ∷ ks) h =
      let p = and_parts (plain_set k.0) (all_so (map plain_set (map (λ (z : KS). z.0) ks))) h in
      ap (λ x. x ∷ map (set_over b) (map (λ (z : KS). z.0) ks)) (k.1 p.0) ∙ ap (λ xs. set_over c k.0 ∷ xs)
      (sets_same ks p.1)

  abbrev plain_at : Expr-F KE KS → Bool
  plain_at y = plain_step (map-Expr Expr SetField Bool Bool is_plain plain_set (map-Expr KE KS Expr SetField
      (λ k. k.0) (λ k. k.0) y))

  abbrev kind_at : ℕ → Expr-F KE KS → Option Kind
  kind_at n y = kind_step (scope t n ls) (map-Expr Expr SetField (Option Kind) Set (kind_over n) (set_over n)
      (map-Expr KE KS Expr SetField (λ k. k.0) (λ k. k.0) y))

  node_same : (y : Expr-F KE KS) → plain_at y ≡ true → kind_at b y ≡ kind_at c y
  node_same (Expr-F.Num x) h = refl
  node_same (Expr-F.Tag e i) h = refl
  node_same (Expr-F.Local i) h = refl
  node_same (Expr-F.Cell s k) h = absurd cc
  node_same (Expr-F.Fields e path) h =
      ap (λ k. given (type_of k) (λ u. if ltb 0 (length path) then option_map Of (type_at t u path) else None)) (e.1 h)
  node_same (Expr-F.With e sets) h =
      let p = and_parts (is_plain e.0) (all_so (map plain_set (map (λ (z : KS). z.0) sets))) h in
      ap (λ k. given (type_of k) (λ u. if_so (ltb 0 (length (map (set_over b) (map (λ (z : KS). z.0) sets))) &&
      are_sets t u (map (set_over b) (map (λ (z : KS). z.0) sets))) (Of u))) (e.1 p.0)
      ∙ ap (λ xs. given (type_of (kind_over c e.0)) (λ u. if_so (ltb 0 (length xs) && are_sets t u xs) (Of u)))
      (sets_same sets p.1)
  node_same (Expr-F.Make r ks) h =
      ap (λ xs. given (slice_get t.records r) (λ d. if_so (are_of d.fields xs) (Of (ty.Rec r)))) (list_same ks h)
  node_same (Expr-F.NoneOf v) h = refl
  node_same (Expr-F.SomeOf e) h = ap (λ k. given (type_of k) (option_kind t)) (e.1 h)
  node_same (Expr-F.Shift e x) h = ap (λ k. if_so (is_integer k && is_number x) Number) (e.1 h)
  node_same (Expr-F.Into j e) h = absurd cc
  node_same (Expr-F.Compare o left right) h =
      let p = and_parts (is_plain left.0) (is_plain right.0) h in
      ap (λ k. if_so (are_comparable o k (kind_over b right.0)) (Of bool_ty)) (left.1 p.0)
      ∙ ap (λ k. if_so (are_comparable o (kind_over c left.0) k) (Of bool_ty)) (right.1 p.1)
  node_same (Expr-F.All ks) h = ap (λ xs. if_so (leb 2 (length xs) && list_all is_bool xs) (Of bool_ty))
      (list_same ks h)
  node_same (Expr-F.Any ks) h = ap (λ xs. if_so (leb 2 (length xs) && list_all is_bool xs) (Of bool_ty))
      (list_same ks h)
  node_same (Expr-F.Not e) h = ap (λ k. if_so (is_bool k) (Of bool_ty)) (e.1 h)
  node_same (Expr-F.Apply f ks) h = absurd cc

  rolled_same : (x : Expr-F Expr SetField)
      → (plain_step (map-Expr Expr SetField Bool Bool is_plain plain_set x) ≡ true
      → kind_step (scope t b ls) (map-Expr Expr SetField (Option Kind) Set (kind_over b) (set_over b) x)
      ≡ kind_step (scope t c ls) (map-Expr Expr SetField (Option Kind) Set (kind_over c) (set_over c) x))
      → Same (roll-Expr x)
  rolled_same x one h =
      fold-roll-Expr (Option Kind) Set (kind_step (scope t b ls)) set_step x
      ∙ one (sym (fold-roll-Expr Bool Bool plain_step (λ x. x.value) x) ∙ h)
      ∙ sym (fold-roll-Expr (Option Kind) Set (kind_step (scope t c ls)) set_step x)

  pub plain_kind : (e : Expr) → Same e
  plain_kind = ind-Expr Same SameSet
      (λ x y is. subst (λ z. Same (roll-Expr z)) is (rolled_same _ (node_same y)))
      (λ x y is. set_same (record { field = x.field; value = x.value }) (subst (λ z. Same z.value) is y.value.1))
