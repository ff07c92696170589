-- What the tests of types and kinds give.
use Rattle.std.proofs.Common.{◌≡◌, ℕ, ◌≤◌, Bool, true, List, Option, Some, None, is_some, refl, sym, ap, ◌∙◌, subst}
use Rattle.std.proofs.Common.{arith}
use Rattle.std.proofs.lemmas.Bool.{eqb-true}
use Rattle.std.specs.Prelude.{max}
use Rattle.std.proofs.Math.Nat.{le-max_left, le-max_right}
use Rattle.cm_model.specs.Types.{same_ty, same_step}
use Rattle.cm_model.specs.Kinds.{Kind, Number, Of, is_integer, is_of, is_bool, bool_ty, type_of, same_type}
use Rattle.cm_model.specs.declared.ty.Ty.{Ty, out-Ty}
use Rattle.cm_model.specs.declared.ty.Ty.TheViews.{roll-Ty, roll-out-Ty}
use Rattle.cm_model.specs.declared.ty.Ty.TheOpen.{Ty-F}
use Rattle.cm_model.specs.declared.ty.Ty.TheFolds.{fold-roll-Ty, ind-Ty, map-Ty}

-- two types that are the same are one
abbrev IsOne : Ty → Type 0
IsOne t = (u : Ty) → same_ty t u ≡ true → t ≡ u

abbrev KnownTy : Type 0
KnownTy = (t : Ty) × IsOne t

abbrev bare : Ty-F KnownTy → Ty-F Ty
bare = map-Ty KnownTy Ty (λ k. k.0)

layer_one : (y : Ty-F KnownTy) (x : Ty-F Ty) → same_step (map-Ty Ty (Ty → Bool) same_ty (bare y)) x ≡ true → bare y ≡ x
layer_one (Ty-F.Sort s) (Ty-F.Sort r) h = ap Ty-F.Sort (eqb-true s r h)
layer_one (Ty-F.Int s) (Ty-F.Int r) h = ap Ty-F.Int (eqb-true s r h)
layer_one (Ty-F.Enum s) (Ty-F.Enum r) h = ap Ty-F.Enum (eqb-true s r h)
layer_one (Ty-F.Rec s) (Ty-F.Rec r) h = ap Ty-F.Rec (eqb-true s r h)
layer_one (Ty-F.Option k) (Ty-F.Option u) h = ap Ty-F.Option (k.1 u h)
layer_one y x h = absurd (cc)

rolled_one : (x : Ty-F Ty) → ((z : Ty-F Ty) → same_step (map-Ty Ty (Ty → Bool) same_ty x) z ≡ true → x ≡ z)
    → IsOne (roll-Ty x)
rolled_one x one u h =
    ap roll-Ty (one (out-Ty u) (sym (ap (λ (f : Ty → Bool). f u)
    (fold-roll-Ty (Ty → Bool) (λ y other. same_step y (out-Ty other)) x)) ∙ h))
    ∙ roll-out-Ty u

pub same_one : (t : Ty) → IsOne t
same_one = ind-Ty IsOne (λ x y is. subst (λ z. IsOne (roll-Ty z)) is (rolled_one (bare y) (layer_one y)))

pub kind_is : (u : Ty) (k : Option Kind) → is_of u k ≡ true → k ≡ Some (Of u)
kind_is u (Some (Of t)) h = ap (λ x. Some (Of x)) (same_one t u h)
kind_is u (Some Number) h = absurd (cc)
kind_is u None h = absurd (cc)

pub bool_is : (k : Option Kind) → is_bool k ≡ true → k ≡ Some (Of bool_ty)
bool_is (Some (Of t)) h = ap (λ x. Some (Of x)) (same_one t bool_ty h)
bool_is (Some Number) h = absurd (cc)
bool_is None h = absurd (cc)

-- two kinds with the same type are of one type
pub of_one_type : (j k : Kind) → same_type (type_of (Some j)) (type_of (Some k)) ≡ true
    → (u : Ty) × (j ≡ Of u) × (k ≡ Of u)
of_one_type (Of t) (Of u) h = (t, refl, ap Of (sym (same_one t u h)))
of_one_type (Of t) Number h = absurd (cc)
of_one_type Number k h = absurd (cc)

pub some_kind : (o : Option Kind) → is_some o ≡ true → (kind : Kind) × (o ≡ Some kind)
some_kind (Some kind) h = (kind, refl)
some_kind None h = absurd (cc)

pub integer_kind : (o : Option Kind) → is_integer o ≡ true
    → (kind : Kind) × (o ≡ Some kind) × (is_integer (Some kind) ≡ true)
integer_kind (Some kind) h = (kind, refl, h)
integer_kind None h = absurd (cc)

pub some_types : (o : Option (List Ty)) → is_some o ≡ true → (after : List Ty) × (o ≡ Some after)
some_types (Some after) h = (after, refl)
some_types None h = absurd (cc)

pub of_one : {X : Type 0} (x y : X) → Some x ≡ Some y → x ≡ y
of_one x y h = cc

-- each of two is at most what the greater is
pub within : (m n limit : ℕ) → max m n ≤ limit → (m ≤ limit) × (n ≤ limit)
within m n limit h =
    (omega (arith, le-max_left m n, le-max_right m n, h), omega (arith, le-max_left m n, le-max_right m n, h))
