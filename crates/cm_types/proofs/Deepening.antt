-- Flat types beside the types of tables that they become.
use Rattle.std.proofs.Common.{◌≡◌, ℕ, zero, suc, ◌+◌, ◌==◌, ◌&&◌, ◌||◌, inl, inr, nat_lt, Bool, true, false, List, refl}
use Rattle.std.proofs.Common.{sym, ap, ◌∙◌, arith, eq-eqb}
use Rattle.std.proofs.lemmas.Bool.{lt-ltb}
use Rattle.std.proofs.lemmas.Bool.Decides.{eqb_tells}
use Rattle.cm_model.specs.Types.{same_step, same_ty, width_step, width_in, integers_step, integers_in, option_step}
use Rattle.cm_model.specs.Types.{holds_option_in, ty_step, is_type_before}
use Rattle.cm_model.specs.Kinds.{is_integer_ty}
use Rattle.cm_model.specs.Tables.{Tables}
use Rattle.cm_model.specs.declared.ty.Ty.{Ty, out-Ty}
use Rattle.cm_model.specs.declared.ty.Ty.TheVariants as ty
use Rattle.cm_model.specs.declared.ty.Ty.TheViews.{out-roll-Ty}
use Rattle.cm_model.specs.declared.ty.Ty.TheOpen.{Ty-F}
use Rattle.cm_model.specs.declared.ty.Ty.TheFolds.{fold-Ty, fold-roll-Ty}
use Rattle.cm_typing.specs.declared.flat.Base.{Base}
use Rattle.cm_typing.specs.declared.flat.Base.TheVariants.{Sort, Int, Enum, Record}
use Rattle.cm_typing.specs.declared.flat.Flat.{Flat}
use Rattle.cm_typing.specs.Flats.{same_base, same_flat, is_int_base, is_integer_flat, innermost, around, ty_of_flat}
use Rattle.cm_typing.specs.Flats.{option_flat}

-- the outermost layer of a base's type
abbrev pub layer_of : {X : Type 0} → Base → Ty-F X
layer_of (Sort n) = Ty-F.Sort n
layer_of (Int n) = Ty-F.Int n
layer_of (Enum n) = Ty-F.Enum n
layer_of (Record n) = Ty-F.Rec n

pub out_base : (b : Base) → out-Ty (innermost b) ≡ layer_of b
out_base (Sort n) = ap out-Ty (sym (ty.rolls-Sort n)) ∙ out-roll-Ty (Ty-F.Sort n)
out_base (Int n) = ap out-Ty (sym (ty.rolls-Int n)) ∙ out-roll-Ty (Ty-F.Int n)
out_base (Enum n) = ap out-Ty (sym (ty.rolls-Enum n)) ∙ out-roll-Ty (Ty-F.Enum n)
out_base (Record n) = ap out-Ty (sym (ty.rolls-Rec n)) ∙ out-roll-Ty (Ty-F.Rec n)

pub out_option : (t : Ty) → out-Ty (ty.Option t) ≡ Ty-F.Option t
out_option t = ap out-Ty (sym (ty.rolls-Option t)) ∙ out-roll-Ty (Ty-F.Option t)

module _ {X : Type 0} (f : Ty-F X → X) where
  pub fold_base : (b : Base) → fold-Ty X f (innermost b) ≡ f (layer_of b)
  fold_base (Sort n) = ap (fold-Ty X f) (sym (ty.rolls-Sort n)) ∙ fold-roll-Ty X f (Ty-F.Sort n)
  fold_base (Int n) = ap (fold-Ty X f) (sym (ty.rolls-Int n)) ∙ fold-roll-Ty X f (Ty-F.Int n)
  fold_base (Enum n) = ap (fold-Ty X f) (sym (ty.rolls-Enum n)) ∙ fold-roll-Ty X f (Ty-F.Enum n)
  fold_base (Record n) = ap (fold-Ty X f) (sym (ty.rolls-Rec n)) ∙ fold-roll-Ty X f (Ty-F.Rec n)

  pub fold_option : (t : Ty) → fold-Ty X f (ty.Option t) ≡ f (Ty-F.Option (fold-Ty X f t))
  fold_option t = ap (fold-Ty X f) (sym (ty.rolls-Option t)) ∙ fold-roll-Ty X f (Ty-F.Option t)

-- One type

abbrev same_layer : Ty-F (Ty → Bool) → Ty → Bool
same_layer x other = same_step x (out-Ty other)

same_layers : (a b : Base) → same_step (layer_of a) (layer_of b) ≡ same_base a b
same_layers (Sort m) (Sort n) = refl
same_layers (Sort m) (Int n) = refl
same_layers (Sort m) (Enum n) = refl
same_layers (Sort m) (Record n) = refl
same_layers (Int m) (Sort n) = refl
same_layers (Int m) (Int n) = refl
same_layers (Int m) (Enum n) = refl
same_layers (Int m) (Record n) = refl
same_layers (Enum m) (Sort n) = refl
same_layers (Enum m) (Int n) = refl
same_layers (Enum m) (Enum n) = refl
same_layers (Enum m) (Record n) = refl
same_layers (Record m) (Sort n) = refl
same_layers (Record m) (Int n) = refl
same_layers (Record m) (Enum n) = refl
same_layers (Record m) (Record n) = refl

base_and_option : (b : Base) (t : Ty) → same_step (layer_of b) (Ty-F.Option t) ≡ false
base_and_option (Sort n) t = refl
base_and_option (Int n) t = refl
base_and_option (Enum n) t = refl
base_and_option (Record n) t = refl

option_and_base : (m : Ty → Bool) (b : Base) → same_step (Ty-F.Option m) (layer_of b) ≡ false
option_and_base m (Sort n) = refl
option_and_base m (Int n) = refl
option_and_base m (Enum n) = refl
option_and_base m (Record n) = refl

and_so : (b c : Bool) → c ≡ true → b ≡ (b && c)
and_so true c h = sym h
and_so false c h = refl

and_not : (b c : Bool) → c ≡ false → false ≡ (b && c)
and_not true c h = sym h
and_not false c h = refl

zero_suc : (n : ℕ) → (0 == suc n) ≡ false
zero_suc n = elim (eqb_tells 0 (suc n)) [ inl q ↦ absurd (omega (arith, q.1)) | inr q ↦ q.0 ]

pub suc_zero : (n : ℕ) → (suc n == 0) ≡ false
suc_zero n = elim (eqb_tells (suc n) 0) [ inl q ↦ absurd (omega (arith, q.1)) | inr q ↦ q.0 ]

suc_suc : (m n : ℕ) → (suc m == suc n) ≡ (m == n)
suc_suc m n = elim (eqb_tells m n) [
  | inl p ↦ eq-eqb (suc m) (suc n) (ap suc p.1) ∙ sym p.0
  | inr p ↦ elim (eqb_tells (suc m) (suc n)) [ inl q ↦ absurd (p.1 (omega (arith, q.1))) | inr q ↦ q.0 ∙ sym p.0 ]
]

same_base_first : (a : Base) (t : Ty) → same_ty (innermost a) t ≡ same_step (layer_of a) (out-Ty t)
same_base_first a t = ap (λ (f : Ty → Bool). f t) (fold_base same_layer a)

same_option_first : (s t : Ty) → same_ty (ty.Option s) t ≡ same_step (Ty-F.Option (same_ty s)) (out-Ty t)
same_option_first s t = ap (λ (f : Ty → Bool). f t) (fold_option same_layer s)

same_around : (m n : ℕ) (a b : Base) → same_ty (around m (innermost a)) (around n (innermost b)) ≡
    (same_base a b && (m == n))
same_around zero zero a b =
    same_base_first a (innermost b) ∙ ap (same_step (layer_of a)) (out_base b) ∙ same_layers a b
    ∙ and_so (same_base a b) (0 == 0) refl
same_around zero (suc n) a b =
    let inner = around n (innermost b) in
    same_base_first a (ty.Option inner) ∙ ap (same_step (layer_of a)) (out_option inner) ∙ base_and_option a inner
    ∙ and_not (same_base a b) (0 == suc n) (zero_suc n)
same_around (suc m) zero a b =
    let inner = around m (innermost a) in
    same_option_first inner (innermost b) ∙ ap (same_step (Ty-F.Option (same_ty inner))) (out_base b)
    ∙ option_and_base (same_ty inner) b
    ∙ and_not (same_base a b) (suc m == 0) (suc_zero m)
same_around (suc m) (suc n) a b =
    let inner = around m (innermost a) in
    let other = around n (innermost b) in
    same_option_first inner (ty.Option other) ∙ ap (same_step (Ty-F.Option (same_ty inner))) (out_option other)
    ∙ same_around m n a b ∙ ap (λ c. same_base a b && c) (sym (suc_suc m n))

pub same_deep : (t u : Flat) → same_ty (ty_of_flat t) (ty_of_flat u) ≡ same_flat t u
same_deep t u = same_around t.options u.options t.base u.base

-- Integers and options

int_layer : (b : Base) → is_integer_ty (layer_of b) ≡ is_int_base b
int_layer (Sort n) = refl
int_layer (Int n) = refl
int_layer (Enum n) = refl
int_layer (Record n) = refl

pub integer_around : (n : ℕ) (b : Base) → is_integer_ty (out-Ty (around n (innermost b))) ≡ (is_int_base b && (n == 0))
integer_around zero b = ap is_integer_ty (out_base b) ∙ int_layer b ∙ and_so (is_int_base b) (0 == 0) refl
integer_around (suc n) b =
    ap is_integer_ty (out_option (around n (innermost b))) ∙ and_not (is_int_base b) (suc n == 0) (suc_zero n)

pub integer_deep : (t : Flat) → is_integer_ty (out-Ty (ty_of_flat t)) ≡ is_integer_flat t
integer_deep t = integer_around t.options t.base

plus_one : (n : ℕ) → n + 1 ≡ suc n
plus_one n = omega arith

-- the option of a type is one option more around its base
pub option_deep : (t : Flat) → ty_of_flat (option_flat t) ≡ ty.Option (ty_of_flat t)
option_deep t = ap (λ n. around n (innermost t.base)) (plus_one t.options)

-- What is measured around a base

module _ (t : Tables) (n : ℕ) where
  pub before_around : (k : ℕ) (b : Base) → is_type_before t n (around k (innermost b)) ≡ is_type_before t n
      (innermost b)
  before_around zero b = refl
  before_around (suc k) b = fold_option (ty_step t n) (around k (innermost b)) ∙ before_around k b

pub width_around : (ws : List ℕ) (k : ℕ) (b : Base) → width_in ws (around k (innermost b)) ≡ width_in ws
    (innermost b) + k
width_around ws zero b = omega arith
width_around ws (suc k) b = fold_option (width_step ws) (around k (innermost b)) ∙ omega (arith, width_around ws k b)

pub integers_around : (ws : List ℕ) (k : ℕ) (b : Base) → integers_in ws (around k (innermost b)) ≡ integers_in ws
    (innermost b)
integers_around ws zero b = refl
integers_around ws (suc k) b = fold_option (integers_step ws) (around k (innermost b)) ∙ integers_around ws k b

or_not : (b : Bool) → b ≡ (b || false)
or_not true = refl
or_not false = refl

or_so : (b c : Bool) → c ≡ true → true ≡ (b || c)
or_so true c h = refl
or_so false c h = sym h

pub options_around : (os : List Bool) (k : ℕ) (b : Base)
    → holds_option_in os (around k (innermost b)) ≡ (holds_option_in os (innermost b) || nat_lt 0 k)
options_around os zero b = or_not (holds_option_in os (innermost b))
options_around os (suc k) b = fold_option (option_step os) (around k (innermost b))
    ∙ or_so (holds_option_in os (innermost b)) (nat_lt 0 (suc k)) (lt-ltb 0 (suc k) (omega arith))
