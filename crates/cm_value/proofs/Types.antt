-- The forms of types.
use Rattle.std.proofs.Common.{◌≡◌, ℕ, Bool, sym, ap, ◌∙◌}
use Rattle.cm_model.specs.declared.ty.Ty.{Ty, out-Ty}
use Rattle.cm_model.specs.declared.ty.Ty.TheVariants as ty
use Rattle.cm_model.specs.declared.ty.Ty.TheVariants.{rolls-Sort, rolls-Int, rolls-Enum, rolls-Rec, rolls-Option}
use Rattle.cm_model.specs.declared.ty.Ty.TheViews.{out-roll-Ty, roll-out-Ty}
use Rattle.cm_model.specs.declared.ty.Ty.TheOpen.{Ty-F}
use Rattle.cm_model.specs.declared.ty.Ty.TheFolds.{fold-Ty, fold-roll-Ty, map-Ty}
use Rattle.cm_model.specs.Tables.{Tables}
use Rattle.cm_model.specs.Types.{is_type_before, ty_step}

pub out_sort : (s : ℕ) → out-Ty (ty.Sort s) ≡ Ty-F.Sort s
out_sort s = ap out-Ty (sym (rolls-Sort s)) ∙ out-roll-Ty (Ty-F.Sort s)

pub out_int : (i : ℕ) → out-Ty (ty.Int i) ≡ Ty-F.Int i
out_int i = ap out-Ty (sym (rolls-Int i)) ∙ out-roll-Ty (Ty-F.Int i)

pub out_enum : (e : ℕ) → out-Ty (ty.Enum e) ≡ Ty-F.Enum e
out_enum e = ap out-Ty (sym (rolls-Enum e)) ∙ out-roll-Ty (Ty-F.Enum e)

pub out_rec : (r : ℕ) → out-Ty (ty.Rec r) ≡ Ty-F.Rec r
out_rec r = ap out-Ty (sym (rolls-Rec r)) ∙ out-roll-Ty (Ty-F.Rec r)

pub out_option : (u : Ty) → out-Ty (ty.Option u) ≡ Ty-F.Option u
out_option u = ap out-Ty (sym (rolls-Option u)) ∙ out-roll-Ty (Ty-F.Option u)

-- whether a type is declared, by its form
pub type_before : (t : Tables) (n : ℕ) (u : Ty)
    → is_type_before t n u ≡ ty_step t n (map-Ty Ty Bool (is_type_before t n) (out-Ty u))
type_before t n u = ap (is_type_before t n) (sym (roll-out-Ty u)) ∙ fold-roll-Ty Bool (ty_step t n) (out-Ty u)

-- what a fold gives for each form of a type
module _ {A : Type 0} (step : Ty-F A → A) where
  pub fold-sort : (s : ℕ) → fold-Ty A step (ty.Sort s) ≡ step (Ty-F.Sort s)
  fold-sort s = ap (fold-Ty A step) (sym (rolls-Sort s)) ∙ fold-roll-Ty A step (Ty-F.Sort s)

  pub fold-int_type : (i : ℕ) → fold-Ty A step (ty.Int i) ≡ step (Ty-F.Int i)
  fold-int_type i = ap (fold-Ty A step) (sym (rolls-Int i)) ∙ fold-roll-Ty A step (Ty-F.Int i)

  pub fold-enum : (e : ℕ) → fold-Ty A step (ty.Enum e) ≡ step (Ty-F.Enum e)
  fold-enum e = ap (fold-Ty A step) (sym (rolls-Enum e)) ∙ fold-roll-Ty A step (Ty-F.Enum e)

  pub fold-record : (r : ℕ) → fold-Ty A step (ty.Rec r) ≡ step (Ty-F.Rec r)
  fold-record r = ap (fold-Ty A step) (sym (rolls-Rec r)) ∙ fold-roll-Ty A step (Ty-F.Rec r)

  pub fold-option : (u : Ty) → fold-Ty A step (ty.Option u) ≡ step (Ty-F.Option (fold-Ty A step u))
  fold-option u = ap (fold-Ty A step) (sym (rolls-Option u)) ∙ fold-roll-Ty A step (Ty-F.Option u)
