-- The types of parts, and the enum of a type.
use Rattle.std.proofs.Common.{◌≡◌, ℕ, zero, suc, true, List, [], ◌∷◌, ◌++◌, map, slice_get, Option, Some, None, refl}
use Rattle.std.proofs.Common.{sym, ap, ◌∙◌}
use Rattle.std.proofs.lemmas.Bool.{eqb-true}
use Rattle.cm_model.specs.Tables.{Tables}
use Rattle.cm_model.specs.declared.ty.Ty.{Ty, out-Ty}
use Rattle.cm_model.specs.declared.ty.Ty.TheOpen.{Ty-F}
use Rattle.cm_model.specs.declared.ty.Part.{Part}
use Rattle.cm_term.specs.declared.symbol.Step.{Step}
use Rattle.cm_cond.specs.Form.{enum_in}
use Rattle.cm_cond.specs.Typing.{type_in, type_along, type_of_part}
use Rattle.cm_beside.specs.Fits.{is_of_enum}

pub enum_is : (u : Ty) (e : ℕ) → out-Ty u ≡ Ty-F.Enum e → enum_in (Some u) ≡ Some e
enum_is u e is = rw is refl

-- a type that a variable fits is of the variable's enum
pub enum_form : (u : Ty) (o : Option ℕ) (d : ℕ) → o ≡ Some d → is_of_enum (out-Ty u) o ≡ true
    → enum_in (Some u) ≡ Some d
enum_form u o d is h = by (out-Ty u) refl (sym (ap (is_of_enum (out-Ty u)) is) ∙ h)
  where
    by : (z : Ty-F Ty) → out-Ty u ≡ z → is_of_enum z (Some d) ≡ true → enum_in (Some u) ≡ Some d
    by (Ty-F.Enum e) f k = enum_is u e f ∙ ap (λ n. Some n) (eqb-true e d k)
    by (Ty-F.Sort i) f k = absurd (cc)
    by (Ty-F.Int i) f k = absurd (cc)
    by (Ty-F.Rec i) f k = absurd (cc)
    by (Ty-F.Option w) f k = absurd (cc)

-- one step further
pub along_more : (t : Tables) (ss : List Step) (s : Step) (o : Option Ty) (u w : Ty) → type_along t ss o ≡ Some u
    → type_in t s u ≡ Some w → type_along t (ss ++ s ∷ []) o ≡ Some w
along_more t [] s o u w is leads = ap (type_along t (s ∷ [])) is ∙ leads
along_more t (r ∷ ss) s (Some v) u w is leads = along_more t ss s (type_in t r v) u w is leads
along_more t (r ∷ ss) s None u w is leads = absurd (cc)

-- the type of the i-th of some fields or parameters
pub part_type : (ps : List Part) (i : ℕ) (u : Ty) → slice_get (map (λ (p : Part). p.ty) ps) i ≡ Some u
    → type_of_part (slice_get ps i) ≡ Some u
part_type [] i u at = absurd (cc)
part_type (p ∷ ps) zero u at = at
part_type (p ∷ ps) (suc i) u at = part_type ps i u at
