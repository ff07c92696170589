-- The type at the end of a path, one step on.
use Rattle.std.proofs.Common.{◌≡◌, List, [], ◌∷◌, Option, Some, None, refl}
use Rattle.cm_model.specs.Tables.{Tables}
use Rattle.cm_model.specs.declared.ty.Ty.{Ty}
use Rattle.cm_term.specs.declared.symbol.Step.{Step}
use Rattle.cm_cond.specs.Typing.{type_along}
use Rattle.cm_cond_text.specs.Symbols.{type_after}

pub step_on : (t : Tables) (s : Step) (ss : List Step) (o : Option Ty)
    → type_along t (s ∷ ss) o ≡ type_along t ss (type_after t o s)
step_on t s ss (Some ty) = refl
step_on t s [] None = refl
step_on t s (r ∷ ss) None = refl
