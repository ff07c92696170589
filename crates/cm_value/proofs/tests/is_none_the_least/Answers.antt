-- The type is one of the example.
use Rattle.std.proofs.Common.{sym, subst}
use Rattle.cm_model.specs.Types.{IsType}
use Rattle.cm_model.specs.Tables.{Tables}
use Rattle.cm_model.specs.declared.ty.Ty.{Ty}
use Rattle.cm_model.specs.declared.ty.Ty.TheVariants as ty
use Rattle.cm_value.proofs.ExampleLemmas.{option_type}
use Rattle.cm_value.proofs.tests.is_none_the_least.Goals as goal

pub is_least-requires : goal.is_least-requires
is_least-requires c =
    subst (λ (u : Ty). IsType c.args.model.now (ty.Option u)) (sym c.in_ok-payload.ensures)
    (subst (λ (t : Tables). IsType t (ty.Option (ty.Rec 0))) (sym c.requires) option_type)
