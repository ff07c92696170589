use Rattle.std.proofs.Common.{sym}
use Rattle.cm_model.specs.declared.ty.Part.{Part}
use Rattle.cm_world.proofs.Uneven.{uneven}
use Rattle.cm_world.proofs.typing.are_values_of.Goals as goal

pub returns-then-values-params : goal.returns-then-values-params
returns-then-values-params c =
    record {
      exact = sym (uneven c.args.model.now (λ (p : Part). p.ty) c.args.params.now c.args.values.now
          c.if-values-params.true);
    }
