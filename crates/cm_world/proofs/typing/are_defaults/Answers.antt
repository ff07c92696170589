use Rattle.std.proofs.Common.{sym}
use Rattle.cm_model.specs.declared.body.StateDecl.{StateDecl}
use Rattle.cm_world.proofs.Uneven.{uneven}
use Rattle.cm_world.proofs.typing.are_defaults.Goals as goal

pub returns-then-values-states : goal.returns-then-values-states
returns-then-values-states c =
    record {
      exact = sym (uneven c.args.model.now (λ (d : StateDecl). d.value) c.args.states.now c.args.values.now
          c.if-values-states.true);
    }
