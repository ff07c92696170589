use Rattle.std.proofs.Common.{◌≡◌, arith}
use Rattle.cm_model.specs.Weights.{body_weight}
use Rattle.cm_typing.proofs.Telling.{weight_refused}
use Rattle.cm_typing.proofs.scope.Scope.check_weight.Goals as goal

pub returns-else-weight-from : goal.returns-else-weight-from
returns-else-weight-from c = weight_refused _ _ _ _ (rw (c.as_slice.ensures) at c.weigh_body-weight.ensures)
    (omega (arith, c.if-weight-from.false)) c.refused.ensures
