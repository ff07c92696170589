use Rattle.std.proofs.Common.{◌∙◌, ap, length}
use Rattle.cm_order.specs.inner.Shells.{number_at}
use Rattle.cm_order.proofs.Valuations.{one_proper, satisfiable}
use Rattle.cm_order.proofs.bounds.Bounds.new.Goals as goal

pub returns-clause-satisfiable : goal.returns-clause-satisfiable
returns-clause-satisfiable c =
    let zeros = c.in_ok-from_slice.ensures.items ∙ c.as_slice.ensures in
    satisfiable 1 c.in_ok-from_slice.field-0.items (one_proper c.in_ok-from_slice.field-0.items (ap length zeros)
    (ap (λ entries. number_at entries 0) zeros))
