use Rattle.std.proofs.Common.{arith, length}
use Rattle.cm_order.proofs.Valuations.{count_of_rows, satisfiable}
use Rattle.cm_order.proofs.bounds.Bounds.has_valuation.Goals as goal

pub returns-clause-satisfiable : goal.returns-clause-satisfiable
returns-clause-satisfiable c = rw (← c.self.view_is) (satisfiable c.self.inside.count c.self.inside.entries.items
    c.self.invariant)

pub returns-clause-some : goal.returns-clause-some
returns-clause-some c = rw (← c.self.view_is, count_of_rows c.self.inside.count c.self.inside.entries.items)
    c.self.invariant.some
