use Rattle.std.proofs.Common.{take}
use Rattle.std.specs.List.{AllByRecursion}
use Rattle.cm_ctx.specs.Contexts.{IsQuestion}
use Rattle.cm_pick.specs.Picking.{fact_of}
use Rattle.cm_pick.proofs.tests.can_be_asked.Given as goal

abbrev pub invariant-loop-equality : goal.invariant-loop-equality
invariant-loop-equality l = AllByRecursion (λ e. IsQuestion l.ctx (fact_of e).question)
    (take l.equality-index l.equalities)
