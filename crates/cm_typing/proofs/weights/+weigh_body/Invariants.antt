use Rattle.std.proofs.Common.{◌≡◌, ◌+◌, ◌*◌, max, map, sum, drop}
use Rattle.cm_model.specs.Weights.{stmt_weight}
use Rattle.cm_typing.specs.Counts.{counted}
use Rattle.cm_typing.proofs.weights.+weigh_body.Given as goal

abbrev pub invariant-weigh_body-loop-stmt : goal.invariant-weigh_body-loop-stmt
invariant-weigh_body-loop-stmt l =
    (counted (l.total + sum (map (stmt_weight l.funs) (drop l.stmt-index l.body)))
    ≡ counted (sum (map (stmt_weight l.fn.funs) l.fn.body))) × (l.total ≡ counted l.total)

abbrev pub decreases-weigh_body : goal.decreases-weigh_body
decreases-weigh_body l = 8 * goal.size-weigh_body l + 1

abbrev pub decreases-weigh_stmt : goal.decreases-weigh_stmt
decreases-weigh_stmt l = 8 * goal.size-weigh_stmt l
