use Rattle.std.proofs.Common.{◌≡◌, ◌+◌, ◌*◌, max, map, sum, drop}
use Rattle.cm_model.specs.Weights.{expr_weight}
use Rattle.cm_model.specs.declared.body.Expr.{size-Expr}
use Rattle.cm_typing.specs.Counts.{counted, set_weight}
use Rattle.cm_typing.proofs.weights.+weigh.Given as goal

abbrev pub invariant-weigh_all-loop-e : goal.invariant-weigh_all-loop-e
invariant-weigh_all-loop-e l =
    (counted (l.total + sum (map (expr_weight l.funs) (drop l.e-index l.es)))
    ≡ counted (sum (map (expr_weight l.fn.funs) l.fn.es))) × (l.total ≡ counted l.total)

abbrev pub invariant-weigh_sets-loop-set : goal.invariant-weigh_sets-loop-set
invariant-weigh_sets-loop-set l =
    (counted (l.total + sum (map (set_weight l.funs) (drop l.set-index l.sets)))
    ≡ counted (sum (map (set_weight l.fn.funs) l.fn.sets))) × (l.total ≡ counted l.total)

abbrev pub decreases-weigh : goal.decreases-weigh
decreases-weigh l = 8 * goal.size-weigh l

abbrev pub decreases-weigh_one : goal.decreases-weigh_one
decreases-weigh_one l = 8 * goal.size-weigh_one l + 1

abbrev pub decreases-weigh_two : goal.decreases-weigh_two
decreases-weigh_two l = 8 * max (size-Expr l.left.now) (size-Expr l.right.now) + 2

abbrev pub decreases-weigh_all : goal.decreases-weigh_all
decreases-weigh_all l = 8 * goal.size-weigh_all l + 1

abbrev pub decreases-weigh_node : goal.decreases-weigh_node
decreases-weigh_node l = 8 * goal.size-weigh_node l + 2

abbrev pub decreases-weigh_apply : goal.decreases-weigh_apply
decreases-weigh_apply l = 8 * goal.size-weigh_apply l + 3

abbrev pub decreases-weigh_set : goal.decreases-weigh_set
decreases-weigh_set l = 8 * goal.size-weigh_set l

abbrev pub decreases-weigh_sets : goal.decreases-weigh_sets
decreases-weigh_sets l = 8 * goal.size-weigh_sets l + 1

abbrev pub decreases-weigh_with : goal.decreases-weigh_with
decreases-weigh_with l = 8 * max (goal.size-weigh_with l) (size-Expr l.of.now) + 3
