use Rattle.std.proofs.Common.{◌≡◌, [], map, drop, ℕ, ◌+◌, ◌*◌, max, List}
use Rattle.cm_syntax.specs.declared.tree.Cmp.{size-Cmp}
use Rattle.cm_syntax.specs.declared.tree.Sum.{size-Sum}
use Rattle.cm_typing.specs.Expressions.{expr_told, cmp_told, set_told, operands_told, args_told, sets_told, no_sets}
use Rattle.cm_typing.proofs.scope.Scope.+check_expr.Given as goal

abbrev pub invariant-check_args-loop-e : goal.invariant-check_args-loop-e
invariant-check_args-loop-e l =
    args_told l.done (map expr_told (drop l.e-index l.args)) l.types l.self l.locals
    ≡ args_told [] (map expr_told l.fn.args) l.fn.types l.fn.self l.fn.locals

abbrev pub invariant-check_more-loop-e : goal.invariant-check_more-loop-e
invariant-check_more-loop-e l =
    operands_told l.done (map cmp_told (drop l.e-index l.more)) l.self l.locals
    ≡ operands_told l.fn.done (map cmp_told l.fn.more) l.fn.self l.fn.locals

abbrev pub invariant-check_sets-loop-set : goal.invariant-check_sets-loop-set
invariant-check_sets-loop-set l =
    sets_told l.done (map set_told (drop l.set-index l.sets)) l.kind l.self l.locals
    ≡ sets_told no_sets (map set_told l.fn.sets) l.fn.kind l.fn.self l.fn.locals

abbrev pub decreases-check_expr : goal.decreases-check_expr
decreases-check_expr l = 8 * goal.size-check_expr l

abbrev pub decreases-check_all : goal.decreases-check_all
decreases-check_all l = 8 * max (goal.size-check_all l) (max (size-Cmp l.first.now) (size-Cmp l.second.now)) + 4

abbrev pub decreases-check_any : goal.decreases-check_any
decreases-check_any l = 8 * max (goal.size-check_any l) (max (size-Cmp l.first.now) (size-Cmp l.second.now)) + 4

abbrev pub decreases-check_operands : goal.decreases-check_operands
decreases-check_operands l = 8 * max (goal.size-check_operands l) (max (size-Cmp l.first.now)
    (size-Cmp l.second.now)) + 3

abbrev pub decreases-check_more : goal.decreases-check_more
decreases-check_more l = 8 * goal.size-check_more l + 2

abbrev pub decreases-check_operand : goal.decreases-check_operand
decreases-check_operand l = 8 * goal.size-check_operand l + 1

abbrev pub decreases-check_cmp : goal.decreases-check_cmp
decreases-check_cmp l = 8 * goal.size-check_cmp l

abbrev pub decreases-check_compared : goal.decreases-check_compared
decreases-check_compared l = 8 * max (size-Sum l.left.now) (size-Sum l.right.now) + 1

abbrev pub decreases-check_sum : goal.decreases-check_sum
decreases-check_sum l = 8 * goal.size-check_sum l

abbrev pub decreases-check_shift : goal.decreases-check_shift
decreases-check_shift l = 8 * goal.size-check_shift l + 1

abbrev pub decreases-check_unary : goal.decreases-check_unary
decreases-check_unary l = 8 * goal.size-check_unary l

abbrev pub decreases-check_not : goal.decreases-check_not
decreases-check_not l = 8 * goal.size-check_not l + 1

abbrev pub decreases-check_post : goal.decreases-check_post
decreases-check_post l = 8 * goal.size-check_post l

abbrev pub decreases-check_prim : goal.decreases-check_prim
decreases-check_prim l = 8 * goal.size-check_prim l

abbrev pub decreases-check_with : goal.decreases-check_with
decreases-check_with l = 8 * goal.size-check_with l + 3

abbrev pub decreases-check_sets : goal.decreases-check_sets
decreases-check_sets l = 8 * goal.size-check_sets l + 2

abbrev pub decreases-check_next_set : goal.decreases-check_next_set
decreases-check_next_set l = 8 * goal.size-check_next_set l + 1

abbrev pub decreases-check_set_value : goal.decreases-check_set_value
decreases-check_set_value l = 8 * goal.size-check_set_value l + 1

abbrev pub decreases-check_entry : goal.decreases-check_entry
decreases-check_entry l = 8 * goal.size-check_entry l + 1

abbrev pub decreases-check_some : goal.decreases-check_some
decreases-check_some l = 8 * goal.size-check_some l + 1

abbrev pub decreases-check_group : goal.decreases-check_group
decreases-check_group l = 8 * goal.size-check_group l + 1

abbrev pub decreases-check_apply : goal.decreases-check_apply
decreases-check_apply l = 8 * goal.size-check_apply l + 5

abbrev pub decreases-check_applied : goal.decreases-check_applied
decreases-check_applied l = 8 * goal.size-check_applied l + 4

abbrev pub decreases-check_make : goal.decreases-check_make
decreases-check_make l = 8 * goal.size-check_make l + 3

abbrev pub decreases-check_call : goal.decreases-check_call
decreases-check_call l = 8 * goal.size-check_call l + 3

abbrev pub decreases-check_counted : goal.decreases-check_counted
decreases-check_counted l = 8 * goal.size-check_counted l + 2

abbrev pub decreases-check_args : goal.decreases-check_args
decreases-check_args l = 8 * goal.size-check_args l + 1

abbrev pub decreases-check_into : goal.decreases-check_into
decreases-check_into l = 8 * goal.size-check_into l + 3

abbrev pub decreases-check_converted : goal.decreases-check_converted
decreases-check_converted l = 8 * goal.size-check_converted l + 1
