use Rattle.std.proofs.Common.{◌+◌, ◌*◌, ◌≤◌, length}
use Rattle.cm_syntax.specs.inner.Machine.{Ands, Ors, MoreSets, MoreArgs, followed_by, Partly}
use Rattle.cm_syntax.proofs.reader.Reader.+read_expr.Given as goal

abbrev pub decreases-read_expr : goal.decreases-read_expr
decreases-read_expr l = 10 * length l.self.now.left + 7

abbrev pub decreases-read_boxed : goal.decreases-read_boxed
decreases-read_boxed l = 10 * length l.self.now.left + 8

abbrev pub decreases-read_joined : goal.decreases-read_joined
decreases-read_joined l = 10 * length l.self.now.left + 1

abbrev pub decreases-read_and : goal.decreases-read_and
decreases-read_and l = 10 * length l.self.now.left + 0

abbrev pub decreases-read_or : goal.decreases-read_or
decreases-read_or l = 10 * length l.self.now.left + 0

abbrev pub decreases-read_ands : goal.decreases-read_ands
decreases-read_ands l = 10 * length l.self.now.left + 0

abbrev pub decreases-read_ors : goal.decreases-read_ors
decreases-read_ors l = 10 * length l.self.now.left + 0

abbrev pub decreases-read_cmp : goal.decreases-read_cmp
decreases-read_cmp l = 10 * length l.self.now.left + 6

abbrev pub decreases-read_right : goal.decreases-read_right
decreases-read_right l = 10 * length l.self.now.left + 0

abbrev pub decreases-read_sum : goal.decreases-read_sum
decreases-read_sum l = 10 * length l.self.now.left + 5

abbrev pub decreases-read_unary : goal.decreases-read_unary
decreases-read_unary l = 10 * length l.self.now.left + 4

abbrev pub decreases-read_not : goal.decreases-read_not
decreases-read_not l = 10 * length l.self.now.left + 0

abbrev pub decreases-read_bare : goal.decreases-read_bare
decreases-read_bare l = 10 * length l.self.now.left + 3

abbrev pub decreases-read_post : goal.decreases-read_post
decreases-read_post l = 10 * length l.self.now.left + 2

abbrev pub decreases-read_with : goal.decreases-read_with
decreases-read_with l = 10 * length l.self.now.left + 1

abbrev pub decreases-read_sets : goal.decreases-read_sets
decreases-read_sets l = 10 * length l.self.now.left + 0

abbrev pub decreases-read_set : goal.decreases-read_set
decreases-read_set l = 10 * length l.self.now.left + 0

abbrev pub decreases-read_more_sets : goal.decreases-read_more_sets
decreases-read_more_sets l = 10 * length l.self.now.left + 0

abbrev pub decreases-read_prim : goal.decreases-read_prim
decreases-read_prim l = 10 * length l.self.now.left + 1

abbrev pub decreases-read_some_of : goal.decreases-read_some_of
decreases-read_some_of l = 10 * length l.self.now.left + 0

abbrev pub decreases-read_group : goal.decreases-read_group
decreases-read_group l = 10 * length l.self.now.left + 0

abbrev pub decreases-read_named : goal.decreases-read_named
decreases-read_named l = 10 * length l.self.now.left + 0

abbrev pub decreases-read_after_name : goal.decreases-read_after_name
decreases-read_after_name l = 10 * length l.self.now.left + 1

abbrev pub decreases-read_key : goal.decreases-read_key
decreases-read_key l = 10 * length l.self.now.left + 0

abbrev pub decreases-read_arguments : goal.decreases-read_arguments
decreases-read_arguments l = 10 * length l.self.now.left + 0

abbrev pub decreases-read_args : goal.decreases-read_args
decreases-read_args l = 10 * length l.self.now.left + 9

abbrev pub decreases-read_some_args : goal.decreases-read_some_args
decreases-read_some_args l = 10 * length l.self.now.left + 8

abbrev pub decreases-read_more_args : goal.decreases-read_more_args
decreases-read_more_args l = 10 * length l.self.now.left + 0

abbrev pub invariant-read_ands-items : goal.invariant-read_ands-items
invariant-read_ands-items l = record {
  shorter : length l.self.left ≤ length l.fn.self.left;
  reads : Partly Ands followed_by l.more l.fn.self l.self;
}

abbrev pub decreases-read_ands-items : goal.decreases-read_ands-items
decreases-read_ands-items l = length l.self.left

abbrev pub invariant-read_ors-items : goal.invariant-read_ors-items
invariant-read_ors-items l = record {
  shorter : length l.self.left ≤ length l.fn.self.left;
  reads : Partly Ors followed_by l.more l.fn.self l.self;
}

abbrev pub decreases-read_ors-items : goal.decreases-read_ors-items
decreases-read_ors-items l = length l.self.left

abbrev pub invariant-read_more_sets-items : goal.invariant-read_more_sets-items
invariant-read_more_sets-items l = record {
  shorter : length l.self.left ≤ length l.fn.self.left;
  reads : Partly MoreSets followed_by l.more l.fn.self l.self;
}

abbrev pub decreases-read_more_sets-items : goal.decreases-read_more_sets-items
decreases-read_more_sets-items l = length l.self.left

abbrev pub invariant-read_more_args-items : goal.invariant-read_more_args-items
invariant-read_more_args-items l = record {
  shorter : length l.self.left ≤ length l.fn.self.left;
  reads : Partly MoreArgs followed_by l.more l.fn.self l.self;
}

abbrev pub decreases-read_more_args-items : goal.decreases-read_more_args-items
decreases-read_more_args-items l = length l.self.left
