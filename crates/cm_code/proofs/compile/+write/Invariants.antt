-- What the functions on expressions come down by, and what their loops have written.
use Rattle.std.proofs.Common.{◌≡◌, ◌+◌, ◌*◌, ◌++◌, ◌≤◌, max, drop, length, map}
use Rattle.cm_model.specs.declared.body.Expr.{size-Expr}
use Rattle.cm_code.specs.Compiling.{coded_of, joined, sets_code, tests}
use Rattle.cm_code.specs.inner.Writing.{set_coded, away_by}
use Rattle.cm_code.proofs.compile.+write.Given as goal

abbrev pub decreases-write : goal.decreases-write
decreases-write l = 8 * size-Expr l.e.now

abbrev pub decreases-write_one : goal.decreases-write_one
decreases-write_one l = 8 * size-Expr l.e.now + 1

abbrev pub decreases-write_value : goal.decreases-write_value
decreases-write_value l = 8 * size-Expr l.e.now + 2

abbrev pub decreases-write_read : goal.decreases-write_read
decreases-write_read l = 8 * size-Expr l.key.now + 3

abbrev pub decreases-write_fields : goal.decreases-write_fields
decreases-write_fields l = 8 * size-Expr l.e.now + 3

abbrev pub decreases-write_two : goal.decreases-write_two
decreases-write_two l = 8 * max (size-Expr l.a.now) (size-Expr l.b.now) + 1

abbrev pub decreases-write_sets : goal.decreases-write_sets
decreases-write_sets l = 8 * goal.size-write_sets l + 2

abbrev pub decreases-write_with : goal.decreases-write_with
decreases-write_with l = 8 * max (goal.size-write_with l) (size-Expr l.e.now) + 4

abbrev pub decreases-write_make : goal.decreases-write_make
decreases-write_make l = 8 * goal.size-write_make l + 5

abbrev pub decreases-write_apply : goal.decreases-write_apply
decreases-write_apply l = 8 * goal.size-write_apply l + 5

abbrev pub decreases-write_values : goal.decreases-write_values
decreases-write_values l = 8 * goal.size-write_values l + 3

abbrev pub decreases-write_many : goal.decreases-write_many
decreases-write_many l = 8 * goal.size-write_many l + 4

abbrev pub decreases-write_tests : goal.decreases-write_tests
decreases-write_tests l = 8 * goal.size-write_tests l + 2

abbrev pub decreases-write_all : goal.decreases-write_all
decreases-write_all l = 8 * goal.size-write_all l + 3

abbrev pub decreases-write_any : goal.decreases-write_any
decreases-write_any l = 8 * goal.size-write_any l + 3

abbrev pub invariant-write_sets-sets : goal.invariant-write_sets-sets
invariant-write_sets-sets l =
    (l.tail ≡ sets_code (map (set_coded l.ints) (drop l.left l.sets)) ++ l.fn.tail) × (l.left ≤ length l.sets)

abbrev pub invariant-write_values-operands : goal.invariant-write_values-operands
invariant-write_values-operands l =
    (l.tail ≡ joined (map (coded_of l.ints) (drop l.left l.es)) ++ l.fn.tail) × (l.left ≤ length l.es)

abbrev pub invariant-write_tests-tests : goal.invariant-write_tests-tests
invariant-write_tests-tests l =
    (l.tail ≡ tests (away_by l.away) (map (coded_of l.ints) (drop l.left l.es)) ++ l.fn.tail)
    × (l.from ≡ length l.fn.tail) × (l.left ≤ length l.es)

abbrev pub decreases-write_sets-sets : goal.decreases-write_sets-sets
decreases-write_sets-sets l = l.left

abbrev pub decreases-write_values-operands : goal.decreases-write_values-operands
decreases-write_values-operands l = l.left

abbrev pub decreases-write_tests-tests : goal.decreases-write_tests-tests
decreases-write_tests-tests l = l.left
