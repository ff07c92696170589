use Rattle.std.proofs.Common.{◌*◌, ◌+◌}
use Rattle.exec_cases.proofs.tree.+tree.Given as goal

abbrev pub decreases-follow : goal.decreases-follow
decreases-follow l = 4 * l.left + 3

abbrev pub decreases-go_on : goal.decreases-go_on
decreases-go_on l = 4 * l.left + 2

abbrev pub decreases-fork : goal.decreases-fork
decreases-fork l = 4 * l.left + 1

abbrev pub decreases-branch : goal.decreases-branch
decreases-branch l = 4 * l.left
