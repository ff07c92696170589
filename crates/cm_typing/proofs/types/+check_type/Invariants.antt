use Rattle.std.proofs.Common.{◌+◌, ◌*◌}
use Rattle.cm_typing.proofs.types.+check_type.Given as goal

abbrev pub decreases-check_type : goal.decreases-check_type
decreases-check_type l = 2 * goal.size-check_type l

abbrev pub decreases-check_optional : goal.decreases-check_optional
decreases-check_optional l = 2 * goal.size-check_optional l + 1
