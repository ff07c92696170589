use Rattle.std.proofs.Common.{◌≡◌, drop}
use Rattle.cm_world.specs.World.{are_apart}
use Rattle.cm_world.proofs.typing.are_apart.Given as goal

-- what is left to test decides
abbrev pub invariant-loop-i : goal.invariant-loop-i
invariant-loop-i l = are_apart (drop l.i l.exceptions) ≡ are_apart l.exceptions
