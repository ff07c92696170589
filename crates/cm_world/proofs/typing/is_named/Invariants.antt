use Rattle.std.proofs.Common.{◌≡◌, drop}
use Rattle.cm_eval.specs.State.{exception_of}
use Rattle.cm_world.specs.World.{is_there}
use Rattle.cm_world.proofs.typing.is_named.Given as goal

-- what is left to test decides
abbrev pub invariant-loop-exception : goal.invariant-loop-exception
invariant-loop-exception l = is_there (exception_of (drop l.exception-index l.exceptions) l.cell)
    ≡ is_there (exception_of l.exceptions l.cell)
