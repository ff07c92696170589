use Rattle.std.proofs.Common.{◌≡◌, drop}
use Rattle.std.specs.List.{list_all}
use Rattle.cm_world.specs.World.{is_exception}
use Rattle.cm_world.proofs.typing.are_exceptions.Given as goal

-- what is left to test decides
abbrev pub invariant-loop-exception : goal.invariant-loop-exception
invariant-loop-exception l = list_all (is_exception l.model) (drop l.exception-index l.exceptions)
    ≡ list_all (is_exception l.model) l.exceptions
