-- The exceptions before the index are made.
use Rattle.std.proofs.Common.{◌≡◌, map, take}
use Rattle.cm_twin.specs.Names.{exchange}
use Rattle.cm_twin.specs.Twins.{except_named}
use Rattle.cm_twin.proofs.worlds.relabel_exceptions.Given as goal

abbrev pub invariant-loop-exception : goal.invariant-loop-exception
invariant-loop-exception l =
    l.others ≡ map (except_named l.fn.model (exchange l.fn.swap)) (take l.exception-index l.exceptions)
