-- The values before the index are made.
use Rattle.std.proofs.Common.{◌≡◌, ◌++◌, drop}
use Rattle.cm_twin.specs.Names.{exchange}
use Rattle.cm_twin.proofs.Building.{made, part_type}
use Rattle.cm_twin.proofs.worlds.relabel_values.Given as goal

abbrev pub invariant-loop-i : goal.invariant-loop-i
invariant-loop-i l =
    l.others ++ made l.fn.model (exchange l.fn.swap) part_type (drop l.i l.params) (drop l.i l.values)
    ≡ made l.fn.model (exchange l.fn.swap) part_type l.fn.params l.fn.values
