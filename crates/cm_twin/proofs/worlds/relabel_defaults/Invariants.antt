-- The defaults before the index are made.
use Rattle.std.proofs.Common.{◌≡◌, ◌++◌, drop}
use Rattle.cm_twin.specs.Names.{exchange}
use Rattle.cm_twin.proofs.Building.{made, cell_type}
use Rattle.cm_twin.proofs.worlds.relabel_defaults.Given as goal

abbrev pub invariant-loop-i : goal.invariant-loop-i
invariant-loop-i l =
    l.others ++ made l.fn.model (exchange l.fn.swap) cell_type (drop l.i l.states) (drop l.i l.values)
    ≡ made l.fn.model (exchange l.fn.swap) cell_type l.fn.states l.fn.values
