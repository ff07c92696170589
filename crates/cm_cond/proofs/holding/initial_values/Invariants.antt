use Rattle.std.proofs.Common.{◌≡◌, ◌++◌, map, drop}
use Rattle.std.specs.List.{list_all}
use Rattle.cm_cond.specs.Keys.{cells_after, cells_on, initial_value, initial_values}
use Rattle.cm_cond.specs.Holding.{has_value}
use Rattle.cm_cond.proofs.holding.initial_values.Given as goal

-- what is left to value decides, and comes behind the values that are there
abbrev pub invariant-cells : goal.invariant-cells
invariant-cells l =
    (list_all has_value (cells_after l.model l.world l.values (drop l.cell-index l.cells))
    ≡ list_all has_value (cells_on l.model l.world l.cells))
    × (l.values ++ map (initial_value l.world) (cells_after l.model l.world l.values (drop l.cell-index l.cells))
    ≡ initial_values l.model l.world l.cells)
