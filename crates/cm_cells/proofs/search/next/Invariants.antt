use Rattle.std.proofs.Common.{◌≡◌}
use Rattle.std.specs.Option.{option_copied}
use Rattle.cm_cells.specs.CellTable.{place}
use Rattle.cm_cells.proofs.Searching.{next_from}
use Rattle.cm_cells.proofs.search.next.Given as goal

abbrev pub invariant-loop-i : goal.invariant-loop-i
invariant-loop-i l =
    next_from l.cells (place l.state (option_copied l.key)) l.i l.rest
    ≡ next_from l.cells (place l.state (option_copied l.key)) 0 l.fn.answers
