use Rattle.std.proofs.Common.{◌≡◌, ◌++◌}
use Rattle.cm_beside.specs.Beside.{finals}
use Rattle.cm_chain.proofs.Finals.{from}
use Rattle.cm_chain.proofs.pairs.push_finals.Given as goal

abbrev pub invariant-cells : goal.invariant-cells
invariant-cells l =
    l.pairs ++ from l.cell l.cells.written l.cells.ab l.cells.ba
    ≡ l.initial.pairs ++ finals l.cells.written l.cells.ab l.cells.ba
