use Rattle.std.proofs.Common.{◌≡◌, ◌++◌, drop}
use Rattle.cm_cond_text.specs.inner.Lines.{cell_lines_in}
use Rattle.cm_cond_text.proofs.report.push_cells.Given as goal

-- with what is left it is the whole
abbrev pub invariant-cells : goal.invariant-cells
invariant-cells l =
    l.to.items ++ cell_lines_in l.scope l.i (drop l.i l.scope.cells.now)
    ≡ l.fn.to.items ++ cell_lines_in l.scope 0 l.scope.cells.now
