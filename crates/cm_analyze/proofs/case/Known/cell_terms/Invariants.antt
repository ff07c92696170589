use Rattle.std.proofs.Common.{◌≡◌, ◌++◌, map, drop}
use Rattle.cm_name.specs.Naming.{cell_named}
use Rattle.cm_analyze.proofs.case.Known.cell_terms.Given as goal

-- what is pushed and what is left
abbrev pub invariant-loop-i : goal.invariant-loop-i
invariant-loop-i l =
    l.cells ++ map (cell_named l.self.ctx.now.pieces) (drop l.i l.self.cells.now.places)
    ≡ map (cell_named l.self.ctx.now.pieces) l.self.cells.now.places
