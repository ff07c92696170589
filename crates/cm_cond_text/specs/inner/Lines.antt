-- The lines of a case in a scope.
use Rattle.std.specs.Prelude.{ℕ, List, ◌++◌, flat_map, codes, decimal}
use Rattle.cm_cond.specs.declared.cell.CellTerm.{CellTerm}
use Rattle.cm_cond.specs.declared.literal.Literal.{Literal}
use Rattle.cm_cond_text.specs.declared.scope.Scope.{Scope}
use Rattle.cm_cond_text.specs.inner.Scopes.{cell_in}
use Rattle.cm_cond_text.specs.Reports.{cell_lines, literal_line}

abbrev pub cell_line : Scope → ℕ → CellTerm → List ℕ
cell_line s n c = codes "cell c" ++ decimal n ++ codes " = " ++ cell_in s c ++ codes "\n"

abbrev pub cell_lines_in : Scope → ℕ → List CellTerm → List ℕ
cell_lines_in s = cell_lines s.model.now s.pair s.cells.now

abbrev pub literal_lines_in : Scope → List Literal → List ℕ
literal_lines_in s = flat_map (literal_line s.model.now s.pair s.cells.now)
