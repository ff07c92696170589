-- The text of a report, a line for each part.
use Rattle.std.specs.Prelude.{ℕ, suc, List, [], ◌∷◌, ◌++◌, flat_map, codes, decimal, slice_get, Option, Some, None}
use Rattle.cm_model.specs.Tables.{Tables}
use Rattle.cm_model.specs.declared.body.Call.{Call}
use Rattle.cm_model.specs.declared.pair.Pair.{Pair}
use Rattle.cm_model.specs.declared.pair.Over.{Over}
use Rattle.cm_model.specs.declared.pair.Over.TheVariants as over
use Rattle.cm_cond.specs.declared.cell.CellTerm.{CellTerm}
use Rattle.cm_cond.specs.declared.literal.Literal.{Literal}
use Rattle.cm_cond.specs.declared.report.Case.{Case}
use Rattle.cm_cond.specs.declared.report.PairReport.{PairReport}
use Rattle.cm_cond.specs.declared.report.PairReport.TheVariants as report
use Rattle.cm_cond.specs.declared.report.PairEntry.{PairEntry}
use Rattle.cm_cond.specs.declared.report.Report.{Report}
use Rattle.cm_cond_text.specs.Cells.{text_of_cell}
use Rattle.cm_cond_text.specs.Literals.{text_of_literal}

abbrev pub call_name : Option Call → List ℕ
call_name (Some d) = d.name
call_name None = []

-- a line for each cell from a number on
abbrev pub cell_lines : Tables → Pair → List CellTerm → ℕ → List CellTerm → List ℕ
cell_lines t p cells n [] = []
cell_lines t p cells n (c ∷ cs) =
    codes "cell c" ++ decimal n ++ codes " = " ++ text_of_cell t p cells c ++ codes "\n" ++ cell_lines t p cells (suc n) cs

abbrev pub literal_line : Tables → Pair → List CellTerm → Literal → List ℕ
literal_line t p cells l = text_of_literal t p cells l ++ codes "\n"

abbrev pub text_of_case : Tables → Pair → Case → List ℕ
text_of_case t p c =
    codes "case\n" ++ cell_lines t p c.cells 0 c.cells ++ flat_map (literal_line t p c.cells) c.literals
    ++ codes "end\n"

abbrev pub over_text : Over → List ℕ
over_text over.Paths = codes "over paths\n"
over_text over.Long = codes "over long\n"
over_text over.Cells = codes "over cells\n"

abbrev pub body_text : Tables → Pair → PairReport → List ℕ
body_text t p (report.Over o) = over_text o
body_text t p (report.Cases paths condition) =
    codes "paths " ++ decimal paths ++ codes "\n" ++ flat_map (text_of_case t p) condition.cases

abbrev pub pair_line : Tables → Pair → List ℕ
pair_line t p =
    codes "pair " ++ call_name (slice_get t.calls p.a) ++ codes " " ++ call_name (slice_get t.calls p.b) ++ codes "\n"

abbrev pub text_of_entry : Tables → PairEntry → List ℕ
text_of_entry t e = pair_line t e.pair ++ body_text t e.pair e.body

abbrev pub text_of_report : Tables → Report → List ℕ
text_of_report t r = codes "commuter report 1\n" ++ flat_map (text_of_entry t) r.pairs ++ codes "done\n"
