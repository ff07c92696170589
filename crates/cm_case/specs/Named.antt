-- The case that is named after what is known on a path.
use Rattle.std.specs.Prelude.{◌≡◌, List, ◌++◌, map, Some}
use Rattle.cm_term.specs.declared.question.Fact.{Fact}
use Rattle.cm_cells.specs.CellTable.{Place}
use Rattle.cm_ctx.specs.declared.piece.Piece.{Piece}
use Rattle.cm_cond.specs.declared.report.Case.{Case}
use Rattle.cm_cond.specs.declared.literal.Literal.{Literal}
use Rattle.cm_name.specs.Naming.{literal_of, cell_named, AreSmall}

-- its cells are the touched ones, and its literals say these facts and these equalities, one for one
pub record IsNamedAfter (ps : List Piece) (places : List Place) (facts equalities : List Fact) (c : Case) : Type 0 where
  pub cells : c.cells ≡ map (cell_named ps) places
  pub literals : map Some c.literals ≡ map (literal_of ps) (facts ++ equalities)

-- it has a literal, and its numbers are small
abbrev pub IsSayable : List Piece → Fact → Type 0
IsSayable ps f = ((l : Literal) × (literal_of ps f ≡ Some l)) × AreSmall f.question
