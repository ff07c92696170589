-- Which enum each variable of a variant was made for: that of its symbol's type.
use Rattle.std.specs.Prelude.{ℕ, List, map, Option, Some, None}
use Rattle.cm_model.specs.Tables.{Tables}
use Rattle.cm_model.specs.declared.pair.Pair.{Pair}
use Rattle.cm_term.specs.declared.symbol.Sym.{Sym}
use Rattle.cm_term.specs.Valuation.{OfTag}
use Rattle.cm_cells.specs.CellTable.{Place}
use Rattle.cm_cond.specs.declared.cell.CellTerm.{CellTerm}
use Rattle.cm_cond.specs.Form.{enum_in}
use Rattle.cm_cond.specs.Typing.{symbol_type}
use Rattle.cm_beside.specs.Nodes.{pieces_of}
use Rattle.cm_beside.specs.Seen.{symbol_at}

-- a cell of the place's state; what it holds is of the state's type, whatever the key is
abbrev pub without_key : Place → CellTerm
without_key q = record { state = q.state; key = None }

abbrev pub cells_of : List Place → List CellTerm
cells_of = map without_key

abbrev pub symbol_enum : Tables → Pair → List Place → Option Sym → Option ℕ
symbol_enum t p places (Some s) = enum_in (symbol_type t p (cells_of places) s)
symbol_enum t p places None = None

-- the enum of a variable's symbol, where there is one
abbrev pub enum_of : Tables → Pair → List Place → ℕ → Option ℕ
enum_of t p places x = symbol_enum t p places (symbol_at (pieces_of t p places) (OfTag x))
