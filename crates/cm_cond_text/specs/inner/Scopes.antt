-- Types and texts in a scope.
use Rattle.std.specs.Prelude.{ℕ, ℤ, List, ◌++◌, map, codes, Option}
use Rattle.std.specs.Fmt.{signed_decimal}
use Rattle.cm_model.specs.declared.ty.Ty.{Ty}
use Rattle.cm_term.specs.declared.symbol.Root.{Root}
use Rattle.cm_term.specs.declared.symbol.Sym.{Sym}
use Rattle.cm_cond.specs.declared.cell.KeyTerm.{KeyTerm}
use Rattle.cm_cond.specs.declared.cell.CellTerm.{CellTerm}
use Rattle.cm_cond.specs.declared.literal.Literal.{Literal}
use Rattle.cm_cond.specs.Typing.{root_type, symbol_type}
use Rattle.cm_cond_text.specs.declared.scope.Scope.{Scope}
use Rattle.cm_cond_text.specs.Symbols.{text_of_symbol}
use Rattle.cm_cond_text.specs.Cells.{KeyText, key_text, number_text, bracketed, text_of_cell, offset_text}
use Rattle.cm_cond_text.specs.Literals.{text_of_literal}

abbrev pub root_type_in : Scope → Root → Option Ty
root_type_in s = root_type s.model.now s.pair s.cells.now

abbrev pub symbol_type_in : Scope → Sym → Option Ty
symbol_type_in s = symbol_type s.model.now s.pair s.cells.now

abbrev pub symbol_in : Scope → Sym → List ℕ
symbol_in s = text_of_symbol s.model.now s.pair s.cells.now

abbrev pub number_in : Scope → Option Sym → ℤ → List ℕ
number_in s = number_text s.model.now s.pair s.cells.now

abbrev pub key_in : Scope → KeyTerm → KeyText
key_in s = key_text s.model.now s.pair s.cells.now

abbrev pub keys_in : Scope → List KeyTerm → List KeyText
keys_in s = map (key_in s)

abbrev pub bracketed_in : Scope → Option Ty → Option KeyTerm → List ℕ
bracketed_in s = bracketed s.model.now s.pair s.cells.now

abbrev pub cell_in : Scope → CellTerm → List ℕ
cell_in s = text_of_cell s.model.now s.pair s.cells.now

abbrev pub literal_in : Scope → Literal → List ℕ
literal_in s = text_of_literal s.model.now s.pair s.cells.now

abbrev pub raised_in : Scope → Sym → ℤ → List ℕ
raised_in s x plus = symbol_in s x ++ offset_text plus

abbrev pub range_text : ℤ → ℤ → List ℕ
range_text lo hi = codes " in " ++ signed_decimal lo ++ codes ".." ++ signed_decimal hi

abbrev pub between : Scope → Sym → List ℕ → Sym → List ℕ
between s x word y = symbol_in s x ++ word ++ symbol_in s y
