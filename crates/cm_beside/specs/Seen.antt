-- Which symbols have values under a valuation of the arguments and of some cells.
use Rattle.std.specs.Prelude.{ℕ, zero, suc, Bool, false, List, map, slice_get, Option, Some, None}
use Rattle.cm_model.specs.Tables.{Tables}
use Rattle.cm_model.specs.declared.pair.Pair.{Pair}
use Rattle.cm_term.specs.declared.symbol.Sym.{Sym}
use Rattle.cm_term.specs.Valuation.{Valuation, Var, OfElement, OfNumber, OfTag, OfOption}
use Rattle.cm_term.specs.Terms.{value_of}
use Rattle.cm_term.specs.Symbols.{Roots, symbol_value}
use Rattle.cm_cells.specs.Alike.{is_there}
use Rattle.cm_cells.specs.CellTable.{Place}
use Rattle.cm_ctx.specs.declared.piece.Piece.{Piece}
use Rattle.cm_ctx.specs.declared.naming.Kind.TheVariants as kind
use Rattle.cm_ctx.specs.Naming.{syms_of}
use Rattle.cm_exec.specs.Run.{pieces_for}
use Rattle.cm_beside.specs.Nodes.{args_a, args_b, counts_b, pieces_of}

-- the arguments and what the cells hold at first
abbrev pub roots_under : Tables → Pair → List Place → Valuation → Roots
roots_under t p places v = record {
  a = map (value_of v) (args_a t p);
  b = map (value_of v) (args_b t p);
  cells = map (λ (q : Piece). Some (value_of v q.term)) (pieces_for t (counts_b t p) 0 places);
}

-- number 0 is the constant 0, which has no symbol
abbrev pub number_symbol : List Piece → ℕ → Option Sym
number_symbol ps zero = None
number_symbol ps (suc x) = slice_get (syms_of kind.Number ps) x

-- the symbol that a variable was made for
abbrev pub symbol_at : List Piece → Var → Option Sym
symbol_at ps (OfElement x) = slice_get (syms_of kind.Element ps) x
symbol_at ps (OfNumber x) = number_symbol ps x
symbol_at ps (OfTag x) = slice_get (syms_of kind.Tag ps) x
symbol_at ps (OfOption x) = slice_get (syms_of kind.Option ps) x

abbrev pub is_seen_in : Roots → Option Sym → Bool
is_seen_in r (Some s) = is_there (symbol_value r s)
is_seen_in r None = false

-- whether a variable is one of the arguments and of these cells, and its symbol has a value: it lies in the payload of
-- no none
abbrev pub has_value : Tables → Pair → List Place → Valuation → Var → Bool
has_value t p places v x = is_seen_in (roots_under t p places v) (symbol_at (pieces_of t p places) x)
