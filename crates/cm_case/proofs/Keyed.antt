-- What the lemmas on cells stand on: what is said elsewhere of symbols.
use Rattle.std.proofs.Common.{◌≡◌, List, Some, IfSome}
use Rattle.cm_model.specs.Tables.{Tables}
use Rattle.cm_model.specs.declared.pair.Pair.{Pair}
use Rattle.cm_term.specs.declared.symbol.Sym.{Sym}
use Rattle.cm_term.specs.Symbols.{symbol_value}
use Rattle.cm_term.specs.Valuation.{Valuation, Var}
use Rattle.cm_cells.specs.CellTable.{Place}
use Rattle.cm_beside.specs.Nodes.{pieces_of, IsValuation}
use Rattle.cm_beside.proofs.Seeing.{value_at}
use Rattle.cm_beside.specs.Seen.{roots_under, symbol_at}

-- where the symbol of a variable has a value, it is the variable's
abbrev pub MaySee : Tables → Pair → Type 0
MaySee t p =
    (places : List Place) (v : Valuation) → IsValuation (pieces_of t p places) v → (x : Var) (s : Sym)
    → symbol_at (pieces_of t p places) x ≡ Some s
    → IfSome (symbol_value (roots_under t p places v) s) (λ y. y ≡ value_at v x)
