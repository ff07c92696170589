-- The text of a literal.
use Rattle.std.specs.Prelude.{ℕ, List, [], ◌++◌, codes, Option, Some, None}
use Rattle.std.specs.Fmt.{signed_decimal}
use Rattle.cm_model.specs.Tables.{Tables}
use Rattle.cm_model.specs.declared.ty.Ty.{Ty, out-Ty}
use Rattle.cm_model.specs.declared.pair.Pair.{Pair}
use Rattle.cm_term.specs.declared.symbol.Sym.{Sym}
use Rattle.cm_cond.specs.declared.cell.CellTerm.{CellTerm}
use Rattle.cm_cond.specs.declared.literal.Ord3.{Ord3}
use Rattle.cm_cond.specs.declared.literal.Ord3.TheVariants as ord
use Rattle.cm_cond.specs.declared.literal.Literal.{Literal}
use Rattle.cm_cond.specs.declared.literal.Literal.TheVariants as literal
use Rattle.cm_cond.specs.Typing.{symbol_type}
use Rattle.cm_cond_text.specs.Symbols.{text_of_symbol}
use Rattle.cm_cond_text.specs.Cells.{offset_text, variant_text}

abbrev pub order_text : Ord3 → List ℕ
order_text ord.Less = codes " < "
order_text ord.Equal = codes " = "
order_text ord.Greater = codes " > "

abbrev pub variant_of_type : Tables → Option Ty → ℕ → List ℕ
variant_of_type t (Some ty) index = variant_text t (out-Ty ty) index
variant_of_type t None index = []

module _ (t : Tables) (p : Pair) (cells : List CellTerm) where
  abbrev pub named : Sym → List ℕ
  named x = text_of_symbol t p cells x

  -- over the case's cells
  abbrev pub text_of_literal : Literal → List ℕ
  text_of_literal (literal.Same x y) = named x ++ codes " = " ++ named y
  text_of_literal (literal.Differ x y) = named x ++ codes " != " ++ named y
  text_of_literal (literal.Order x plus op y) = named x ++ offset_text plus ++ order_text op ++ named y
  text_of_literal (literal.Against x op n) = named x ++ order_text op ++ signed_decimal n
  text_of_literal (literal.Within x plus lo hi) =
      named x ++ offset_text plus ++ codes " in " ++ signed_decimal lo ++ codes ".." ++ signed_decimal hi
  text_of_literal (literal.Tag x index) =
      named x ++ codes " is " ++ variant_of_type t (symbol_type t p cells x) index
  text_of_literal (literal.IsNone x) = named x ++ codes " is none"
  text_of_literal (literal.IsSome x) = named x ++ codes " is some"
