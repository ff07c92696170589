-- The text of a cell.
use Rattle.std.specs.Prelude.{ℕ, zero, suc, ℤ, pos, neg_ℤ, int_lt, List, [], ◌∷◌, ◌++◌, map, codes, slice_get, Option, Some, None, if◌then◌else◌}
use Rattle.std.specs.Fmt.{signed_decimal}
use Rattle.cm_model.specs.Tables.{Tables}
use Rattle.cm_model.specs.Types.{or_else}
use Rattle.cm_model.specs.declared.ty.Ty.{Ty, out-Ty}
use Rattle.cm_model.specs.declared.ty.Ty.TheOpen.{Ty-F}
use Rattle.cm_model.specs.declared.ty.EnumDecl.{EnumDecl}
use Rattle.cm_model.specs.declared.ty.RecDecl.{RecDecl}
use Rattle.cm_model.specs.declared.body.StateDecl.{StateDecl}
use Rattle.cm_model.specs.declared.pair.Pair.{Pair}
use Rattle.cm_value.specs.Membership.{field_types}
use Rattle.cm_term.specs.declared.symbol.Sym.{Sym}
use Rattle.cm_cond.specs.declared.cell.KeyTerm.{KeyTerm}
use Rattle.cm_cond.specs.declared.cell.KeyTerm.TheOpen.{KeyTerm-F}
use Rattle.cm_cond.specs.declared.cell.KeyTerm.TheFolds.{fold-KeyTerm}
use Rattle.cm_cond.specs.declared.cell.CellTerm.{CellTerm}
use Rattle.cm_cond_text.specs.Symbols.{text_of_symbol}

-- how much more a number is, if it is
abbrev pub offset_text : ℤ → List ℕ
offset_text n =
    if int_lt (pos 0) n then codes " + " ++ signed_decimal n
    else (if int_lt n (pos 0) then codes " - " ++ signed_decimal (neg_ℤ n) else [])

abbrev pub name_in : Option EnumDecl → ℕ → List ℕ
name_in (Some d) index = or_else [] (slice_get d.variants index)
name_in None index = []

abbrev pub variant_text : Tables → Ty-F Ty → ℕ → List ℕ
variant_text t (Ty-F.Enum e) index = name_in (slice_get t.enums e) index
variant_text t _ index = []

-- before each part but the first
abbrev pub separator : ℕ → List ℕ
separator zero = []
separator (suc n) = codes ", "

-- the text of a key of a type
abbrev pub KeyText : Type 0
KeyText = Ty → List ℕ

-- the fields from a number on
abbrev pub fields_text : ℕ → List KeyText → List Ty → List ℕ
fields_text n [] tys = []
fields_text n (k ∷ ks) [] = []
fields_text n (k ∷ ks) (ty ∷ tys) = separator n ++ k ty ++ fields_text (suc n) ks tys

abbrev pub declared_text : RecDecl → List KeyText → List ℕ
declared_text d ks = d.name ++ codes "(" ++ fields_text 0 ks (field_types d) ++ codes ")"

abbrev pub record_in : Option RecDecl → List KeyText → List ℕ
record_in (Some d) ks = declared_text d ks
record_in None ks = []

abbrev pub record_text : Tables → Ty-F Ty → List KeyText → List ℕ
record_text t (Ty-F.Rec r) ks = record_in (slice_get t.records r) ks
record_text t _ ks = []

module _ (t : Tables) (p : Pair) (cells : List CellTerm) where
  abbrev pub number_text : Option Sym → ℤ → List ℕ
  number_text (Some x) plus = text_of_symbol t p cells x ++ offset_text plus
  number_text None plus = signed_decimal plus

  abbrev pub key_step : KeyTerm-F KeyText → KeyText
  key_step (KeyTerm-F.Elem x) ty = text_of_symbol t p cells x
  key_step (KeyTerm-F.Num x plus) ty = number_text x plus
  key_step (KeyTerm-F.TagOf x) ty = text_of_symbol t p cells x
  key_step (KeyTerm-F.Tag index) ty = variant_text t (out-Ty ty) index
  key_step (KeyTerm-F.Rec ks) ty = record_text t (out-Ty ty) ks

  abbrev pub key_text : KeyTerm → KeyText
  key_text = fold-KeyTerm KeyText key_step

  abbrev pub bracketed : Option Ty → Option KeyTerm → List ℕ
  bracketed (Some ty) (Some k) = codes "[" ++ key_text k ty ++ codes "]"
  bracketed (Some ty) None = []
  bracketed None key = []

  abbrev pub cell_in : Option StateDecl → Option KeyTerm → List ℕ
  cell_in (Some d) key = d.name ++ bracketed d.key key
  cell_in None key = []

  -- the state, with the key in brackets where it is a map
  abbrev pub text_of_cell : CellTerm → List ℕ
  text_of_cell c = cell_in (slice_get t.states c.state) c.key
