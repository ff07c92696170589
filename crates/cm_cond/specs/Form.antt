-- When a report is well formed.
use Rattle.std.specs.Prelude.{ℕ, ltb, leb, ℤ, pos, neg_ℤ, int_le, Bool, true, false, ◌&&◌, ◌||◌, ◌==◌, List, [], ◌∷◌, ◌++◌}
use Rattle.std.specs.Prelude.{map, length, slice_get, Option, Some, None, IsTrue}
use Rattle.std.specs.List.{list_all}
use Rattle.cm_model.specs.Tables.{Tables}
use Rattle.cm_model.specs.Limits.{cell_limit, number_limit, is_number}
use Rattle.cm_model.specs.declared.ty.Ty.{Ty, out-Ty}
use Rattle.cm_model.specs.declared.ty.Ty.TheOpen.{Ty-F}
use Rattle.cm_model.specs.declared.ty.RecDecl.{RecDecl}
use Rattle.cm_model.specs.declared.body.StateDecl.{StateDecl}
use Rattle.cm_model.specs.declared.pair.Pair.{Pair}
use Rattle.cm_value.specs.Membership.{has_variant, field_types}
use Rattle.cm_term.specs.Atoms.{offset_limit}
use Rattle.cm_term.specs.declared.symbol.Step.{Step}
use Rattle.cm_term.specs.declared.symbol.Step.TheVariants as step
use Rattle.cm_term.specs.declared.symbol.Root.{Root}
use Rattle.cm_term.specs.declared.symbol.Root.TheVariants as root
use Rattle.cm_term.specs.declared.symbol.Sym.{Sym}
use Rattle.cm_cond.specs.declared.literal.Literal.{Literal}
use Rattle.cm_cond.specs.declared.literal.Literal.TheVariants as literal
use Rattle.cm_cond.specs.declared.cell.KeyTerm.{KeyTerm}
use Rattle.cm_cond.specs.declared.cell.KeyTerm.TheOpen.{KeyTerm-F}
use Rattle.cm_cond.specs.declared.cell.KeyTerm.TheFolds.{fold-KeyTerm}
use Rattle.cm_cond.specs.declared.cell.CellTerm.{CellTerm}
use Rattle.cm_cond.specs.declared.report.Case.{Case}
use Rattle.cm_cond.specs.declared.report.PairReport.{PairReport}
use Rattle.cm_cond.specs.declared.report.PairReport.TheVariants as report
use Rattle.cm_cond.specs.declared.report.PairEntry.{PairEntry}
use Rattle.cm_cond.specs.declared.report.Report.{Report}
use Rattle.cm_cond.specs.Typing.{symbol_type}

-- how many paths a pair has at most
abbrev pub path_limit : ℕ
path_limit = 1000000

-- the order of symbols: arguments of a, those of b, cells; in a value by field, an option before its payload
abbrev pub root_before : Root → Root → Bool
root_before (root.A i) (root.A j) = ltb i j
root_before (root.A i) (root.B j) = true
root_before (root.A i) (root.Cell j) = true
root_before (root.B i) (root.A j) = false
root_before (root.B i) (root.B j) = ltb i j
root_before (root.B i) (root.Cell j) = true
root_before (root.Cell i) (root.A j) = false
root_before (root.Cell i) (root.B j) = false
root_before (root.Cell i) (root.Cell j) = ltb i j

abbrev pub same_root : Root → Root → Bool
same_root (root.A i) (root.A j) = i == j
same_root (root.B i) (root.B j) = i == j
same_root (root.Cell i) (root.Cell j) = i == j
same_root _ _ = false

-- a value has fields or a payload
abbrev pub step_number : Step → ℕ
step_number (step.Field i) = i
step_number step.Payload = 0

abbrev pub path_before : List Step → List Step → Bool
path_before [] [] = false
path_before [] (t ∷ ts) = true
path_before (s ∷ ss) [] = false
path_before (s ∷ ss) (t ∷ ts) =
    ltb (step_number s) (step_number t) || (step_number s == step_number t && path_before ss ts)

abbrev pub is_before : Sym → Sym → Bool
is_before x y = root_before x.root y.root || (same_root x.root y.root && path_before x.path y.path)

abbrev pub is_offset : ℤ → Bool
is_offset n = int_le (neg_ℤ (pos offset_limit)) n && int_le n (pos offset_limit)

abbrev pub sort_in : Option Ty → Option ℕ
sort_in None = None
sort_in (Some ty) = sort_form (out-Ty ty)
  where
    sort_form : Ty-F Ty → Option ℕ
    sort_form (Ty-F.Sort s) = Some s
    sort_form _ = None

abbrev pub enum_in : Option Ty → Option ℕ
enum_in None = None
enum_in (Some ty) = enum_form (out-Ty ty)
  where
    enum_form : Ty-F Ty → Option ℕ
    enum_form (Ty-F.Enum e) = Some e
    enum_form _ = None

abbrev pub is_integer : Option Ty → Bool
is_integer None = false
is_integer (Some ty) = integer_form (out-Ty ty)
  where
    integer_form : Ty-F Ty → Bool
    integer_form (Ty-F.Int i) = true
    integer_form _ = false

abbrev pub is_option : Option Ty → Bool
is_option None = false
is_option (Some ty) = option_form (out-Ty ty)
  where
    option_form : Ty-F Ty → Bool
    option_form (Ty-F.Option payload) = true
    option_form _ = false

-- both are there and one
abbrev pub are_one : Option ℕ → Option ℕ → Bool
are_one (Some m) (Some n) = m == n
are_one (Some m) None = false
are_one None o = false

abbrev pub has_variant_in : Tables → Option ℕ → ℕ → Bool
has_variant_in t (Some e) index = has_variant (slice_get t.enums e) index
has_variant_in t None index = false

module _ (t : Tables) (p : Pair) (cells : List CellTerm) where
  abbrev pub type_of : Sym → Option Ty
  type_of x = symbol_type t p cells x

  -- of its types, and the earlier symbol first
  abbrev pub is_literal : Literal → Bool
  is_literal (literal.Same x y) = are_one (sort_in (type_of x)) (sort_in (type_of y)) && is_before x y
  is_literal (literal.Differ x y) = are_one (sort_in (type_of x)) (sort_in (type_of y)) && is_before x y
  is_literal (literal.Order x plus op y) =
      is_integer (type_of x) && is_integer (type_of y) && is_offset plus && is_before x y
  is_literal (literal.Against x op n) = is_integer (type_of x) && is_offset n
  is_literal (literal.Within x plus lo hi) =
      is_integer (type_of x) && is_offset plus && int_le lo hi && is_number lo && is_number hi
  is_literal (literal.Tag x index) = has_variant_in t (enum_in (type_of x)) index
  is_literal (literal.IsNone x) = is_option (type_of x)
  is_literal (literal.IsSome x) = is_option (type_of x)

  abbrev pub is_number_term : Option Sym → Bool
  is_number_term (Some x) = is_integer (type_of x)
  is_number_term None = true

  abbrev pub are_fields : List (Ty → Bool) → List Ty → Bool
  are_fields [] [] = true
  are_fields [] (ty ∷ tys) = false
  are_fields (k ∷ ks) [] = false
  are_fields (k ∷ ks) (ty ∷ tys) = k ty && are_fields ks tys

  abbrev pub has_fields : Option RecDecl → List (Ty → Bool) → Bool
  has_fields (Some d) ks = are_fields ks (field_types d)
  has_fields None ks = false

  abbrev pub is_record : Ty-F Ty → List (Ty → Bool) → Bool
  is_record (Ty-F.Rec r) ks = has_fields (slice_get t.records r) ks
  is_record _ ks = false

  abbrev pub key_form : KeyTerm-F (Ty → Bool) → Ty → Bool
  key_form (KeyTerm-F.Elem x) ty = are_one (sort_in (Some ty)) (sort_in (type_of x))
  key_form (KeyTerm-F.Num x plus) ty = is_integer (Some ty) && is_number_term x && is_offset plus
  key_form (KeyTerm-F.TagOf x) ty = are_one (enum_in (Some ty)) (enum_in (type_of x))
  key_form (KeyTerm-F.Tag index) ty = has_variant_in t (enum_in (Some ty)) index
  key_form (KeyTerm-F.Rec ks) ty = is_record (out-Ty ty) ks

  -- spelled out by its type, with symbols of arguments and of these cells
  abbrev pub is_key : KeyTerm → Ty → Bool
  is_key = fold-KeyTerm (Ty → Bool) key_form

  abbrev pub is_key_of : Option Ty → Option KeyTerm → Bool
  is_key_of None None = true
  is_key_of None (Some k) = false
  is_key_of (Some ty) None = false
  is_key_of (Some ty) (Some k) = is_key k ty

  abbrev pub is_cell_of : Option StateDecl → Option KeyTerm → Bool
  is_cell_of (Some d) key = is_key_of d.key key
  is_cell_of None key = false

  -- of a declared state, with a key exactly where it is a map
  abbrev pub is_cell : CellTerm → Bool
  is_cell c = is_cell_of (slice_get t.states c.state) c.key

-- each key is by the cells before
abbrev pub are_cells : Tables → Pair → List CellTerm → List CellTerm → Bool
are_cells t p before [] = true
are_cells t p before (c ∷ cs) = is_cell t p before c && are_cells t p (before ++ c ∷ []) cs

abbrev pub is_case : Tables → Pair → Case → Bool
is_case t p c =
    leb (length c.cells) cell_limit && are_cells t p [] c.cells && list_all (is_literal t p c.cells) c.literals

abbrev pub is_report : Tables → Pair → PairReport → Bool
is_report t p (report.Cases paths condition) =
    leb 1 paths && leb paths path_limit && list_all (is_case t p) condition.cases
is_report t p (report.Over over) = true

abbrev pub is_entry : Tables → PairEntry → Bool
is_entry t e = leb e.pair.a e.pair.b && ltb e.pair.b (length t.calls) && is_report t e.pair e.body

abbrev pub pair_before : Pair → Pair → Bool
pair_before p q = ltb p.a q.a || (p.a == q.a && ltb p.b q.b)

abbrev pub ascend : List PairEntry → Bool
ascend [] = true
ascend (e ∷ []) = true
ascend (e ∷ f ∷ es) = pair_before e.pair f.pair && ascend (f ∷ es)

-- each entry of a pair of calls, in the order of pairs, and each part by its types and within its limits
abbrev pub is_well_formed : Tables → Report → Bool
is_well_formed t r = list_all (is_entry t) r.pairs && ascend r.pairs

abbrev pub IsWellFormed : Tables → Report → Type 0
IsWellFormed t r = IsTrue (is_well_formed t r)
