-- When a term stands for a value of a type under a valuation.
use Rattle.std.specs.Prelude.{ℕ, ◌==◌, ltb, ℤ, int_le, pos, neg_ℤ, Bool, true, false, ◌&&◌, List, [], ◌∷◌, slice_get}
use Rattle.std.specs.Prelude.{Option, Some, None, IsTrue}
use Rattle.std.specs.Ordering.{int_eq}
use Rattle.cm_model.specs.Tables.{Tables}
use Rattle.cm_model.specs.declared.ty.Ty.{Ty, out-Ty}
use Rattle.cm_model.specs.declared.ty.Ty.TheOpen.{Ty-F}
use Rattle.cm_model.specs.declared.ty.RecDecl.{RecDecl}
use Rattle.cm_model.specs.declared.variable.SortVar.{SortVar}
use Rattle.cm_value.specs.declared.value.Value.{Value}
use Rattle.cm_value.specs.declared.value.Value.TheOpen.{Value-F}
use Rattle.cm_value.specs.declared.value.Value.TheFolds.{fold-Value}
use Rattle.cm_value.specs.Membership.{is_sort, is_number_of, is_variant_of, field_types}
use Rattle.cm_term.specs.declared.atom.Num.{Num}
use Rattle.cm_term.specs.declared.atom.Num.TheVariants as num
use Rattle.cm_term.specs.declared.atom.Tag.{Tag}
use Rattle.cm_term.specs.declared.atom.Tag.TheVariants as tag
use Rattle.cm_term.specs.declared.term.Term.{Term, out-Term}
use Rattle.cm_term.specs.declared.term.Term.TheOpen.{Term-F}
use Rattle.cm_term.specs.Valuation.{OfElement, OfNumber, OfTag, OfOption}
use Rattle.cm_term.specs.Atoms.{num_under, tag_under, var_of, offset_of}
use Rattle.cm_cells.specs.Comparison.{elem_in, num_in, tag_in, fields_in}
use Rattle.cm_beside.specs.Grounds.{Grounds}

-- how far the offset of a value's number is from 0 at most
abbrev pub value_offset_limit : ℕ
value_offset_limit = 2000000

-- no farther from 0 than this
abbrev pub is_near : ℕ → ℤ → Bool
is_near n k = int_le (neg_ℤ (pos n)) k && int_le k (pos n)

-- a sort, by a variable's sort if it has one
abbrev pub is_of_sort : Ty-F Ty → Option ℕ → Bool
is_of_sort (Ty-F.Sort s) (Some r) = s == r
is_of_sort _ _ = false

-- an enum, by a variable's enum if it has one
abbrev pub is_of_enum : Ty-F Ty → Option ℕ → Bool
is_of_enum (Ty-F.Enum e) (Some d) = e == d
is_of_enum _ _ = false

-- as a value's test: of which types, for options below which number, and of which terms
abbrev pub Fitting : Type 0
Fitting = Ty → ℕ → Term → Bool

module _ (t : Tables) (g : Grounds) where
  abbrev pub is_element : Ty → ℕ → Option SortVar → Bool
  is_element u n (Some x) =
      (g.valuation.element x.0 == n) && ((is_sort t (out-Ty u) && is_of_sort (out-Ty u) (slice_get g.sorts x.0))
      && g.has (OfElement x.0))
  is_element u n None = false

  -- the number's variable is there, and its symbol has a value; the constants have none
  abbrev pub has_number : Num → Bool
  has_number (num.Const k) = true
  has_number (num.Plus x k) = g.has (OfNumber x.0)

  -- a number whose offset is no farther from 0 than this
  abbrev pub is_num : ℕ → Num → Bool
  is_num limit a = (ltb (var_of a) g.numbers && is_near limit (offset_of a)) && has_number a

  abbrev pub is_number : Ty → ℤ → Option Num → Bool
  is_number u n (Some a) =
      int_eq (num_under g.valuation.number a) n && (is_number_of t (out-Ty u) n && is_num value_offset_limit a)
  is_number u n None = false

  abbrev pub is_tag : Tag → Bool
  is_tag (tag.Const e i) = true
  is_tag (tag.Var x) = ltb x.0 g.tags && g.has (OfTag x.0)

  -- a variable of a variant is of the type's enum
  abbrev pub is_tag_of : Ty → Tag → Bool
  is_tag_of u (tag.Const e i) = true
  is_tag_of u (tag.Var x) = is_of_enum (out-Ty u) (g.enums x.0)

  abbrev pub is_choice : Ty → ℕ → Option Tag → Bool
  is_choice u n (Some a) =
      (tag_under g.valuation.tag a == n) && (is_variant_of t (out-Ty u) n && (is_tag_of u a && is_tag a))
  is_choice u n None = false

  -- field by field
  abbrev pub all_fit : List Fitting → List Ty → ℕ → List Term → Bool
  all_fit [] [] b [] = true
  all_fit (m ∷ ms) (u ∷ us) b (x ∷ xs) = m u b x && all_fit ms us b xs
  all_fit _ _ b _ = false

  abbrev pub fields_fit : List Fitting → Option RecDecl → ℕ → Option (List Term) → Bool
  fields_fit ms (Some d) b (Some xs) = all_fit ms (field_types d) b xs
  fields_fit ms (Some d) b None = false
  fields_fit ms None b xs = false

  abbrev pub is_record : List Fitting → Ty-F Ty → ℕ → Option (List Term) → Bool
  is_record ms (Ty-F.Rec r) b xs = fields_fit ms (slice_get t.records r) b xs
  is_record ms _ b xs = false

  -- an option's variable below a number, whose option is this: 0 none, 1 some
  abbrev pub is_option : ℕ → ℕ → ℕ → Bool
  is_option b o n = (ltb o b && (g.valuation.present o == n)) && g.has (OfOption o)

  abbrev pub is_nothing : ℕ → Term-F Term → Bool
  is_nothing b Term-F.None = true
  is_nothing b (Term-F.Either o) = is_option b o.0 0
  is_nothing b _ = false

  abbrev pub is_none : Ty-F Ty → ℕ → Term-F Term → Bool
  is_none (Ty-F.Option w) b x = is_nothing b x
  is_none _ b x = false

  abbrev pub payload_fits : Fitting → Ty → ℕ → Option Term → Bool
  payload_fits m w b (Some x) = m w b x
  payload_fits m w b None = false

  -- the payload, whose options' variables come before its own option's
  abbrev pub is_something : Fitting → Ty → ℕ → Term-F Term → Bool
  is_something m w b (Term-F.Some x) = m w b x
  is_something m w b (Term-F.Either o) = is_option b o.0 1 && payload_fits m w o.0 (slice_get g.payloads o.0)
  is_something m w b _ = false

  abbrev pub is_some : Fitting → Ty-F Ty → ℕ → Term-F Term → Bool
  is_some m (Ty-F.Option w) b x = is_something m w b x
  is_some m _ b x = false

  abbrev pub fits_step : Value-F Fitting → Fitting
  fits_step (Value-F.Elem n) u b x = is_element u n (elem_in (out-Term x))
  fits_step (Value-F.Int n) u b x = is_number u n (num_in (out-Term x))
  fits_step (Value-F.Tag n) u b x = is_choice u n (tag_in (out-Term x))
  fits_step (Value-F.Rec ms) u b x = is_record ms (out-Ty u) b (fields_in (out-Term x))
  fits_step Value-F.None u b x = is_none (out-Ty u) b (out-Term x)
  fits_step (Value-F.Some m) u b x = is_some m (out-Ty u) b (out-Term x)

  -- the value is of the type, and the term's value; its variables are there, and their symbols have values
  abbrev pub fits : Value → Fitting
  fits = fold-Value Fitting fits_step

  -- of a type the value and a term that has it
  abbrev pub Fits : Ty → Value → Term → Type 0
  Fits u v x = IsTrue (fits v u g.options x)
