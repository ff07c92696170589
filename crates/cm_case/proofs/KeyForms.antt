-- The forms of keys: what a fold gives for each, and how a key is named by its term's form.
use Rattle.std.proofs.Common.{◌≡◌, ◌==◌, ltb, ℕ, ℤ, true, ◌&&◌, List, map, slice_get, Option, Some, sym, ap, ◌∙◌}
use Rattle.std.specs.Ordering.{int_eq}
use Rattle.std.proofs.lemmas.Bool.{and_parts}
use Rattle.cm_model.specs.Tables.{Tables}
use Rattle.cm_model.specs.declared.ty.Ty.{Ty, out-Ty}
use Rattle.cm_model.specs.declared.variable.SortVar.{SortVar}
use Rattle.cm_value.specs.declared.value.Value.{Value, out-Value}
use Rattle.cm_value.specs.declared.value.Value.TheVariants as value
use Rattle.cm_value.specs.declared.value.Value.TheViews.{out-roll-Value}
use Rattle.cm_value.specs.declared.value.Value.TheOpen.{Value-F}
use Rattle.cm_value.specs.Membership.{is_sort, is_number_of, is_variant_of}
use Rattle.cm_term.specs.declared.atom.Num.{Num}
use Rattle.cm_term.specs.declared.atom.Tag.{Tag}
use Rattle.cm_term.specs.declared.atom.Tag.TheVariants as tag
use Rattle.cm_term.specs.declared.atom.TagVar.{TagVar}
use Rattle.cm_term.specs.declared.symbol.Sym.{Sym}
use Rattle.cm_term.specs.declared.term.Term.{Term, out-Term}
use Rattle.cm_term.specs.declared.term.Term.TheViews.{roll-Term, roll-out-Term}
use Rattle.cm_term.specs.declared.term.Term.TheOpen.{Term-F}
use Rattle.cm_term.specs.declared.term.Term.TheFolds.{fold-roll-Term, map-Term}
use Rattle.cm_term.specs.Symbols.{Roots, symbol_value}
use Rattle.cm_term.specs.Terms.{value_of, value_step}
use Rattle.cm_term.specs.Atoms.{num_under, tag_under, var_of, offset_of}
use Rattle.cm_term.specs.Valuation.{Valuation, OfElement, OfTag}
use Rattle.cm_ctx.specs.declared.piece.Piece.{Piece}
use Rattle.cm_cond.specs.declared.cell.KeyTerm.{KeyTerm}
use Rattle.cm_cond.specs.declared.cell.KeyTerm.TheVariants as key
use Rattle.cm_cond.specs.declared.cell.KeyTerm.TheOpen.{KeyTerm-F}
use Rattle.cm_cond.specs.declared.cell.KeyTerm.TheFolds.{fold-KeyTerm, fold-roll-KeyTerm}
use Rattle.cm_cond.specs.Keys.{KeyValue, key_value, key_step, number_value, number_or_zero, record_value}
use Rattle.cm_cond.specs.Values.{raised}
use Rattle.cm_beside.specs.Grounds.{Grounds}
use Rattle.cm_beside.specs.Fits.{is_element, is_number, is_choice, is_num, is_tag, is_tag_of, is_near, is_of_sort}
use Rattle.cm_beside.specs.Fits.{has_number}
use Rattle.cm_beside.specs.Fits.{value_offset_limit}
use Rattle.cm_name.specs.Naming.{key_named}
use Rattle.cm_name.specs.Naming as naming

module _ {A : Type 0} (step : KeyTerm-F A → A) where
  pub fold-elem : (s : Sym) → fold-KeyTerm A step (key.Elem s) ≡ step (KeyTerm-F.Elem s)
  fold-elem s = ap (fold-KeyTerm A step) (sym (key.rolls-Elem s)) ∙ fold-roll-KeyTerm A step (KeyTerm-F.Elem s)

  pub fold-num : (o : Option Sym) (n : ℤ) → fold-KeyTerm A step (key.Num o n) ≡ step (KeyTerm-F.Num o n)
  fold-num o n = ap (fold-KeyTerm A step) (sym (key.rolls-Num o n)) ∙ fold-roll-KeyTerm A step (KeyTerm-F.Num o n)

  pub fold-tag_of : (s : Sym) → fold-KeyTerm A step (key.TagOf s) ≡ step (KeyTerm-F.TagOf s)
  fold-tag_of s = ap (fold-KeyTerm A step) (sym (key.rolls-TagOf s)) ∙ fold-roll-KeyTerm A step (KeyTerm-F.TagOf s)

  pub fold-tag : (i : ℕ) → fold-KeyTerm A step (key.Tag i) ≡ step (KeyTerm-F.Tag i)
  fold-tag i = ap (fold-KeyTerm A step) (sym (key.rolls-Tag i)) ∙ fold-roll-KeyTerm A step (KeyTerm-F.Tag i)

  pub fold-rec : (ks : List KeyTerm) → fold-KeyTerm A step (key.Rec ks)
      ≡ step (KeyTerm-F.Rec (map (fold-KeyTerm A step) ks))
  fold-rec ks = ap (fold-KeyTerm A step) (sym (key.rolls-Rec ks)) ∙ fold-roll-KeyTerm A step (KeyTerm-F.Rec ks)

-- the value of each form of key
module _ (t : Tables) (r : Roots) (u : Ty) where
  abbrev at_type : KeyValue → Option Value
  at_type f = f u

  pub value_elem : (s : Sym) → key_value t r (key.Elem s) u ≡ symbol_value r s
  value_elem s = ap at_type (fold-elem (key_step t r) s)

  pub value_num : (o : Option Sym) (n : ℤ)
      → key_value t r (key.Num o n) u ≡ number_value t u (raised (number_or_zero r o) n)
  value_num o n = ap at_type (fold-num (key_step t r) o n)

  pub value_tag_of : (s : Sym) → key_value t r (key.TagOf s) u ≡ symbol_value r s
  value_tag_of s = ap at_type (fold-tag_of (key_step t r) s)

  pub value_tag : (i : ℕ) → key_value t r (key.Tag i) u ≡ Some (value.Tag i)
  value_tag i = ap at_type (fold-tag (key_step t r) i)

  pub value_rec : (ks : List KeyTerm)
      → key_value t r (key.Rec ks) u ≡ record_value t (out-Ty u) (map (key_value t r) ks)
  value_rec ks = ap at_type (fold-rec (key_step t r) ks)

-- what is so of an element, a number and a variant that fit
module _ (t : Tables) (g : Grounds) (u : Ty) where
  pub record ElementFits (n : ℕ) (a : SortVar) : Type 0 where
    pub is : (g.valuation.element a.0 == n) ≡ true
    pub sort : is_of_sort (out-Ty u) (slice_get g.sorts a.0) ≡ true
    pub has : g.has (OfElement a.0) ≡ true

  pub element_fits : (n : ℕ) (a : SortVar) → is_element t g u n (Some a) ≡ true → ElementFits n a
  element_fits n a k =
      let sort = is_sort t (out-Ty u) && is_of_sort (out-Ty u) (slice_get g.sorts a.0) in
      let one = and_parts (g.valuation.element a.0 == n) (sort && g.has (OfElement a.0)) k in
      let two = and_parts sort (g.has (OfElement a.0)) one.1 in
      record { is = one.0; sort = (and_parts (is_sort t (out-Ty u)) _ two.0).1; has = two.1 }

  pub record NumberFits (n : ℤ) (a : Num) : Type 0 where
    pub is : int_eq (num_under g.valuation.number a) n ≡ true
    pub typed : is_number_of t (out-Ty u) n ≡ true
    pub near : is_near value_offset_limit (offset_of a) ≡ true
    pub has : has_number t g a ≡ true

  pub number_fits : (n : ℤ) (a : Num) → is_number t g u n (Some a) ≡ true → NumberFits n a
  number_fits n a k =
      let near = is_near value_offset_limit (offset_of a) in
      let one = and_parts (int_eq (num_under g.valuation.number a) n)
      (is_number_of t (out-Ty u) n && is_num t g value_offset_limit a) k in
      let two = and_parts (is_number_of t (out-Ty u) n) (is_num t g value_offset_limit a) one.1 in
      let three = and_parts (ltb (var_of a) g.numbers && near) (has_number t g a) two.1 in
      record { is = one.0; typed = two.0; near = (and_parts (ltb (var_of a) g.numbers) near three.0).1; has = three.1 }

  pub record TagFits (n : ℕ) (a : Tag) : Type 0 where
    pub is : (tag_under g.valuation.tag a == n) ≡ true
    pub typed : is_variant_of t (out-Ty u) n ≡ true
    pub of : is_tag_of t g u a ≡ true
    pub tag : is_tag t g a ≡ true

  pub tag_fits : (n : ℕ) (a : Tag) → is_choice t g u n (Some a) ≡ true → TagFits n a
  tag_fits n a k =
      let one = and_parts (tag_under g.valuation.tag a == n)
      (is_variant_of t (out-Ty u) n && (is_tag_of t g u a && is_tag t g a)) k in
      let two = and_parts (is_variant_of t (out-Ty u) n) (is_tag_of t g u a && is_tag t g a) one.1 in
      let three = and_parts (is_tag_of t g u a) (is_tag t g a) two.1 in
      record { is = one.0; typed = two.0; of = three.0; tag = three.1 }

  pub tag_has : (x : TagVar) → is_tag t g (tag.Var x) ≡ true → g.has (OfTag x.0) ≡ true
  tag_has x k = (and_parts (ltb x.0 g.tags) (g.has (OfTag x.0)) k).1

-- a key's name, and a term's value, by the term's form
pub named_out : (ps : List Piece) (x : Term) (y : Term-F Term) → out-Term x ≡ y
    → key_named ps x ≡ naming.key_step ps (map-Term Term KeyTerm (key_named ps) y)
named_out ps x y e =
    ap (key_named ps) (sym (roll-out-Term x) ∙ ap roll-Term e) ∙ fold-roll-Term KeyTerm (naming.key_step ps) y

pub worth_out : (v : Valuation) (x : Term) (y : Term-F Term) → out-Term x ≡ y
    → value_of v x ≡ value_step v (map-Term Term Value (value_of v) y)
worth_out v x y e =
    ap (value_of v) (sym (roll-out-Term x) ∙ ap roll-Term e) ∙ fold-roll-Term Value (value_step v) y

pub out_int : (n : ℤ) → out-Value (value.Int n) ≡ Value-F.Int n
out_int n = ap out-Value (sym (value.rolls-Int n)) ∙ out-roll-Value (Value-F.Int n)
