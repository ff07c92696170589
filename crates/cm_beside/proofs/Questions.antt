-- The questions of values that fit can be asked.
use Rattle.std.proofs.Common.{◌≡◌, ◌<◌, ◌≤◌, ℕ, ◌==◌, ltb, ℤ, Bool, true, false, List, map, slice_get}
use Rattle.std.proofs.Common.{Option, Some, None, refl, sym, ap, ◌∙◌, subst, arith, if◌then◌else◌}
use Rattle.std.proofs.lemmas.Bool.{and_parts, and_from, eqb-true, eq-eqb, lt-ltb}
use Rattle.cm_model.specs.Limits.{variant_limit}
use Rattle.cm_model.specs.Tables.{Tables}
use Rattle.cm_model.specs.WellTyped.{IsWellTyped}
use Rattle.cm_model.specs.declared.ty.Ty.{Ty, out-Ty}
use Rattle.cm_model.specs.declared.ty.Ty.TheOpen.{Ty-F}
use Rattle.cm_model.specs.declared.ty.RecDecl.{RecDecl}
use Rattle.cm_model.specs.declared.variable.SortVar.{SortVar}
use Rattle.cm_value.specs.declared.value.Value.{Value}
use Rattle.cm_value.specs.declared.value.Value.TheVariants as value
use Rattle.cm_value.specs.Membership.{field_types, is_variant_of}
use Rattle.cm_value.proofs.Limited.{value_is_limited, limited_tag}
use Rattle.cm_term.specs.declared.atom.Num.{Num}
use Rattle.cm_term.specs.declared.atom.Tag.{Tag}
use Rattle.cm_term.specs.declared.atom.Tag.TheVariants as tag
use Rattle.cm_term.specs.declared.question.Question.TheVariants as question
use Rattle.cm_term.specs.declared.term.Term.{Term}
use Rattle.cm_term.specs.Atoms.{tag_under}
use Rattle.cm_eval.specs.Comparison as eval
use Rattle.cm_eval.proofs.Examples.{out_rec}
use Rattle.cm_beside.specs.Grounds.{Grounds}
use Rattle.cm_beside.specs.Fits.{Fitting, is_element, is_number, is_choice, is_num}
use Rattle.cm_beside.specs.Fits.{all_fit, is_of_sort, is_tag, is_tag_of}
use Rattle.cm_beside.specs.Fits.{value_offset_limit}
use Rattle.cm_beside.specs.Related.{is_question, is_variant, are_one_sort, asked_limit}
use Rattle.cm_beside.proofs.Layers.{fitting}
use Rattle.cm_beside.proofs.Layers.{AtRecord}
use Rattle.cm_beside.proofs.Fitting.{member}
use Rattle.cm_beside.proofs.Near.{nearer}

pub small : (n : ℕ) → n < variant_limit → eval.variant n ≡ Some n
small n lt = by (ltb n variant_limit) refl
  where
    by : (b : Bool) → ltb n variant_limit ≡ b → (if b then Some n else None) ≡ Some n
    by true e = refl
    by false e = absurd (let s = lt-ltb n variant_limit lt in cc)

module _ (t : Tables) (g : Grounds) where
  abbrev fit : Value → Fitting
  fit = fitting t g

  one_sort : (z : Ty-F Ty) (o p : Option ℕ) → is_of_sort z o ≡ true → is_of_sort z p ≡ true → are_one_sort o p ≡ true
  one_sort (Ty-F.Sort i) (Some o) (Some p) e f =
      let oo = eqb-true i o e in let pp = eqb-true i p f in
      subst (λ j. (j == p) ≡ true) oo (subst (λ j. (i == j) ≡ true) pp (eq-eqb i i refl))
  one_sort (Ty-F.Sort i) (Some o) None e f = absurd (cc)
  one_sort (Ty-F.Sort i) None p e f = absurd (cc)
  one_sort (Ty-F.Int i) o p e f = absurd (cc)
  one_sort (Ty-F.Enum i) o p e f = absurd (cc)
  one_sort (Ty-F.Rec i) o p e f = absurd (cc)
  one_sort (Ty-F.Option i) o p e f = absurd (cc)

  -- two elements of one sort
  pub elements_asked : (u : Ty) (m n : ℕ) (a b : SortVar) → is_element t g u m (Some a) ≡ true
      → is_element t g u n (Some b) ≡ true → is_question t g (question.Elems a b) ≡ true
  elements_asked u m n a b h k =
      let one = and_parts _ _ (and_parts _ _ h).1 in
      let two = and_parts _ _ (and_parts _ _ k).1 in
      and_from _ _
      (one_sort (out-Ty u) (slice_get g.sorts a.0) (slice_get g.sorts b.0) (and_parts _ _ one.0).1 (and_parts _ _ two.0).1)
      (and_from _ _ one.1 two.1)

  pub number_asked : (limit : ℕ) (a : Num) → limit ≤ asked_limit → is_num t g limit a ≡ true
      → is_num t g asked_limit a ≡ true
  number_asked limit a le h =
      let parts = and_parts _ _ h in
      let one = and_parts _ _ parts.0 in
      and_from _ _ (and_from _ _ one.0 (nearer limit asked_limit _ le one.1)) parts.1

  -- two integers
  pub numbers_asked : (u z : Ty) (m n : ℤ) (a b : Num) → is_number t g u m (Some a) ≡ true
      → is_number t g z n (Some b) ≡ true → is_question t g (question.Nums a b) ≡ true
  numbers_asked u z m n a b h k =
      and_from _ _
      (number_asked value_offset_limit a (omega arith) (and_parts _ _ (and_parts _ _ h).1).1)
      (number_asked value_offset_limit b (omega arith) (and_parts _ _ (and_parts _ _ k).1).1)

  -- a variant
  pub variant_asked : (m : ℕ) (u : Ty) (a : Tag) → is_choice t g u m (Some a) ≡ true → m < variant_limit
      → is_question t g (question.TagOf a) ≡ true
  variant_asked m u a h lt =
      let rest = and_parts (tag_under g.valuation.tag a == m) _ h in
      let there = and_parts (is_tag_of t g u a) (is_tag t g a) (and_parts (is_variant_of t (out-Ty u) m) _ rest.1).1 in
      and_from _ _ there.1
      (by a (eqb-true (tag_under g.valuation.tag a) m rest.0))
    where
      by : (a : Tag) → tag_under g.valuation.tag a ≡ m → is_variant t g a ≡ true
      by (tag.Const e i) same = lt-ltb i variant_limit (subst (λ j. j < variant_limit) (sym same) lt)
      by (tag.Var z) same = refl

  same_types : (d f : RecDecl) (o : Option RecDecl) → o ≡ Some d → o ≡ Some f → d ≡ f
  same_types d f o p q = by d f (sym p ∙ q)
    where
      by : (d f : RecDecl) → Some d ≡ Some f → d ≡ f
      by d f h = cc

  rec_same : (xs ys : List Value) → value.Rec ys ≡ value.Rec xs → xs ≡ ys
  rec_same xs ys p = inner (sym (ap eval.parts_in (out_rec xs)) ∙ sym (ap eval.parts_of p) ∙ ap eval.parts_in (out_rec ys))
    where
      inner : Some xs ≡ Some ys → xs ≡ ys
      inner q = cc

  -- two records of one type have fields of the same types
  pub same_record : (u : Ty) (r b : ℕ) (vs : List Value) (x : Term) (w : Value) (y : Term)
      → (a : AtRecord t g u r b (value.Rec vs) x) → (c : AtRecord t g u r g.options w y)
      → (all_fit t g (map fit vs) (field_types a.d) b a.fields ≡ true)
      × (all_fit t g (map fit c.parts) (field_types a.d) g.options c.fields ≡ true)
  same_record u r b vs x w y a c = (
    subst (λ ms. all_fit t g (map fit ms) (field_types a.d) b a.fields ≡ true) (rec_same a.parts vs a.value_is)
        a.fit,
    subst (λ d. all_fit t g (map fit c.parts) (field_types d) g.options c.fields ≡ true)
        (same_types c.d a.d (slice_get t.records r) c.declared a.declared) c.fit,
  )

  pub few_variants : IsWellTyped t → (m : ℕ) (u : Ty) (b : ℕ) (x : Term) → fit (value.Tag m) u b x ≡ true
      → m < variant_limit
  few_variants typed m u b x h =
      limited_tag m (value_is_limited t typed (value.Tag m) u (member t g (value.Tag m) u b x h))
