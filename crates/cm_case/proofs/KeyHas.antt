-- The variables of a key that fits have values.
use Rattle.std.proofs.Common.{◌≡◌, ℕ, ℤ, true, List, [], ◌∷◌, map, slice_get, Option, Some, None, refl, sym, ap}
use Rattle.std.proofs.Common.{◌∙◌, subst}
use Rattle.std.specs.List.{AllByRecursion, flat_map, list_all}
use Rattle.std.proofs.lemmas.Bool.{and_parts}
use Rattle.cm_model.specs.Tables.{Tables}
use Rattle.cm_model.specs.declared.ty.Ty.{Ty, out-Ty}
use Rattle.cm_model.specs.declared.ty.Ty.TheOpen.{Ty-F}
use Rattle.cm_model.specs.declared.ty.RecDecl.{RecDecl}
use Rattle.cm_value.specs.declared.value.Value.{Value}
use Rattle.cm_value.specs.declared.value.Value.TheVariants as value
use Rattle.cm_value.specs.Membership.{field_types}
use Rattle.cm_value.proofs.Folds as values
use Rattle.cm_value.proofs.Induction.{Each, value_ind}
use Rattle.cm_term.specs.declared.atom.Num.{Num}
use Rattle.cm_term.specs.declared.atom.Num.TheVariants as num
use Rattle.cm_term.specs.declared.atom.Tag.{Tag}
use Rattle.cm_term.specs.declared.atom.Tag.TheVariants as tag
use Rattle.cm_term.specs.declared.term.Term.{Term, out-Term}
use Rattle.cm_term.specs.declared.term.Term.TheVariants as term
use Rattle.cm_term.specs.declared.term.Term.TheOpen.{Term-F}
use Rattle.cm_term.specs.declared.term.Term.TheViews.{roll-Term, roll-out-Term}
use Rattle.cm_term.specs.Valuation.{Var}
use Rattle.cm_term.specs.Atoms.{vars_of_num, vars_of_tag}
use Rattle.cm_term.specs.Terms.{vars_of, vars_step}
use Rattle.cm_term.proofs.Folds as terms
use Rattle.cm_cells.specs.Comparison.{elem_in, num_in, tag_in, fields_in}
use Rattle.cm_cells.specs.Alike.{is_without_options, plain_step}
use Rattle.cm_beside.specs.Grounds.{Grounds}
use Rattle.cm_beside.specs.Fits.{Fitting, is_element, is_number, is_choice, has_number, fields_fit, all_fit}
use Rattle.cm_beside.specs.Fits as fits
use Rattle.cm_beside.proofs.Layers.{fitting}
use Rattle.cm_beside.proofs.Fitting.{fit_elem, fit_int, fit_tag, fit_rec}
use Rattle.cm_case.proofs.KeyForms.{element_fits, number_fits, tag_fits, tag_has}
use Rattle.cm_case.proofs.Lists.{all_both}

module _ (t : Tables) (g : Grounds) where
  abbrev fit : Value → Fitting
  fit = fitting t g

  abbrev Have : List Var → Type 0
  Have = AllByRecursion (λ x. g.has x ≡ true)

  abbrev HasAll : Value → Type 0
  HasAll w = (u : Ty) (b : ℕ) (x : Term) → is_without_options w ≡ true → fit w u b x ≡ true → Have (vars_of x)

  term_is : (x : Term) (y : Term-F Term) → out-Term x ≡ y → x ≡ roll-Term y
  term_is x y e = sym (roll-out-Term x) ∙ ap roll-Term e

  elem_has : (n : ℕ) → HasAll (value.Elem n)
  elem_has n u b x plain h = by (out-Term x) refl (sym (fit_elem t g n u b x) ∙ h)
    where
      by : (z : Term-F Term) → out-Term x ≡ z → is_element t g u n (elem_in z) ≡ true → Have (vars_of x)
      by (Term-F.Elem a) f k =
          subst Have (sym (ap vars_of (term_is x (Term-F.Elem a) f ∙ term.rolls-Elem a) ∙ terms.fold-elem vars_step a))
          ((element_fits t g u n a k).has, tt)
      by (Term-F.Num z) f k = absurd (cc)
      by (Term-F.Tag z) f k = absurd (cc)
      by (Term-F.Rec z) f k = absurd (cc)
      by Term-F.None f k = absurd (cc)
      by (Term-F.Some z) f k = absurd (cc)
      by (Term-F.Either z) f k = absurd (cc)

  number_vars : (a : Num) → has_number t g a ≡ true → Have (vars_of_num a)
  number_vars (num.Const k) h = tt
  number_vars (num.Plus x k) h = (h, tt)

  int_has : (n : ℤ) → HasAll (value.Int n)
  int_has n u b x plain h = by (out-Term x) refl (sym (fit_int t g n u b x) ∙ h)
    where
      by : (z : Term-F Term) → out-Term x ≡ z → is_number t g u n (num_in z) ≡ true → Have (vars_of x)
      by (Term-F.Num a) f k =
          subst Have (sym (ap vars_of (term_is x (Term-F.Num a) f ∙ term.rolls-Num a) ∙ terms.fold-num vars_step a))
          (number_vars a (number_fits t g u n a k).has)
      by (Term-F.Elem z) f k = absurd (cc)
      by (Term-F.Tag z) f k = absurd (cc)
      by (Term-F.Rec z) f k = absurd (cc)
      by Term-F.None f k = absurd (cc)
      by (Term-F.Some z) f k = absurd (cc)
      by (Term-F.Either z) f k = absurd (cc)

  tag_vars : (u : Ty) (n : ℕ) (a : Tag) → is_choice t g u n (Some a) ≡ true → Have (vars_of_tag a)
  tag_vars u n (tag.Const e i) h = tt
  tag_vars u n (tag.Var x) h = (tag_has t g u x (tag_fits t g u n (tag.Var x) h).tag, tt)

  variant_has : (n : ℕ) → HasAll (value.Tag n)
  variant_has n u b x plain h = by (out-Term x) refl (sym (fit_tag t g n u b x) ∙ h)
    where
      by : (z : Term-F Term) → out-Term x ≡ z → is_choice t g u n (tag_in z) ≡ true → Have (vars_of x)
      by (Term-F.Tag a) f k =
          subst Have (sym (ap vars_of (term_is x (Term-F.Tag a) f ∙ term.rolls-Tag a) ∙ terms.fold-tag vars_step a))
          (tag_vars u n a k)
      by (Term-F.Elem z) f k = absurd (cc)
      by (Term-F.Num z) f k = absurd (cc)
      by (Term-F.Rec z) f k = absurd (cc)
      by Term-F.None f k = absurd (cc)
      by (Term-F.Some z) f k = absurd (cc)
      by (Term-F.Either z) f k = absurd (cc)

  fields_have : (ws : List Value) → Each HasAll ws → (us : List Ty) (b : ℕ) (xs : List Term)
      → list_all (λ part. part) (map is_without_options ws) ≡ true → all_fit t g (map fit ws) us b xs ≡ true
      → Have (flat_map (λ vars. vars) (map vars_of xs))
  fields_have [] e [] b [] plain h = tt
  fields_have [] e [] b (x ∷ xs) plain h = absurd (cc)
  fields_have [] e (u ∷ us) b xs plain h = absurd (cc)
  fields_have (w ∷ ws) e [] b xs plain h = absurd (cc)
  fields_have (w ∷ ws) e (u ∷ us) b [] plain h = absurd (cc)
  fields_have (w ∷ ws) e (u ∷ us) b (x ∷ xs) plain h =
      let both = and_parts (fit w u b x) (all_fit t g (map fit ws) us b xs) h in
      let simple = and_parts (is_without_options w) (list_all (λ part. part) (map is_without_options ws)) plain in
      all_both (λ y. g.has y ≡ true) (vars_of x) (flat_map (λ vars. vars) (map vars_of xs))
      (e.0 u b x simple.0 both.0) (fields_have ws e.1 us b xs simple.1 both.1)

  rec_has : (ws : List Value) → Each HasAll ws → HasAll (value.Rec ws)
  rec_has ws each u b x plain h = by (out-Term x) refl (sym (fit_rec t g ws u b x) ∙ h)
    where
      simple : list_all (λ part. part) (map is_without_options ws) ≡ true
      simple = sym (values.fold-rec plain_step ws) ∙ plain

      found : (xs : List Term) (d : Option RecDecl) → fields_fit t g (map fit ws) d b (Some xs) ≡ true
          → Have (flat_map (λ vars. vars) (map vars_of xs))
      found xs (Some d) k = fields_have ws each (field_types d) b xs simple k
      found xs None k = absurd (cc)

      typed : (xs : List Term) (z : Ty-F Ty) → fits.is_record t g (map fit ws) z b (Some xs) ≡ true
          → Have (flat_map (λ vars. vars) (map vars_of xs))
      typed xs (Ty-F.Rec d) k = found xs (slice_get t.records d) k
      typed xs (Ty-F.Sort i) k = absurd (cc)
      typed xs (Ty-F.Int i) k = absurd (cc)
      typed xs (Ty-F.Enum i) k = absurd (cc)
      typed xs (Ty-F.Option w) k = absurd (cc)

      missing : (d : Option RecDecl) → fields_fit t g (map fit ws) d b None ≡ true → Have (vars_of x)
      missing (Some d) k = absurd (cc)
      missing None k = absurd (cc)

      none : (z : Ty-F Ty) → fits.is_record t g (map fit ws) z b None ≡ true → Have (vars_of x)
      none (Ty-F.Rec d) k = missing (slice_get t.records d) k
      none (Ty-F.Sort i) k = absurd (cc)
      none (Ty-F.Int i) k = absurd (cc)
      none (Ty-F.Enum i) k = absurd (cc)
      none (Ty-F.Option w) k = absurd (cc)

      by : (z : Term-F Term) → out-Term x ≡ z → fits.is_record t g (map fit ws) (out-Ty u) b (fields_in z) ≡ true
          → Have (vars_of x)
      by (Term-F.Rec xs) f k =
          subst Have (sym (ap vars_of (term_is x (Term-F.Rec xs) f ∙ term.rolls-Rec xs) ∙ terms.fold-rec vars_step xs))
          (typed xs (out-Ty u) k)
      by (Term-F.Elem z) f k = none (out-Ty u) k
      by (Term-F.Num z) f k = none (out-Ty u) k
      by (Term-F.Tag z) f k = none (out-Ty u) k
      by Term-F.None f k = none (out-Ty u) k
      by (Term-F.Some z) f k = none (out-Ty u) k
      by (Term-F.Either z) f k = none (out-Ty u) k

  none_has : HasAll value.None
  none_has u b x plain h = absurd (let no_ = sym (values.fold-none plain_step) ∙ plain in cc)

  some_has : (w : Value) → HasAll w → HasAll (value.Some w)
  some_has w each u b x plain h = absurd (let no_ = sym (values.fold-some plain_step w) ∙ plain in cc)

  pub key_has : (w : Value) → HasAll w
  key_has = value_ind HasAll elem_has int_has variant_has rec_has none_has some_has
