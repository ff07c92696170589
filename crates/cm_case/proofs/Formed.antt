-- The named cells of a path are spelled as reports spell cells.
use Rattle.std.proofs.Common.{◌≡◌, ℕ, ℤ, Bool, true, ◌&&◌, List, [], ◌∷◌, map}
use Rattle.std.proofs.Common.{slice_get, Option, Some, None, refl, sym, ap, ◌∙◌, arith}
use Rattle.std.specs.List.{list_all}
use Rattle.std.proofs.lemmas.Bool.{and_parts, and_from, eqb-true, eq-eqb}
use Rattle.std.proofs.lemmas.Int.{ints}
use Rattle.cm_model.specs.Tables.{Tables}
use Rattle.cm_model.specs.declared.ty.Ty.{Ty, out-Ty}
use Rattle.cm_model.specs.declared.ty.Ty.TheOpen.{Ty-F}
use Rattle.cm_model.specs.declared.ty.RecDecl.{RecDecl}
use Rattle.cm_model.specs.declared.pair.Pair.{Pair}
use Rattle.cm_value.specs.declared.value.Value.{Value}
use Rattle.cm_value.specs.declared.value.Value.TheVariants as value
use Rattle.cm_value.specs.Membership.{field_types, is_variant_of, is_number_of, has_variant}
use Rattle.cm_value.proofs.Folds as values
use Rattle.cm_value.proofs.Induction.{Each, value_ind}
use Rattle.cm_term.specs.declared.atom.Num.{Num}
use Rattle.cm_term.specs.declared.atom.Num.TheVariants as num
use Rattle.cm_term.specs.declared.atom.Tag.{Tag}
use Rattle.cm_term.specs.declared.atom.Tag.TheVariants as tag
use Rattle.cm_term.specs.declared.symbol.Sym.{Sym}
use Rattle.cm_term.specs.declared.term.Term.{Term, out-Term}
use Rattle.cm_term.specs.declared.term.Term.TheOpen.{Term-F}
use Rattle.cm_term.specs.Atoms.{tag_under}
use Rattle.cm_term.specs.Valuation.{Var, OfElement, OfNumber, OfTag, OfOption}
use Rattle.cm_cells.specs.Alike.{is_without_options, plain_step}
use Rattle.cm_cells.specs.Comparison.{elem_in, num_in, tag_in, fields_in}
use Rattle.cm_ctx.specs.declared.piece.Piece.{Piece}
use Rattle.cm_cond.specs.declared.cell.CellTerm.{CellTerm}
use Rattle.cm_cond.specs.declared.cell.KeyTerm.{KeyTerm}
use Rattle.cm_cond.specs.declared.cell.KeyTerm.TheVariants as key
use Rattle.cm_cond.specs.Typing.{symbol_type}
use Rattle.cm_cond.specs.Form.{sort_in, enum_in, is_integer, are_one, has_variant_in, is_offset, key_form, is_key}
use Rattle.cm_cond.specs.Form.{are_fields, has_fields, is_record}
use Rattle.cm_name.specs.Naming.{key_named, known}
use Rattle.cm_beside.specs.Grounds.{Grounds}
use Rattle.cm_beside.specs.Fits.{Fitting, is_element, is_number, is_choice, fields_fit, all_fit, is_near}
use Rattle.cm_beside.specs.Fits.{value_offset_limit, is_of_sort}
use Rattle.cm_beside.specs.Fits as fits
use Rattle.cm_beside.specs.Seen.{symbol_at}
use Rattle.cm_beside.proofs.Enums.{enum_is, enum_form}
use Rattle.cm_beside.proofs.Layers.{fitting}
use Rattle.cm_beside.proofs.Fitting.{fit_elem, fit_int, fit_tag, fit_rec}
use Rattle.cm_case.proofs.KeyForms.{fold-elem, fold-num, fold-tag_of, fold-tag, fold-rec, named_out}
use Rattle.cm_case.proofs.KeyForms.{element_fits, number_fits, tag_fits, tag_has}

pub sort_is : (u : Ty) (s : ℕ) → out-Ty u ≡ Ty-F.Sort s → sort_in (Some u) ≡ Some s
sort_is u s e = rw e refl

pub integer_is : (u : Ty) (s : ℕ) → out-Ty u ≡ Ty-F.Int s → is_integer (Some u) ≡ true
integer_is u s e = rw e refl

near_offset : (n : ℤ) → is_near value_offset_limit n ≡ true → is_offset n ≡ true
near_offset n h = grind (arith, ints, h)

one : (m : ℕ) (o r : Option ℕ) → o ≡ Some m → r ≡ Some m → are_one o r ≡ true
one m o r e f = ap (λ x. are_one x r) e ∙ ap (are_one (Some m)) f ∙ eq-eqb m m refl

-- the form of an integer's type, and that of an enum's with a variant
number_form : (t : Tables) (u : Ty) (n : ℤ) → is_number_of t (out-Ty u) n ≡ true → is_integer (Some u) ≡ true
number_form t u n h = by (out-Ty u) refl h
  where
    by : (z : Ty-F Ty) → out-Ty u ≡ z → is_number_of t z n ≡ true → is_integer (Some u) ≡ true
    by (Ty-F.Int i) e k = integer_is u i e
    by (Ty-F.Sort i) e k = absurd (cc)
    by (Ty-F.Enum i) e k = absurd (cc)
    by (Ty-F.Rec i) e k = absurd (cc)
    by (Ty-F.Option i) e k = absurd (cc)

variant_form : (t : Tables) (u : Ty) (n : ℕ) → is_variant_of t (out-Ty u) n ≡ true
    → (e : ℕ) × (enum_in (Some u) ≡ Some e) × (has_variant (slice_get t.enums e) n ≡ true)
variant_form t u n h = by (out-Ty u) refl h
  where
    by : (z : Ty-F Ty) → out-Ty u ≡ z → is_variant_of t z n ≡ true
        → (e : ℕ) × (enum_in (Some u) ≡ Some e) × (has_variant (slice_get t.enums e) n ≡ true)
    by (Ty-F.Enum i) e k = (i, enum_is u i e, k)
    by (Ty-F.Sort i) e k = absurd (cc)
    by (Ty-F.Int i) e k = absurd (cc)
    by (Ty-F.Rec i) e k = absurd (cc)
    by (Ty-F.Option i) e k = absurd (cc)

sort_form : (u : Ty) (o : Option ℕ) (r : ℕ) → o ≡ Some r → is_of_sort (out-Ty u) o ≡ true → sort_in (Some u) ≡ Some r
sort_form u o r e h = by (out-Ty u) refl (sym (ap (is_of_sort (out-Ty u)) e) ∙ h)
  where
    by : (z : Ty-F Ty) → out-Ty u ≡ z → is_of_sort z (Some r) ≡ true → sort_in (Some u) ≡ Some r
    by (Ty-F.Sort i) f k = sort_is u i f ∙ ap (λ n. Some n) (eqb-true i r k)
    by (Ty-F.Int i) f k = absurd (cc)
    by (Ty-F.Enum i) f k = absurd (cc)
    by (Ty-F.Rec i) f k = absurd (cc)
    by (Ty-F.Option i) f k = absurd (cc)

module _ (t : Tables) (p : Pair) (cells : List CellTerm) (ps : List Piece) (g : Grounds) where
  abbrev type_of : Sym → Option Ty
  type_of s = symbol_type t p cells s

  -- the form of the type of a variable's symbol, for elements and variants by the variable's sort and enum
  abbrev pub HasForm : Var → Sym → Type 0
  HasForm (OfElement x) s = (r : ℕ) × (slice_get g.sorts x ≡ Some r) × (sort_in (type_of s) ≡ Some r)
  HasForm (OfNumber x) s = is_integer (type_of s) ≡ true
  HasForm (OfTag x) s = (e : ℕ) × (g.enums x ≡ Some e) × (enum_in (type_of s) ≡ Some e)
  HasForm (OfOption x) s = Unit {0}

  module _ (has_form : (x : Var) → g.has x ≡ true → (s : Sym) × (symbol_at ps x ≡ Some s) × HasForm x s) where
    abbrev fit : Value → Fitting
    fit = fitting t g

    abbrev name_of : Term → KeyTerm
    name_of = key_named ps

    abbrev spelled : KeyTerm → Ty → Bool
    spelled = is_key t p cells

    -- the key of a value without options that fits
    abbrev Formed : Value → Type 0
    Formed w =
        (u : Ty) (b : ℕ) (x : Term) → is_without_options w ≡ true → fit w u b x ≡ true → spelled (name_of x) u ≡ true

    elem_formed : (n : ℕ) → Formed (value.Elem n)
    elem_formed n u b x plain h = by (out-Term x) refl (sym (fit_elem t g n u b x) ∙ h)
      where
        by : (z : Term-F Term) → out-Term x ≡ z → is_element t g u n (elem_in z) ≡ true → spelled (name_of x) u ≡ true
        by (Term-F.Elem a) f k =
            let fits = element_fits t g u n a k in
            let s = has_form (OfElement a.0) fits.has in
            ap (λ z. spelled z u) (named_out ps x (Term-F.Elem a) f ∙ ap (λ o. key.Elem (known o)) s.1)
            ∙ ap (λ (m : Ty → Bool). m u) (fold-elem (key_form t p cells) s.0)
            ∙ one s.2.0 (sort_in (Some u)) (sort_in (type_of s.0))
            (sort_form u (slice_get g.sorts a.0) s.2.0 s.2.1 fits.sort) s.2.2
        by (Term-F.Num z) f k = absurd (cc)
        by (Term-F.Tag z) f k = absurd (cc)
        by (Term-F.Rec z) f k = absurd (cc)
        by Term-F.None f k = absurd (cc)
        by (Term-F.Some z) f k = absurd (cc)
        by (Term-F.Either z) f k = absurd (cc)

    int_formed : (n : ℤ) → Formed (value.Int n)
    int_formed n u b x plain h = by (out-Term x) refl (sym (fit_int t g n u b x) ∙ h)
      where
        number : (a : Num) → out-Term x ≡ Term-F.Num a → is_number t g u n (Some a) ≡ true
            → spelled (name_of x) u ≡ true
        number (num.Const m) f k =
            let fits = number_fits t g u n (num.Const m) k in
            ap (λ z. spelled z u) (named_out ps x (Term-F.Num (num.Const m)) f)
            ∙ ap (λ (q : Ty → Bool). q u) (fold-num (key_form t p cells) None m)
            ∙ and_from (is_integer (Some u) && true) (is_offset m)
            (and_from (is_integer (Some u)) true (number_form t u n fits.typed) refl) (near_offset m fits.near)
        number (num.Plus a m) f k =
            let fits = number_fits t g u n (num.Plus a m) k in
            let s = has_form (OfNumber a.0) fits.has in
            ap (λ z. spelled z u) (named_out ps x (Term-F.Num (num.Plus a m)) f ∙ ap (λ o. key.Num o m) s.1)
            ∙ ap (λ (q : Ty → Bool). q u) (fold-num (key_form t p cells) (Some s.0) m)
            ∙ and_from (is_integer (Some u) && is_integer (type_of s.0)) (is_offset m)
            (and_from (is_integer (Some u)) (is_integer (type_of s.0)) (number_form t u n fits.typed) s.2)
            (near_offset m fits.near)

        by : (z : Term-F Term) → out-Term x ≡ z → is_number t g u n (num_in z) ≡ true → spelled (name_of x) u ≡ true
        by (Term-F.Num a) f k = number a f k
        by (Term-F.Elem z) f k = absurd (cc)
        by (Term-F.Tag z) f k = absurd (cc)
        by (Term-F.Rec z) f k = absurd (cc)
        by Term-F.None f k = absurd (cc)
        by (Term-F.Some z) f k = absurd (cc)
        by (Term-F.Either z) f k = absurd (cc)

    tag_formed : (n : ℕ) → Formed (value.Tag n)
    tag_formed n u b x plain h = by (out-Term x) refl (sym (fit_tag t g n u b x) ∙ h)
      where
        choice : (a : Tag) → out-Term x ≡ Term-F.Tag a → is_choice t g u n (Some a) ≡ true
            → spelled (name_of x) u ≡ true
        choice (tag.Const d i) f k =
            let fits = tag_fits t g u n (tag.Const d i) k in
            let e = variant_form t u n fits.typed in
            ap (λ z. spelled z u) (named_out ps x (Term-F.Tag (tag.Const d i)) f)
            ∙ ap (λ (q : Ty → Bool). q u) (fold-tag (key_form t p cells) i)
            ∙ ap (λ m. has_variant_in t (enum_in (Some u)) m)
            (eqb-true (tag_under g.valuation.tag (tag.Const d i)) n fits.is)
            ∙ ap (λ o. has_variant_in t o n) e.1 ∙ e.2
        choice (tag.Var a) f k =
            let fits = tag_fits t g u n (tag.Var a) k in
            let s = has_form (OfTag a.0) (tag_has t g u a fits.tag) in
            ap (λ z. spelled z u) (named_out ps x (Term-F.Tag (tag.Var a)) f ∙ ap (λ o. key.TagOf (known o)) s.1)
            ∙ ap (λ (q : Ty → Bool). q u) (fold-tag_of (key_form t p cells) s.0)
            ∙ one s.2.0 (enum_in (Some u)) (enum_in (type_of s.0))
            (enum_form u (g.enums a.0) s.2.0 s.2.1 fits.of) s.2.2

        by : (z : Term-F Term) → out-Term x ≡ z → is_choice t g u n (tag_in z) ≡ true → spelled (name_of x) u ≡ true
        by (Term-F.Tag a) f k = choice a f k
        by (Term-F.Elem z) f k = absurd (cc)
        by (Term-F.Num z) f k = absurd (cc)
        by (Term-F.Rec z) f k = absurd (cc)
        by Term-F.None f k = absurd (cc)
        by (Term-F.Some z) f k = absurd (cc)
        by (Term-F.Either z) f k = absurd (cc)

    fields_formed : (ws : List Value) → Each Formed ws → (us : List Ty) (b : ℕ) (xs : List Term)
        → list_all (λ part. part) (map is_without_options ws) ≡ true
        → all_fit t g (map fit ws) us b xs ≡ true → are_fields t p cells (map spelled (map name_of xs)) us ≡ true
    fields_formed [] e [] b [] plain h = refl
    fields_formed [] e [] b (x ∷ xs) plain h = absurd (cc)
    fields_formed [] e (u ∷ us) b xs plain h = absurd (cc)
    fields_formed (w ∷ ws) e [] b xs plain h = absurd (cc)
    fields_formed (w ∷ ws) e (u ∷ us) b [] plain h = absurd (cc)
    fields_formed (w ∷ ws) e (u ∷ us) b (x ∷ xs) plain h =
        let both = and_parts (fit w u b x) (all_fit t g (map fit ws) us b xs) h in
        let simple = and_parts (is_without_options w) (list_all (λ part. part) (map is_without_options ws)) plain in
        and_from (spelled (name_of x) u) (are_fields t p cells (map spelled (map name_of xs)) us)
        (e.0 u b x simple.0 both.0) (fields_formed ws e.1 us b xs simple.1 both.1)

    rec_formed : (ws : List Value) → Each Formed ws → Formed (value.Rec ws)
    rec_formed ws each u b x plain h = by (out-Term x) refl (sym (fit_rec t g ws u b x) ∙ h)
      where
        simple : list_all (λ part. part) (map is_without_options ws) ≡ true
        simple = sym (values.fold-rec plain_step ws) ∙ plain

        found : (xs : List Term) (d : Option RecDecl) → fields_fit t g (map fit ws) d b (Some xs) ≡ true
            → has_fields t p cells d (map spelled (map name_of xs)) ≡ true
        found xs (Some d) k = fields_formed ws each (field_types d) b xs simple k
        found xs None k = absurd (cc)

        typed : (xs : List Term) (z : Ty-F Ty) → fits.is_record t g (map fit ws) z b (Some xs) ≡ true
            → is_record t p cells z (map spelled (map name_of xs)) ≡ true
        typed xs (Ty-F.Rec d) k = found xs (slice_get t.records d) k
        typed xs (Ty-F.Sort i) k = absurd (cc)
        typed xs (Ty-F.Int i) k = absurd (cc)
        typed xs (Ty-F.Enum i) k = absurd (cc)
        typed xs (Ty-F.Option w) k = absurd (cc)

        missing : (d : Option RecDecl) → fields_fit t g (map fit ws) d b None ≡ true → spelled (name_of x) u ≡ true
        missing (Some d) k = absurd (cc)
        missing None k = absurd (cc)

        none : (z : Ty-F Ty) → fits.is_record t g (map fit ws) z b None ≡ true → spelled (name_of x) u ≡ true
        none (Ty-F.Rec d) k = missing (slice_get t.records d) k
        none (Ty-F.Sort i) k = absurd (cc)
        none (Ty-F.Int i) k = absurd (cc)
        none (Ty-F.Enum i) k = absurd (cc)
        none (Ty-F.Option w) k = absurd (cc)

        by : (z : Term-F Term) → out-Term x ≡ z → fits.is_record t g (map fit ws) (out-Ty u) b (fields_in z) ≡ true
            → spelled (name_of x) u ≡ true
        by (Term-F.Rec xs) f k =
            ap (λ z. spelled z u) (named_out ps x (Term-F.Rec xs) f)
            ∙ ap (λ (q : Ty → Bool). q u) (fold-rec (key_form t p cells) (map name_of xs)) ∙ typed xs (out-Ty u) k
        by (Term-F.Elem z) f k = none (out-Ty u) k
        by (Term-F.Num z) f k = none (out-Ty u) k
        by (Term-F.Tag z) f k = none (out-Ty u) k
        by Term-F.None f k = none (out-Ty u) k
        by (Term-F.Some z) f k = none (out-Ty u) k
        by (Term-F.Either z) f k = none (out-Ty u) k

    none_formed : Formed value.None
    none_formed u b x plain h = absurd (let no_ = sym (values.fold-none plain_step) ∙ plain in cc)

    some_formed : (w : Value) → Formed w → Formed (value.Some w)
    some_formed w each u b x plain h = absurd (let no_ = sym (values.fold-some plain_step w) ∙ plain in cc)

    pub key_formed : (w : Value) → Formed w
    key_formed = value_ind Formed elem_formed int_formed tag_formed rec_formed none_formed some_formed
