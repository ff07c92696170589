-- A named key has the value that fits its term, where the term's variables have values.
use Rattle.std.proofs.Common.{◌≡◌, ◌+ℤ◌, ℕ, ℤ, pos, true, List, [], ◌∷◌, ◌++◌, map, slice_get}
use Rattle.std.proofs.Common.{Option, Some, None, refl, sym, ap, ◌∙◌, append_assoc, if◌then◌else◌}
use Rattle.std.specs.List.{list_all}
use Rattle.std.proofs.lemmas.Bool.{and_parts, eqb-true}
use Rattle.std.proofs.lemmas.Bool.Decides.{Decides-int_eq}
use Rattle.std.proofs.lemmas.List.{append-nil}
use Rattle.cm_model.specs.Tables.{Tables}
use Rattle.cm_model.specs.declared.ty.Ty.{Ty, out-Ty}
use Rattle.cm_model.specs.declared.ty.Ty.TheOpen.{Ty-F}
use Rattle.cm_model.specs.declared.ty.RecDecl.{RecDecl}
use Rattle.cm_value.specs.declared.value.Value.{Value}
use Rattle.cm_value.specs.declared.value.Value.TheVariants as value
use Rattle.cm_value.specs.Membership.{field_types, is_number_of}
use Rattle.cm_value.proofs.Folds as values
use Rattle.cm_value.proofs.Induction.{Each, value_ind}
use Rattle.cm_term.specs.declared.atom.Num.{Num}
use Rattle.cm_term.specs.declared.atom.Num.TheVariants as num
use Rattle.cm_term.specs.declared.atom.Tag.{Tag}
use Rattle.cm_term.specs.declared.atom.Tag.TheVariants as tag
use Rattle.cm_term.specs.declared.symbol.Sym.{Sym}
use Rattle.cm_term.specs.declared.term.Term.{Term, out-Term}
use Rattle.cm_term.specs.declared.term.Term.TheOpen.{Term-F}
use Rattle.cm_term.specs.Atoms.{num_under, tag_under}
use Rattle.cm_term.specs.Symbols.{Roots, symbol_value}
use Rattle.cm_term.specs.Valuation.{Var, OfElement, OfNumber, OfTag}
use Rattle.cm_cells.specs.Alike.{is_without_options, plain_step}
use Rattle.cm_cells.specs.Comparison.{elem_in, num_in, tag_in, fields_in}
use Rattle.cm_ctx.specs.declared.piece.Piece.{Piece}
use Rattle.cm_cond.specs.declared.cell.KeyTerm.{KeyTerm}
use Rattle.cm_cond.specs.declared.cell.KeyTerm.TheVariants as key
use Rattle.cm_cond.specs.Keys.{KeyValue, key_value, number_value, record_value, record_in, fields_after, and_then}
use Rattle.cm_cond.specs.Values.{raised, read, number_in}
use Rattle.cm_name.specs.Naming.{key_named, known}
use Rattle.cm_beside.specs.Grounds.{Grounds}
use Rattle.cm_beside.specs.Fits.{Fitting, is_element, is_number, is_choice, is_record, fields_fit, all_fit}
use Rattle.cm_beside.specs.Seen.{symbol_at}
use Rattle.cm_beside.proofs.Layers.{fitting}
use Rattle.cm_beside.proofs.Fitting.{fit_elem, fit_int, fit_tag, fit_rec, decided}
use Rattle.cm_beside.proofs.Seeing.{value_at}
use Rattle.cm_case.proofs.KeyForms.{value_elem, value_num, value_tag_of, value_tag, value_rec, named_out, out_int}
use Rattle.cm_case.proofs.KeyForms.{element_fits, number_fits, tag_fits, tag_has}
use Rattle.cm_case.proofs.KeyMay.{none_more}

module _ (t : Tables) (ps : List Piece) (r : Roots) (g : Grounds)
    (sees : (x : Var) → g.has x ≡ true
    → (s : Sym) × (symbol_at ps x ≡ Some s) × (symbol_value r s ≡ Some (value_at g.valuation x))) where
  abbrev fit : Value → Fitting
  fit = fitting t g

  abbrev name_of : Term → KeyTerm
  name_of = key_named ps

  abbrev worth : KeyTerm → KeyValue
  worth = key_value t r

  -- a value without options that fits a key is the key's
  abbrev There : Value → Type 0
  There w =
      (u : Ty) (b : ℕ) (x : Term) → is_without_options w ≡ true → fit w u b x ≡ true
      → worth (name_of x) u ≡ Some w

  elem_there : (n : ℕ) → There (value.Elem n)
  elem_there n u b x plain h = by (out-Term x) refl (sym (fit_elem t g n u b x) ∙ h)
    where
      by : (z : Term-F Term) → out-Term x ≡ z → is_element t g u n (elem_in z) ≡ true
          → worth (name_of x) u ≡ Some (value.Elem n)
      by (Term-F.Elem a) f k =
          let fits = element_fits t g u n a k in
          let s = sees (OfElement a.0) fits.has in
          ap (λ z. worth z u) (named_out ps x (Term-F.Elem a) f ∙ ap (λ o. key.Elem (known o)) s.1)
          ∙ value_elem t r u s.0 ∙ s.2 ∙ ap (λ m. Some (value.Elem m)) (eqb-true (g.valuation.element a.0) n fits.is)
      by (Term-F.Num z) f k = absurd (cc)
      by (Term-F.Tag z) f k = absurd (cc)
      by (Term-F.Rec z) f k = absurd (cc)
      by Term-F.None f k = absurd (cc)
      by (Term-F.Some z) f k = absurd (cc)
      by (Term-F.Either z) f k = absurd (cc)

  -- a number of the type is its value
  number_there : (u : Ty) (m n : ℤ) → m ≡ n → is_number_of t (out-Ty u) n ≡ true
      → number_value t u (Some m) ≡ Some (value.Int n)
  number_there u m n same h =
      ap (λ i. number_value t u (Some i)) same ∙ ap (λ b. if b then Some (value.Int n) else None) h

  int_there : (n : ℤ) → There (value.Int n)
  int_there n u b x plain h = by (out-Term x) refl (sym (fit_int t g n u b x) ∙ h)
    where
      number : (a : Num) → out-Term x ≡ Term-F.Num a → is_number t g u n (Some a) ≡ true
          → worth (name_of x) u ≡ Some (value.Int n)
      number (num.Const m) f k =
          let fits = number_fits t g u n (num.Const m) k in
          ap (λ z. worth z u) (named_out ps x (Term-F.Num (num.Const m)) f) ∙ value_num t r u None m
          ∙ number_there u (pos 0 +ℤ m) n
          (none_more m ∙ decided (Decides-int_eq (num_under g.valuation.number (num.Const m)) n) fits.is) fits.typed
      number (num.Plus a m) f k =
          let fits = number_fits t g u n (num.Plus a m) k in
          let s = sees (OfNumber a.0) fits.has in
          ap (λ z. worth z u) (named_out ps x (Term-F.Num (num.Plus a m)) f ∙ ap (λ o. key.Num o m) s.1)
          ∙ value_num t r u (Some s.0) m
          ∙ ap (λ o. number_value t u (raised (read number_in o) m)) s.2
          ∙ ap (λ y. number_value t u (raised (number_in y) m)) (out_int (g.valuation.number a.0))
          ∙ number_there u (g.valuation.number a.0 +ℤ m) n
          (decided (Decides-int_eq (num_under g.valuation.number (num.Plus a m)) n) fits.is) fits.typed

      by : (z : Term-F Term) → out-Term x ≡ z → is_number t g u n (num_in z) ≡ true
          → worth (name_of x) u ≡ Some (value.Int n)
      by (Term-F.Num a) f k = number a f k
      by (Term-F.Elem z) f k = absurd (cc)
      by (Term-F.Tag z) f k = absurd (cc)
      by (Term-F.Rec z) f k = absurd (cc)
      by Term-F.None f k = absurd (cc)
      by (Term-F.Some z) f k = absurd (cc)
      by (Term-F.Either z) f k = absurd (cc)

  tag_there : (n : ℕ) → There (value.Tag n)
  tag_there n u b x plain h = by (out-Term x) refl (sym (fit_tag t g n u b x) ∙ h)
    where
      choice : (a : Tag) → out-Term x ≡ Term-F.Tag a → is_choice t g u n (Some a) ≡ true
          → worth (name_of x) u ≡ Some (value.Tag n)
      choice (tag.Const d i) f k =
          let fits = tag_fits t g u n (tag.Const d i) k in
          ap (λ z. worth z u) (named_out ps x (Term-F.Tag (tag.Const d i)) f) ∙ value_tag t r u i
          ∙ ap (λ m. Some (value.Tag m)) (eqb-true (tag_under g.valuation.tag (tag.Const d i)) n fits.is)
      choice (tag.Var a) f k =
          let fits = tag_fits t g u n (tag.Var a) k in
          let s = sees (OfTag a.0) (tag_has t g u a fits.tag) in
          ap (λ z. worth z u) (named_out ps x (Term-F.Tag (tag.Var a)) f ∙ ap (λ o. key.TagOf (known o)) s.1)
          ∙ value_tag_of t r u s.0 ∙ s.2
          ∙ ap (λ m. Some (value.Tag m)) (eqb-true (tag_under g.valuation.tag (tag.Var a)) n fits.is)

      by : (z : Term-F Term) → out-Term x ≡ z → is_choice t g u n (tag_in z) ≡ true
          → worth (name_of x) u ≡ Some (value.Tag n)
      by (Term-F.Tag a) f k = choice a f k
      by (Term-F.Elem z) f k = absurd (cc)
      by (Term-F.Num z) f k = absurd (cc)
      by (Term-F.Rec z) f k = absurd (cc)
      by Term-F.None f k = absurd (cc)
      by (Term-F.Some z) f k = absurd (cc)
      by (Term-F.Either z) f k = absurd (cc)

  fields_there : (ws : List Value) → Each There ws → (us : List Ty) (b : ℕ) (xs : List Term)
      → list_all (λ part. part) (map is_without_options ws) ≡ true
      → all_fit t g (map fit ws) us b xs ≡ true → (done : List Value)
      → fields_after done (map worth (map name_of xs)) us ≡ Some (done ++ ws)
  fields_there [] e [] b [] plain h done = ap (λ zs. Some zs) (sym (append-nil done))
  fields_there [] e [] b (x ∷ xs) plain h done = absurd (cc)
  fields_there [] e (u ∷ us) b xs plain h done = absurd (cc)
  fields_there (w ∷ ws) e [] b xs plain h done = absurd (cc)
  fields_there (w ∷ ws) e (u ∷ us) b [] plain h done = absurd (cc)
  fields_there (w ∷ ws) e (u ∷ us) b (x ∷ xs) plain h done =
      let both = and_parts (fit w u b x) (all_fit t g (map fit ws) us b xs) h in
      let simple = and_parts (is_without_options w) (list_all (λ part. part) (map is_without_options ws)) plain in
      ap (λ o. and_then o (λ y. fields_after (done ++ y ∷ []) (map worth (map name_of xs)) us))
      (e.0 u b x simple.0 both.0)
      ∙ fields_there ws e.1 us b xs simple.1 both.1 (done ++ w ∷ [])
      ∙ ap (λ zs. Some zs) (append_assoc done (w ∷ []) ws)

  rec_there : (ws : List Value) → Each There ws → There (value.Rec ws)
  rec_there ws each u b x plain h = by (out-Term x) refl (sym (fit_rec t g ws u b x) ∙ h)
    where
      simple : list_all (λ part. part) (map is_without_options ws) ≡ true
      simple = sym (values.fold-rec plain_step ws) ∙ plain

      found : (xs : List Term) (d : Option RecDecl) → fields_fit t g (map fit ws) d b (Some xs) ≡ true
          → record_in d (map worth (map name_of xs)) ≡ Some (value.Rec ws)
      found xs (Some d) k =
          ap (λ o. and_then o (λ vs. Some (value.Rec vs))) (fields_there ws each (field_types d) b xs simple k [])
      found xs None k = absurd (cc)

      typed : (xs : List Term) (z : Ty-F Ty) → is_record t g (map fit ws) z b (Some xs) ≡ true
          → record_value t z (map worth (map name_of xs)) ≡ Some (value.Rec ws)
      typed xs (Ty-F.Rec d) k = found xs (slice_get t.records d) k
      typed xs (Ty-F.Sort i) k = absurd (cc)
      typed xs (Ty-F.Int i) k = absurd (cc)
      typed xs (Ty-F.Enum i) k = absurd (cc)
      typed xs (Ty-F.Option w) k = absurd (cc)

      missing : (d : Option RecDecl) → fields_fit t g (map fit ws) d b None ≡ true
          → worth (name_of x) u ≡ Some (value.Rec ws)
      missing (Some d) k = absurd (cc)
      missing None k = absurd (cc)

      none : (z : Ty-F Ty) → is_record t g (map fit ws) z b None ≡ true → worth (name_of x) u ≡ Some (value.Rec ws)
      none (Ty-F.Rec d) k = missing (slice_get t.records d) k
      none (Ty-F.Sort i) k = absurd (cc)
      none (Ty-F.Int i) k = absurd (cc)
      none (Ty-F.Enum i) k = absurd (cc)
      none (Ty-F.Option w) k = absurd (cc)

      by : (z : Term-F Term) → out-Term x ≡ z → is_record t g (map fit ws) (out-Ty u) b (fields_in z) ≡ true
          → worth (name_of x) u ≡ Some (value.Rec ws)
      by (Term-F.Rec xs) f k =
          ap (λ z. worth z u) (named_out ps x (Term-F.Rec xs) f) ∙ value_rec t r u (map name_of xs)
          ∙ typed xs (out-Ty u) k
      by (Term-F.Elem z) f k = none (out-Ty u) k
      by (Term-F.Num z) f k = none (out-Ty u) k
      by (Term-F.Tag z) f k = none (out-Ty u) k
      by Term-F.None f k = none (out-Ty u) k
      by (Term-F.Some z) f k = none (out-Ty u) k
      by (Term-F.Either z) f k = none (out-Ty u) k

  none_there : There value.None
  none_there u b x plain h = absurd (let no_ = sym (values.fold-none plain_step) ∙ plain in cc)

  some_there : (w : Value) → There w → There (value.Some w)
  some_there w each u b x plain h = absurd (let no_ = sym (values.fold-some plain_step w) ∙ plain in cc)

  pub key_value_there : (w : Value) → There w
  key_value_there = value_ind There elem_there int_there tag_there rec_there none_there some_there
