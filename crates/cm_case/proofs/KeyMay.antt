-- A named key has, where it has a value, the value of its term.
use Rattle.std.proofs.Common.{◌≡◌, ◌+ℤ◌, ℕ, ℤ, pos, Bool, true, false, List, [], ◌∷◌, ◌++◌, map, slice_get, IfSome}
use Rattle.std.proofs.Common.{Option, Some, None, refl, sym, ap, subst, ◌∙◌, append_assoc, arith, if◌then◌else◌}
use Rattle.std.proofs.lemmas.Bool.{and_parts}
use Rattle.std.proofs.lemmas.Int.{ints}
use Rattle.std.proofs.lemmas.List.{append-nil}
use Rattle.cm_model.specs.Tables.{Tables}
use Rattle.cm_model.specs.declared.ty.Ty.{Ty, out-Ty}
use Rattle.cm_model.specs.declared.ty.Ty.TheOpen.{Ty-F}
use Rattle.cm_model.specs.declared.ty.RecDecl.{RecDecl}
use Rattle.cm_value.specs.declared.value.Value.{Value, out-Value}
use Rattle.cm_value.specs.declared.value.Value.TheVariants as value
use Rattle.cm_value.specs.Membership.{is_number_of, field_types}
use Rattle.cm_value.proofs.Induction.{Each, value_ind}
use Rattle.cm_term.specs.declared.atom.Num.{Num}
use Rattle.cm_term.specs.declared.atom.Num.TheVariants as num
use Rattle.cm_term.specs.declared.atom.Tag.{Tag}
use Rattle.cm_term.specs.declared.atom.Tag.TheVariants as tag
use Rattle.cm_term.specs.declared.symbol.Sym.{Sym}
use Rattle.cm_term.specs.declared.term.Term.{Term, out-Term}
use Rattle.cm_term.specs.declared.term.Term.TheOpen.{Term-F}
use Rattle.cm_term.specs.Symbols.{Roots, symbol_value}
use Rattle.cm_term.specs.Terms.{value_of}
use Rattle.cm_term.specs.Valuation.{Valuation, Var, OfElement, OfNumber, OfTag}
use Rattle.cm_cells.specs.Comparison.{elem_in, num_in, tag_in, fields_in}
use Rattle.cm_ctx.specs.declared.piece.Piece.{Piece}
use Rattle.cm_cond.specs.declared.cell.KeyTerm.{KeyTerm}
use Rattle.cm_cond.specs.declared.cell.KeyTerm.TheVariants as key
use Rattle.cm_cond.specs.Keys.{KeyValue, key_value, number_value, record_value, record_in, fields_after}
use Rattle.cm_cond.specs.Keys.{and_then}
use Rattle.cm_cond.specs.Values.{raised, read, number_in}
use Rattle.cm_name.specs.Naming.{key_named, known}
use Rattle.cm_beside.specs.Grounds.{Grounds}
use Rattle.cm_beside.specs.Fits.{Fitting, is_element, is_number, is_choice, is_record, is_none, is_some, fields_fit}
use Rattle.cm_beside.specs.Fits.{all_fit, is_nothing, is_something}
use Rattle.cm_beside.specs.Seen.{symbol_at}
use Rattle.cm_beside.proofs.Layers.{fitting}
use Rattle.cm_beside.proofs.Fitting.{fit_elem, fit_int, fit_tag, fit_rec, fit_none, fit_some}
use Rattle.cm_beside.proofs.Seeing.{value_at}
use Rattle.cm_case.proofs.KeyForms.{value_elem, value_num, value_tag_of, value_tag, value_rec, named_out, worth_out}
use Rattle.cm_case.proofs.KeyForms.{out_int, element_fits, number_fits, tag_fits, tag_has}

pub if_some : (o : Option Value) (P : Value → Type 0) → IfSome o P → (y : Value) → o ≡ Some y → P y
if_some (Some z) P h y e = let same : z ≡ y = cc in subst P same h
if_some None P h y e = absurd (cc)

pub then_some : {X Y : Type 0} (o : Option X) (f : X → Option Y) (y : Y) → and_then o f ≡ Some y
    → (x : X) × (o ≡ Some x) × (f x ≡ Some y)
then_some (Some x) f y h = (x, refl, h)
then_some None f y h = absurd (cc)

pub none_more : (n : ℤ) → (pos 0 +ℤ n) ≡ n
none_more n = omega (arith, ints)

module _ (t : Tables) (ps : List Piece) (r : Roots) (v : Valuation) (g : Grounds)
    (may : (x : Var) → g.has x ≡ true
    → (s : Sym) × (symbol_at ps x ≡ Some s) × IfSome (symbol_value r s) (λ y. y ≡ value_at v x)) where
  abbrev fit : Value → Fitting
  fit = fitting t g

  abbrev name_of : Term → KeyTerm
  name_of = key_named ps

  abbrev worth : KeyTerm → KeyValue
  worth = key_value t r

  -- where a key of this form has a value
  abbrev May : Value → Type 0
  May w =
      (u : Ty) (b : ℕ) (x : Term) → fit w u b x ≡ true → (y : Value) → worth (name_of x) u ≡ Some y
      → y ≡ value_of v x

  elem_may : (n : ℕ) → May (value.Elem n)
  elem_may n u b x h y e = by (out-Term x) refl (sym (fit_elem t g n u b x) ∙ h)
    where
      by : (z : Term-F Term) → out-Term x ≡ z → is_element t g u n (elem_in z) ≡ true → y ≡ value_of v x
      by (Term-F.Elem a) f k =
          let s = may (OfElement a.0) (element_fits t g u n a k).has in
          let named = named_out ps x (Term-F.Elem a) f ∙ ap (λ o. key.Elem (known o)) s.1 in
          if_some (symbol_value r s.0) (λ z. z ≡ value_at v (OfElement a.0)) s.2 y
          (sym (ap (λ k. worth k u) named ∙ value_elem t r u s.0) ∙ e) ∙ sym (worth_out v x (Term-F.Elem a) f)
      by (Term-F.Num z) f k = absurd (cc)
      by (Term-F.Tag z) f k = absurd (cc)
      by (Term-F.Rec z) f k = absurd (cc)
      by Term-F.None f k = absurd (cc)
      by (Term-F.Some z) f k = absurd (cc)
      by (Term-F.Either z) f k = absurd (cc)

  number_is : (u : Ty) (m : ℤ) (y : Value) → number_value t u (Some m) ≡ Some y → y ≡ value.Int m
  number_is u m y h = by (is_number_of t (out-Ty u) m) h
    where
      by : (b : Bool) → (if b then Some (value.Int m) else None) ≡ Some y → y ≡ value.Int m
      by true h = cc
      by false h = absurd (cc)

  raised_is : (u : Ty) (n m : ℤ) (o : Option Value) → IfSome o (λ z. z ≡ value.Int n) → (y : Value)
      → number_value t u (raised (read number_in o) m) ≡ Some y → y ≡ value.Int (n +ℤ m)
  raised_is u n m None h y e = absurd (cc)
  raised_is u n m (Some z) h y e =
      number_is u (n +ℤ m) y
      (sym (ap (λ p. number_value t u (raised (number_in p) m)) (ap out-Value h ∙ out_int n)) ∙ e)

  int_may : (n : ℤ) → May (value.Int n)
  int_may n u b x h y e = by (out-Term x) refl (sym (fit_int t g n u b x) ∙ h)
    where
      number : (a : Num) → out-Term x ≡ Term-F.Num a → is_number t g u n (Some a) ≡ true → y ≡ value_of v x
      number (num.Const m) f k =
          number_is u (pos 0 +ℤ m) y
          (sym (ap (λ z. worth z u) (named_out ps x (Term-F.Num (num.Const m)) f) ∙ value_num t r u None m) ∙ e)
          ∙ ap value.Int (none_more m) ∙ sym (worth_out v x (Term-F.Num (num.Const m)) f)
      number (num.Plus a m) f k =
          let s = may (OfNumber a.0) (number_fits t g u n (num.Plus a m) k).has in
          let named = named_out ps x (Term-F.Num (num.Plus a m)) f ∙ ap (λ o. key.Num o m) s.1 in
          raised_is u (v.number a.0) m (symbol_value r s.0) s.2 y
          (sym (ap (λ z. worth z u) named ∙ value_num t r u (Some s.0) m) ∙ e)
          ∙ sym (worth_out v x (Term-F.Num (num.Plus a m)) f)

      by : (z : Term-F Term) → out-Term x ≡ z → is_number t g u n (num_in z) ≡ true → y ≡ value_of v x
      by (Term-F.Num a) f k = number a f k
      by (Term-F.Elem z) f k = absurd (cc)
      by (Term-F.Tag z) f k = absurd (cc)
      by (Term-F.Rec z) f k = absurd (cc)
      by Term-F.None f k = absurd (cc)
      by (Term-F.Some z) f k = absurd (cc)
      by (Term-F.Either z) f k = absurd (cc)

  tag_may : (n : ℕ) → May (value.Tag n)
  tag_may n u b x h y e = by (out-Term x) refl (sym (fit_tag t g n u b x) ∙ h)
    where
      choice : (a : Tag) → out-Term x ≡ Term-F.Tag a → is_choice t g u n (Some a) ≡ true → y ≡ value_of v x
      choice (tag.Const d i) f k =
          let here : Some (value.Tag i) ≡ Some y =
          sym (ap (λ z. worth z u) (named_out ps x (Term-F.Tag (tag.Const d i)) f) ∙ value_tag t r u i) ∙ e in
          let same : y ≡ value.Tag i = cc in
          same ∙ sym (worth_out v x (Term-F.Tag (tag.Const d i)) f)
      choice (tag.Var a) f k =
          let s = may (OfTag a.0) (tag_has t g u a (tag_fits t g u n (tag.Var a) k).tag) in
          let named = named_out ps x (Term-F.Tag (tag.Var a)) f ∙ ap (λ o. key.TagOf (known o)) s.1 in
          if_some (symbol_value r s.0) (λ z. z ≡ value_at v (OfTag a.0)) s.2 y
          (sym (ap (λ k. worth k u) named ∙ value_tag_of t r u s.0) ∙ e)
          ∙ sym (worth_out v x (Term-F.Tag (tag.Var a)) f)

      by : (z : Term-F Term) → out-Term x ≡ z → is_choice t g u n (tag_in z) ≡ true → y ≡ value_of v x
      by (Term-F.Tag a) f k = choice a f k
      by (Term-F.Elem z) f k = absurd (cc)
      by (Term-F.Num z) f k = absurd (cc)
      by (Term-F.Rec z) f k = absurd (cc)
      by Term-F.None f k = absurd (cc)
      by (Term-F.Some z) f k = absurd (cc)
      by (Term-F.Either z) f k = absurd (cc)

  fields_may : (ws : List Value) → Each May ws → (us : List Ty) (b : ℕ) (xs : List Term)
      → all_fit t g (map fit ws) us b xs ≡ true → (done zs : List Value)
      → fields_after done (map worth (map name_of xs)) us ≡ Some zs → zs ≡ done ++ map (value_of v) xs
  fields_may [] e [] b [] h done zs k = let same : zs ≡ done = cc in same ∙ sym (append-nil done)
  fields_may [] e [] b (x ∷ xs) h done zs k = absurd (cc)
  fields_may [] e (u ∷ us) b xs h done zs k = absurd (cc)
  fields_may (w ∷ ws) e [] b xs h done zs k = absurd (cc)
  fields_may (w ∷ ws) e (u ∷ us) b [] h done zs k = absurd (cc)
  fields_may (w ∷ ws) e (u ∷ us) b (x ∷ xs) h done zs k =
      let both = and_parts (fit w u b x) (all_fit t g (map fit ws) us b xs) h in
      let one = then_some (worth (name_of x) u) (λ y. fields_after (done ++ y ∷ []) (map worth (map name_of xs)) us) zs
      k in
      fields_may ws e.1 us b xs both.1 (done ++ one.0 ∷ []) zs one.2
      ∙ append_assoc done (one.0 ∷ []) (map (value_of v) xs)
      ∙ ap (λ y. done ++ y ∷ map (value_of v) xs) (e.0 u b x both.0 one.0 one.1)

  rec_may : (ws : List Value) → Each May ws → May (value.Rec ws)
  rec_may ws each u b x h y e = by (out-Term x) refl (sym (fit_rec t g ws u b x) ∙ h)
    where
      found : (xs : List Term) (d : Option RecDecl) → fields_fit t g (map fit ws) d b (Some xs) ≡ true
          → record_in d (map worth (map name_of xs)) ≡ Some y → y ≡ value.Rec (map (value_of v) xs)
      found xs (Some d) k l =
          let parts = then_some (fields_after [] (map worth (map name_of xs)) (field_types d))
          (λ vs. Some (value.Rec vs)) y l in
          let same : y ≡ value.Rec parts.0 = (let g = parts.2 in cc) in
          same ∙ ap value.Rec (fields_may ws each (field_types d) b xs k [] parts.0 parts.1)
      found xs None k l = absurd (cc)

      typed : (xs : List Term) (z : Ty-F Ty) → is_record t g (map fit ws) z b (Some xs) ≡ true
          → record_value t z (map worth (map name_of xs)) ≡ Some y → y ≡ value.Rec (map (value_of v) xs)
      typed xs (Ty-F.Rec d) k l = found xs (slice_get t.records d) k l
      typed xs (Ty-F.Sort i) k l = absurd (cc)
      typed xs (Ty-F.Int i) k l = absurd (cc)
      typed xs (Ty-F.Enum i) k l = absurd (cc)
      typed xs (Ty-F.Option w) k l = absurd (cc)

      missing : (d : Option RecDecl) → fields_fit t g (map fit ws) d b None ≡ true → y ≡ value_of v x
      missing (Some d) k = absurd (cc)
      missing None k = absurd (cc)

      none : (z : Ty-F Ty) → is_record t g (map fit ws) z b None ≡ true → y ≡ value_of v x
      none (Ty-F.Rec d) k = missing (slice_get t.records d) k
      none (Ty-F.Sort i) k = absurd (cc)
      none (Ty-F.Int i) k = absurd (cc)
      none (Ty-F.Enum i) k = absurd (cc)
      none (Ty-F.Option w) k = absurd (cc)

      by : (z : Term-F Term) → out-Term x ≡ z → is_record t g (map fit ws) (out-Ty u) b (fields_in z) ≡ true
          → y ≡ value_of v x
      by (Term-F.Rec xs) f k =
          typed xs (out-Ty u) k (sym (ap (λ z. worth z u) (named_out ps x (Term-F.Rec xs) f)
          ∙ value_rec t r u (map name_of xs)) ∙ e) ∙ sym (worth_out v x (Term-F.Rec xs) f)
      by (Term-F.Elem z) f k = none (out-Ty u) k
      by (Term-F.Num z) f k = none (out-Ty u) k
      by (Term-F.Tag z) f k = none (out-Ty u) k
      by Term-F.None f k = none (out-Ty u) k
      by (Term-F.Some z) f k = none (out-Ty u) k
      by (Term-F.Either z) f k = none (out-Ty u) k

  -- a key that is an option has no value
  never : (u w : Ty) → out-Ty u ≡ Ty-F.Option w → (x : Term) → name_of x ≡ key.Rec [] → (y : Value)
      → worth (name_of x) u ≡ Some y → ⊥
  never u w of x named y e =
      let no_ : Some y ≡ None =
      sym e ∙ ap (λ z. worth z u) named ∙ value_rec t r u [] ∙ ap (λ z. record_value t z []) of in
      cc

  none_may : May value.None
  none_may u b x h y e = by (out-Ty u) refl (sym (fit_none t g u b x) ∙ h)
    where
      here : (w : Ty) → out-Ty u ≡ Ty-F.Option w → (z : Term-F Term) → out-Term x ≡ z → is_nothing t g b z ≡ true
          → y ≡ value_of v x
      here w of Term-F.None f k = absurd (never u w of x (named_out ps x Term-F.None f) y e)
      here w of (Term-F.Either o) f k = absurd (never u w of x (named_out ps x (Term-F.Either o) f) y e)
      here w of (Term-F.Elem z) f k = absurd (cc)
      here w of (Term-F.Num z) f k = absurd (cc)
      here w of (Term-F.Tag z) f k = absurd (cc)
      here w of (Term-F.Rec z) f k = absurd (cc)
      here w of (Term-F.Some z) f k = absurd (cc)

      by : (z : Ty-F Ty) → out-Ty u ≡ z → is_none t g z b (out-Term x) ≡ true → y ≡ value_of v x
      by (Ty-F.Option w) of k = here w of (out-Term x) refl k
      by (Ty-F.Sort i) of k = absurd (cc)
      by (Ty-F.Int i) of k = absurd (cc)
      by (Ty-F.Enum i) of k = absurd (cc)
      by (Ty-F.Rec i) of k = absurd (cc)

  some_may : (w : Value) → May w → May (value.Some w)
  some_may w each u b x h y e = by (out-Ty u) refl (sym (fit_some t g w u b x) ∙ h)
    where
      here : (p : Ty) → out-Ty u ≡ Ty-F.Option p → (z : Term-F Term) → out-Term x ≡ z
          → is_something t g (fit w) p b z ≡ true → y ≡ value_of v x
      here p of (Term-F.Some z) f k = absurd (never u p of x (named_out ps x (Term-F.Some z) f) y e)
      here p of (Term-F.Either o) f k = absurd (never u p of x (named_out ps x (Term-F.Either o) f) y e)
      here p of (Term-F.Elem z) f k = absurd (cc)
      here p of (Term-F.Num z) f k = absurd (cc)
      here p of (Term-F.Tag z) f k = absurd (cc)
      here p of (Term-F.Rec z) f k = absurd (cc)
      here p of Term-F.None f k = absurd (cc)

      by : (z : Ty-F Ty) → out-Ty u ≡ z → is_some t g (fit w) z b (out-Term x) ≡ true → y ≡ value_of v x
      by (Ty-F.Option p) of k = here p of (out-Term x) refl k
      by (Ty-F.Sort i) of k = absurd (cc)
      by (Ty-F.Int i) of k = absurd (cc)
      by (Ty-F.Enum i) of k = absurd (cc)
      by (Ty-F.Rec i) of k = absurd (cc)

  -- a named key has, where it has a value, that of its term under the valuation; whatever the fitting valuation is
  pub key_value_may : (w : Value) → May w
  key_value_may = value_ind May elem_may int_may tag_may rec_may none_may some_may
