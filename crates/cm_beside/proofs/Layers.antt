-- What a term that fits a value of a type looks like, form by form.
use Rattle.std.proofs.Common.{◌≡◌, ℕ, ℤ, true, List, map, slice_get}
use Rattle.std.proofs.Common.{Option, Some, None, refl, sym, ap, ◌∙◌}
use Rattle.std.proofs.lemmas.Bool.{and_parts}
use Rattle.cm_model.specs.Tables.{Tables}
use Rattle.cm_model.specs.declared.ty.Ty.{Ty, out-Ty}
use Rattle.cm_model.specs.declared.ty.Ty.TheOpen.{Ty-F}
use Rattle.cm_model.specs.declared.ty.RecDecl.{RecDecl}
use Rattle.cm_model.specs.declared.variable.SortVar.{SortVar}
use Rattle.cm_value.specs.declared.value.Value.{Value, out-Value}
use Rattle.cm_value.specs.declared.value.Value.TheVariants as value
use Rattle.cm_value.specs.declared.value.Value.TheViews.{roll-Value, roll-out-Value}
use Rattle.cm_value.specs.declared.value.Value.TheOpen.{Value-F}
use Rattle.cm_value.specs.declared.value.Value.TheFolds.{fold-roll-Value, map-Value}
use Rattle.cm_value.specs.Membership.{is_sort, is_number_of, is_variant_of, field_types}
use Rattle.cm_term.specs.declared.atom.Num.{Num}
use Rattle.cm_term.specs.declared.atom.Tag.{Tag}
use Rattle.cm_term.specs.declared.term.Term.{Term, out-Term}
use Rattle.cm_term.specs.declared.term.Term.TheOpen.{Term-F}
use Rattle.cm_cells.specs.Comparison.{elem_in, num_in, tag_in, fields_in}
use Rattle.cm_beside.specs.Grounds.{Grounds}
use Rattle.cm_beside.specs.Fits.{Fitting, fits, fits_step, is_element, is_number, is_choice, is_record, is_none, is_some}
use Rattle.cm_beside.specs.Fits.{is_nothing, is_something, fields_fit, all_fit, is_of_sort}

pub whole_value : (v : Value) (y : Value-F Value) → out-Value v ≡ y → v ≡ roll-Value y
whole_value v y is = sym (roll-out-Value v) ∙ ap roll-Value is

module _ (t : Tables) (g : Grounds) where
  abbrev pub fitting : Value → Fitting
  fitting = fits t g

  abbrev pub at_layer : Value-F Value → Fitting
  at_layer y = fits_step t g (map-Value Value Fitting fitting y)

  pub fits_out : (v : Value) (u : Ty) (b : ℕ) (x : Term) → fitting v u b x ≡ at_layer (out-Value v) u b x
  fits_out v u b x =
      ap (λ w. fitting w u b x) (sym (roll-out-Value v))
      ∙ ap (λ (m : Fitting). m u b x) (fold-roll-Value Fitting (fits_step t g) (out-Value v))

  -- which form a type has of which a term fits
  pub sort_type : (u : Ty) (n : ℕ) (o : Option SortVar) → is_element t g u n o ≡ true → (s : ℕ) × (out-Ty u ≡ Ty-F.Sort s)
  sort_type u n None h = absurd (cc)
  sort_type u n (Some y) h =
      by (out-Ty u) refl (and_parts (is_sort t (out-Ty u)) (is_of_sort (out-Ty u) (slice_get g.sorts y.0))
      (and_parts _ _ (and_parts _ _ h).1).0).0
    where
      by : (z : Ty-F Ty) → out-Ty u ≡ z → is_sort t z ≡ true → (s : ℕ) × (out-Ty u ≡ Ty-F.Sort s)
      by (Ty-F.Sort s) e k = (s, e)
      by (Ty-F.Int i) e k = absurd (cc)
      by (Ty-F.Enum i) e k = absurd (cc)
      by (Ty-F.Rec r) e k = absurd (cc)
      by (Ty-F.Option w) e k = absurd (cc)

  pub int_type : (u : Ty) (n : ℤ) (o : Option Num) → is_number t g u n o ≡ true → (i : ℕ) × (out-Ty u ≡ Ty-F.Int i)
  int_type u n None h = absurd (cc)
  int_type u n (Some a) h =
      by (out-Ty u) refl (and_parts (is_number_of t (out-Ty u) n) _ (and_parts _ _ h).1).0
    where
      by : (z : Ty-F Ty) → out-Ty u ≡ z → is_number_of t z n ≡ true → (i : ℕ) × (out-Ty u ≡ Ty-F.Int i)
      by (Ty-F.Int i) e k = (i, e)
      by (Ty-F.Sort i) e k = absurd (cc)
      by (Ty-F.Enum i) e k = absurd (cc)
      by (Ty-F.Rec r) e k = absurd (cc)
      by (Ty-F.Option w) e k = absurd (cc)

  pub enum_type : (u : Ty) (n : ℕ) (o : Option Tag) → is_choice t g u n o ≡ true → (i : ℕ) × (out-Ty u ≡ Ty-F.Enum i)
  enum_type u n None h = absurd (cc)
  enum_type u n (Some a) h =
      by (out-Ty u) refl (and_parts (is_variant_of t (out-Ty u) n) _ (and_parts _ _ h).1).0
    where
      by : (z : Ty-F Ty) → out-Ty u ≡ z → is_variant_of t z n ≡ true → (i : ℕ) × (out-Ty u ≡ Ty-F.Enum i)
      by (Ty-F.Enum i) e k = (i, e)
      by (Ty-F.Sort i) e k = absurd (cc)
      by (Ty-F.Int i) e k = absurd (cc)
      by (Ty-F.Rec r) e k = absurd (cc)
      by (Ty-F.Option w) e k = absurd (cc)

  pub record_type : (ms : List Fitting) (u : Ty) (b : ℕ) (o : Option (List Term)) → is_record t g ms (out-Ty u) b o ≡ true
      → (r : ℕ) × (out-Ty u ≡ Ty-F.Rec r)
  record_type ms u b o h = by (out-Ty u) refl h
    where
      by : (z : Ty-F Ty) → out-Ty u ≡ z → is_record t g ms z b o ≡ true → (r : ℕ) × (out-Ty u ≡ Ty-F.Rec r)
      by (Ty-F.Rec r) e k = (r, e)
      by (Ty-F.Sort i) e k = absurd (cc)
      by (Ty-F.Int i) e k = absurd (cc)
      by (Ty-F.Enum i) e k = absurd (cc)
      by (Ty-F.Option w) e k = absurd (cc)

  pub none_type : (u : Ty) (b : ℕ) (y : Term-F Term) → is_none t g (out-Ty u) b y ≡ true
      → (w : Ty) × (out-Ty u ≡ Ty-F.Option w)
  none_type u b y h = by (out-Ty u) refl h
    where
      by : (z : Ty-F Ty) → out-Ty u ≡ z → is_none t g z b y ≡ true → (w : Ty) × (out-Ty u ≡ Ty-F.Option w)
      by (Ty-F.Option w) e k = (w, e)
      by (Ty-F.Sort i) e k = absurd (cc)
      by (Ty-F.Int i) e k = absurd (cc)
      by (Ty-F.Enum i) e k = absurd (cc)
      by (Ty-F.Rec r) e k = absurd (cc)

  pub some_type : (m : Fitting) (u : Ty) (b : ℕ) (y : Term-F Term) → is_some t g m (out-Ty u) b y ≡ true
      → (w : Ty) × (out-Ty u ≡ Ty-F.Option w)
  some_type m u b y h = by (out-Ty u) refl h
    where
      by : (z : Ty-F Ty) → out-Ty u ≡ z → is_some t g m z b y ≡ true → (w : Ty) × (out-Ty u ≡ Ty-F.Option w)
      by (Ty-F.Option w) e k = (w, e)
      by (Ty-F.Sort i) e k = absurd (cc)
      by (Ty-F.Int i) e k = absurd (cc)
      by (Ty-F.Enum i) e k = absurd (cc)
      by (Ty-F.Rec r) e k = absurd (cc)

  -- a value of an integer type, and its term
  pub record AtInt (u : Ty) (v : Value) (x : Term) : Type 0 where
    pub n : ℤ
    pub a : Num
    pub value_is : v ≡ value.Int n
    pub term_is : num_in (out-Term x) ≡ Some a
    pub number : is_number t g u n (Some a) ≡ true

  pub at_int : (u : Ty) (i : ℕ) → out-Ty u ≡ Ty-F.Int i → (v : Value) (b : ℕ) (x : Term) → fitting v u b x ≡ true
      → AtInt u v x
  at_int u i of v b x h = by (out-Value v) refl (sym (fits_out v u b x) ∙ h)
    where
      found : (n : ℤ) → v ≡ value.Int n → (o : Option Num) → num_in (out-Term x) ≡ o → is_number t g u n o ≡ true
          → AtInt u v x
      found n e (Some a) f k = record { n = n; a = a; value_is = e; term_is = f; number = k }
      found n e None f k = absurd (cc)

      by : (y : Value-F Value) → out-Value v ≡ y → at_layer y u b x ≡ true → AtInt u v x
      by (Value-F.Int n) e k =
          found n (whole_value v (Value-F.Int n) e ∙ value.rolls-Int n) (num_in (out-Term x)) refl k
      by (Value-F.Elem n) e k = absurd (let s = sort_type u n (elem_in (out-Term x)) k in
          let no = sym of ∙ s.1 in cc)
      by (Value-F.Tag n) e k = absurd (let s = enum_type u n (tag_in (out-Term x)) k in
          let no = sym of ∙ s.1 in cc)
      by (Value-F.Rec vs) e k = absurd (let s = record_type (map fitting vs) u b (fields_in (out-Term x)) k in
          let no = sym of ∙ s.1 in cc)
      by Value-F.None e k = absurd (let s = none_type u b (out-Term x) k in let no = sym of ∙ s.1 in cc)
      by (Value-F.Some w) e k = absurd (let s = some_type (fitting w) u b (out-Term x) k in
          let no = sym of ∙ s.1 in cc)

  -- a value of a sort, and its term
  pub record AtSort (u : Ty) (v : Value) (x : Term) : Type 0 where
    pub n : ℕ
    pub a : SortVar
    pub value_is : v ≡ value.Elem n
    pub term_is : elem_in (out-Term x) ≡ Some a
    pub element : is_element t g u n (Some a) ≡ true

  pub at_sort : (u : Ty) (i : ℕ) → out-Ty u ≡ Ty-F.Sort i → (v : Value) (b : ℕ) (x : Term) → fitting v u b x ≡ true
      → AtSort u v x
  at_sort u i of v b x h = by (out-Value v) refl (sym (fits_out v u b x) ∙ h)
    where
      found : (n : ℕ) → v ≡ value.Elem n → (o : Option SortVar) → elem_in (out-Term x) ≡ o
          → is_element t g u n o ≡ true → AtSort u v x
      found n e (Some a) f k = record { n = n; a = a; value_is = e; term_is = f; element = k }
      found n e None f k = absurd (cc)

      by : (y : Value-F Value) → out-Value v ≡ y → at_layer y u b x ≡ true → AtSort u v x
      by (Value-F.Elem n) e k =
          found n (whole_value v (Value-F.Elem n) e ∙ value.rolls-Elem n) (elem_in (out-Term x)) refl k
      by (Value-F.Int n) e k = absurd (let s = int_type u n (num_in (out-Term x)) k in
          let no = sym of ∙ s.1 in cc)
      by (Value-F.Tag n) e k = absurd (let s = enum_type u n (tag_in (out-Term x)) k in
          let no = sym of ∙ s.1 in cc)
      by (Value-F.Rec vs) e k = absurd (let s = record_type (map fitting vs) u b (fields_in (out-Term x)) k in
          let no = sym of ∙ s.1 in cc)
      by Value-F.None e k = absurd (let s = none_type u b (out-Term x) k in let no = sym of ∙ s.1 in cc)
      by (Value-F.Some w) e k = absurd (let s = some_type (fitting w) u b (out-Term x) k in
          let no = sym of ∙ s.1 in cc)

  -- a value of an enum, and its term
  pub record AtEnum (u : Ty) (v : Value) (x : Term) : Type 0 where
    pub n : ℕ
    pub a : Tag
    pub value_is : v ≡ value.Tag n
    pub term_is : tag_in (out-Term x) ≡ Some a
    pub choice : is_choice t g u n (Some a) ≡ true

  pub at_enum : (u : Ty) (i : ℕ) → out-Ty u ≡ Ty-F.Enum i → (v : Value) (b : ℕ) (x : Term) → fitting v u b x ≡ true
      → AtEnum u v x
  at_enum u i of v b x h = by (out-Value v) refl (sym (fits_out v u b x) ∙ h)
    where
      found : (n : ℕ) → v ≡ value.Tag n → (o : Option Tag) → tag_in (out-Term x) ≡ o
          → is_choice t g u n o ≡ true → AtEnum u v x
      found n e (Some a) f k = record { n = n; a = a; value_is = e; term_is = f; choice = k }
      found n e None f k = absurd (cc)

      by : (y : Value-F Value) → out-Value v ≡ y → at_layer y u b x ≡ true → AtEnum u v x
      by (Value-F.Tag n) e k =
          found n (whole_value v (Value-F.Tag n) e ∙ value.rolls-Tag n) (tag_in (out-Term x)) refl k
      by (Value-F.Int n) e k = absurd (let s = int_type u n (num_in (out-Term x)) k in
          let no = sym of ∙ s.1 in cc)
      by (Value-F.Elem n) e k = absurd (let s = sort_type u n (elem_in (out-Term x)) k in
          let no = sym of ∙ s.1 in cc)
      by (Value-F.Rec vs) e k = absurd (let s = record_type (map fitting vs) u b (fields_in (out-Term x)) k in
          let no = sym of ∙ s.1 in cc)
      by Value-F.None e k = absurd (let s = none_type u b (out-Term x) k in let no = sym of ∙ s.1 in cc)
      by (Value-F.Some w) e k = absurd (let s = some_type (fitting w) u b (out-Term x) k in
          let no = sym of ∙ s.1 in cc)

  -- a value of a record, and its term
  pub record AtRecord (u : Ty) (r b : ℕ) (v : Value) (x : Term) : Type 0 where
    pub parts : List Value
    pub d : RecDecl
    pub fields : List Term
    pub value_is : v ≡ value.Rec parts
    pub declared : slice_get t.records r ≡ Some d
    pub term_is : fields_in (out-Term x) ≡ Some fields
    pub fit : all_fit t g (map fitting parts) (field_types d) b fields ≡ true

  pub at_record : (u : Ty) (r : ℕ) → out-Ty u ≡ Ty-F.Rec r → (v : Value) (b : ℕ) (x : Term) → fitting v u b x ≡ true
      → AtRecord u r b v x
  at_record u r of v b x h = by (out-Value v) refl (sym (fits_out v u b x) ∙ h)
    where
      found : (vs : List Value) → v ≡ value.Rec vs → (o : Option RecDecl) → slice_get t.records r ≡ o
          → (p : Option (List Term)) → fields_in (out-Term x) ≡ p
          → fields_fit t g (map fitting vs) o b p ≡ true → AtRecord u r b v x
      found vs e (Some d) f (Some xs) p k = record {
        parts = vs;
        d = d;
        fields = xs;
        value_is = e;
        declared = f;
        term_is = p;
        fit = k;
      }
      found vs e (Some d) f None p k = absurd (cc)
      found vs e None f p q k = absurd (cc)

      by : (y : Value-F Value) → out-Value v ≡ y → at_layer y u b x ≡ true → AtRecord u r b v x
      by (Value-F.Rec vs) e k =
          found vs (whole_value v (Value-F.Rec vs) e ∙ value.rolls-Rec vs) (slice_get t.records r) refl
          (fields_in (out-Term x)) refl
          (sym (ap (λ z. is_record t g (map fitting vs) z b (fields_in (out-Term x))) of) ∙ k)
      by (Value-F.Int n) e k = absurd (let s = int_type u n (num_in (out-Term x)) k in
          let no = sym of ∙ s.1 in cc)
      by (Value-F.Elem n) e k = absurd (let s = sort_type u n (elem_in (out-Term x)) k in
          let no = sym of ∙ s.1 in cc)
      by (Value-F.Tag n) e k = absurd (let s = enum_type u n (tag_in (out-Term x)) k in
          let no = sym of ∙ s.1 in cc)
      by Value-F.None e k = absurd (let s = none_type u b (out-Term x) k in let no = sym of ∙ s.1 in cc)
      by (Value-F.Some w) e k = absurd (let s = some_type (fitting w) u b (out-Term x) k in
          let no = sym of ∙ s.1 in cc)

  -- a value of an option, and its term
  pub data AtOption (w : Ty) (b : ℕ) (v : Value) (x : Term) : Type 0 where
    Nothing : v ≡ value.None → is_nothing t g b (out-Term x) ≡ true → AtOption w b v x
    Something : (y : Value) → v ≡ value.Some y → is_something t g (fitting y) w b (out-Term x) ≡ true
        → AtOption w b v x

  pub at_option : (u w : Ty) → out-Ty u ≡ Ty-F.Option w → (v : Value) (b : ℕ) (x : Term) → fitting v u b x ≡ true
      → AtOption w b v x
  at_option u w of v b x h = by (out-Value v) refl (sym (fits_out v u b x) ∙ h)
    where
      by : (y : Value-F Value) → out-Value v ≡ y → at_layer y u b x ≡ true → AtOption w b v x
      by Value-F.None e k =
          Nothing (whole_value v Value-F.None e ∙ value.rolls-None)
          (sym (ap (λ z. is_none t g z b (out-Term x)) of) ∙ k)
      by (Value-F.Some y) e k =
          Something y (whole_value v (Value-F.Some y) e ∙ value.rolls-Some y)
          (sym (ap (λ z. is_some t g (fitting y) z b (out-Term x)) of) ∙ k)
      by (Value-F.Rec vs) e k = absurd (let s = record_type (map fitting vs) u b (fields_in (out-Term x)) k in
          let no = sym of ∙ s.1 in cc)
      by (Value-F.Int n) e k = absurd (let s = int_type u n (num_in (out-Term x)) k in
          let no = sym of ∙ s.1 in cc)
      by (Value-F.Elem n) e k = absurd (let s = sort_type u n (elem_in (out-Term x)) k in
          let no = sym of ∙ s.1 in cc)
      by (Value-F.Tag n) e k = absurd (let s = enum_type u n (tag_in (out-Term x)) k in
          let no = sym of ∙ s.1 in cc)
