-- A term that fits a value has that value, which is of the type; and fits with more options, too.
use Rattle.std.proofs.Common.{◌≡◌, ◌<◌, ◌≤◌, ℕ, ◌==◌, ltb, ℤ, Bool, true, false, ◌&&◌, List, [], ◌∷◌, map}
use Rattle.std.proofs.Common.{slice_get, Option, Some, None, Decides, refl, sym, ap, ◌∙◌, arith, if◌then◌else◌}
use Rattle.std.proofs.lemmas.Bool.{and_parts, and_from, eqb-true, ltb-true, lt-ltb}
use Rattle.std.proofs.lemmas.Bool.Decides.{Decides-int_eq}
use Rattle.cm_model.specs.Tables.{Tables}
use Rattle.cm_model.specs.declared.ty.Ty.{Ty, out-Ty}
use Rattle.cm_model.specs.declared.ty.Ty.TheOpen.{Ty-F}
use Rattle.cm_model.specs.declared.ty.RecDecl.{RecDecl}
use Rattle.cm_model.specs.declared.variable.SortVar.{SortVar}
use Rattle.cm_value.specs.declared.value.Value.{Value}
use Rattle.cm_value.specs.declared.value.Value.TheVariants as value
use Rattle.cm_value.specs.Membership.{member_of, are_members, is_value_of, is_sort, is_number_of, is_variant_of}
use Rattle.cm_value.specs.Membership.{is_record_of, is_none_of, is_some_of, has_fields, field_types}
use Rattle.cm_value.proofs.Folds as values
use Rattle.cm_value.proofs.Induction.{Each, value_ind}
use Rattle.cm_value.proofs.Members.{member-elem, member-int, member-tag, member-rec, member-none, member-some}
use Rattle.cm_term.specs.declared.atom.Num.{Num}
use Rattle.cm_term.specs.declared.atom.Tag.{Tag}
use Rattle.cm_term.specs.declared.term.Term.{Term, out-Term}
use Rattle.cm_term.specs.declared.term.Term.TheViews.{roll-Term, roll-out-Term}
use Rattle.cm_term.specs.declared.term.Term.TheOpen.{Term-F}
use Rattle.cm_term.specs.declared.term.Term.TheFolds.{fold-roll-Term, map-Term}
use Rattle.cm_term.specs.Atoms.{num_under, tag_under}
use Rattle.cm_term.specs.Terms.{value_of, value_step}
use Rattle.cm_cells.specs.Comparison.{elem_in, num_in, tag_in, fields_in}
use Rattle.cm_beside.specs.Grounds.{Grounds}
use Rattle.cm_beside.specs.Fits.{Fitting, fits_step, is_element, is_number, is_choice, is_record, is_none, is_some}
use Rattle.cm_beside.specs.Fits.{is_nothing, is_something, is_option, fields_fit, all_fit, payload_fits}
use Rattle.cm_beside.proofs.Layers.{fitting}

pub decided : {b : Bool} {P : Type 0} → Decides b P → b ≡ true → P
decided {b} {P} d h = grind (arith, d, h)

module _ (t : Tables) (g : Grounds) where
  abbrev fit : Value → Fitting
  fit = fitting t g

  pub fit_elem : (n : ℕ) (u : Ty) (b : ℕ) (x : Term) → fit (value.Elem n) u b x ≡ is_element t g u n (elem_in (out-Term x))
  fit_elem n u b x = ap (λ (m : Fitting). m u b x) (values.fold-elem (fits_step t g) n)

  pub fit_int : (n : ℤ) (u : Ty) (b : ℕ) (x : Term) → fit (value.Int n) u b x ≡ is_number t g u n (num_in (out-Term x))
  fit_int n u b x = ap (λ (m : Fitting). m u b x) (values.fold-int (fits_step t g) n)

  pub fit_tag : (n : ℕ) (u : Ty) (b : ℕ) (x : Term) → fit (value.Tag n) u b x ≡ is_choice t g u n (tag_in (out-Term x))
  fit_tag n u b x = ap (λ (m : Fitting). m u b x) (values.fold-tag (fits_step t g) n)

  pub fit_rec : (vs : List Value) (u : Ty) (b : ℕ) (x : Term)
      → fit (value.Rec vs) u b x ≡ is_record t g (map fit vs) (out-Ty u) b (fields_in (out-Term x))
  fit_rec vs u b x = ap (λ (m : Fitting). m u b x) (values.fold-rec (fits_step t g) vs)

  pub fit_none : (u : Ty) (b : ℕ) (x : Term) → fit value.None u b x ≡ is_none t g (out-Ty u) b (out-Term x)
  fit_none u b x = ap (λ (m : Fitting). m u b x) (values.fold-none (fits_step t g))

  pub fit_some : (v : Value) (u : Ty) (b : ℕ) (x : Term)
      → fit (value.Some v) u b x ≡ is_some t g (fit v) (out-Ty u) b (out-Term x)
  fit_some v u b x = ap (λ (m : Fitting). m u b x) (values.fold-some (fits_step t g) v)

  -- the value is of the type
  abbrev IsMember : Value → Type 0
  IsMember v = (u : Ty) (b : ℕ) (x : Term) → fit v u b x ≡ true → is_value_of t u v ≡ true

  elem_member : (n : ℕ) → IsMember (value.Elem n)
  elem_member n u b x h = member-elem t u n ∙ by (elem_in (out-Term x)) (sym (fit_elem n u b x) ∙ h)
    where
      by : (o : Option SortVar) → is_element t g u n o ≡ true → is_sort t (out-Ty u) ≡ true
      by None k = absurd (cc)
      by (Some y) k = (and_parts (is_sort t (out-Ty u)) _ (and_parts _ _ (and_parts _ _ k).1).0).0

  int_member : (n : ℤ) → IsMember (value.Int n)
  int_member n u b x h = member-int t u n ∙ by (num_in (out-Term x)) (sym (fit_int n u b x) ∙ h)
    where
      by : (o : Option Num) → is_number t g u n o ≡ true → is_number_of t (out-Ty u) n ≡ true
      by None k = absurd (cc)
      by (Some a) k = (and_parts (is_number_of t (out-Ty u) n) _ (and_parts _ _ k).1).0

  tag_member : (n : ℕ) → IsMember (value.Tag n)
  tag_member n u b x h = member-tag t u n ∙ by (tag_in (out-Term x)) (sym (fit_tag n u b x) ∙ h)
    where
      by : (o : Option Tag) → is_choice t g u n o ≡ true → is_variant_of t (out-Ty u) n ≡ true
      by None k = absurd (cc)
      by (Some a) k = (and_parts (is_variant_of t (out-Ty u) n) _ (and_parts _ _ k).1).0

  all_members : (vs : List Value) → Each IsMember vs → (us : List Ty) (b : ℕ) (xs : List Term)
      → all_fit t g (map fit vs) us b xs ≡ true → are_members (map (member_of t) vs) us ≡ true
  all_members [] e [] b [] h = refl
  all_members [] e [] b (x ∷ xs) h = absurd (cc)
  all_members [] e (u ∷ us) b xs h = absurd (cc)
  all_members (v ∷ vs) e [] b xs h = absurd (cc)
  all_members (v ∷ vs) e (u ∷ us) b [] h = absurd (cc)
  all_members (v ∷ vs) e (u ∷ us) b (x ∷ xs) h =
      let both = and_parts (fit v u b x) (all_fit t g (map fit vs) us b xs) h in
      and_from (member_of t v u) (are_members (map (member_of t) vs) us) (e.0 u b x both.0)
      (all_members vs e.1 us b xs both.1)

  rec_member : (vs : List Value) → Each IsMember vs → IsMember (value.Rec vs)
  rec_member vs e u b x h =
      member-rec t u vs ∙ by (out-Ty u) (fields_in (out-Term x)) (sym (fit_rec vs u b x) ∙ h)
    where
      found : (d : Option RecDecl) (o : Option (List Term)) → fields_fit t g (map fit vs) d b o ≡ true
          → has_fields d (map (member_of t) vs) ≡ true
      found (Some d) (Some xs) k = all_members vs e (field_types d) b xs k
      found (Some d) None k = absurd (cc)
      found None o k = absurd (cc)

      by : (z : Ty-F Ty) (o : Option (List Term)) → is_record t g (map fit vs) z b o ≡ true
          → is_record_of t z (map (member_of t) vs) ≡ true
      by (Ty-F.Rec r) o k = found (slice_get t.records r) o k
      by (Ty-F.Sort i) o k = absurd (cc)
      by (Ty-F.Int i) o k = absurd (cc)
      by (Ty-F.Enum i) o k = absurd (cc)
      by (Ty-F.Option w) o k = absurd (cc)

  none_member : IsMember value.None
  none_member u b x h = member-none t u ∙ by (out-Ty u) (sym (fit_none u b x) ∙ h)
    where
      by : (z : Ty-F Ty) → is_none t g z b (out-Term x) ≡ true → is_none_of z ≡ true
      by (Ty-F.Option w) k = refl
      by (Ty-F.Sort i) k = absurd (cc)
      by (Ty-F.Int i) k = absurd (cc)
      by (Ty-F.Enum i) k = absurd (cc)
      by (Ty-F.Rec r) k = absurd (cc)

  some_member : (v : Value) → IsMember v → IsMember (value.Some v)
  some_member v e u b x h = member-some t u v ∙ by (out-Ty u) (sym (fit_some v u b x) ∙ h)
    where
      payload : (w : Ty) (o : ℕ) (p : Option Term) → payload_fits t g (fit v) w o p ≡ true → member_of t v w ≡ true
      payload w o (Some y) k = e w o y k
      payload w o None k = absurd (cc)

      here : (w : Ty) (y : Term-F Term) → is_something t g (fit v) w b y ≡ true → member_of t v w ≡ true
      here w (Term-F.Some y) k = e w b y k
      here w (Term-F.Either o) k =
          payload w o.0 (slice_get g.payloads o.0) (and_parts (is_option t g b o.0 1) _ k).1
      here w (Term-F.Elem y) k = absurd (cc)
      here w (Term-F.Num y) k = absurd (cc)
      here w (Term-F.Tag y) k = absurd (cc)
      here w (Term-F.Rec y) k = absurd (cc)
      here w Term-F.None k = absurd (cc)

      by : (z : Ty-F Ty) → is_some t g (fit v) z b (out-Term x) ≡ true → is_some_of z (member_of t v) ≡ true
      by (Ty-F.Option w) k = here w (out-Term x) k
      by (Ty-F.Sort i) k = absurd (cc)
      by (Ty-F.Int i) k = absurd (cc)
      by (Ty-F.Enum i) k = absurd (cc)
      by (Ty-F.Rec r) k = absurd (cc)

  pub member : (v : Value) (u : Ty) (b : ℕ) (x : Term) → fit v u b x ≡ true → is_value_of t u v ≡ true
  member = value_ind IsMember elem_member int_member tag_member rec_member none_member some_member

  -- with more options
  abbrev Grows : Value → Type 0
  Grows v = (u : Ty) (b c : ℕ) (x : Term) → b ≤ c → fit v u b x ≡ true → fit v u c x ≡ true

  all_grow : (vs : List Value) → Each Grows vs → (us : List Ty) (b c : ℕ) (xs : List Term) → b ≤ c
      → all_fit t g (map fit vs) us b xs ≡ true → all_fit t g (map fit vs) us c xs ≡ true
  all_grow [] e [] b c [] le h = refl
  all_grow [] e [] b c (x ∷ xs) le h = absurd (cc)
  all_grow [] e (u ∷ us) b c xs le h = absurd (cc)
  all_grow (v ∷ vs) e [] b c xs le h = absurd (cc)
  all_grow (v ∷ vs) e (u ∷ us) b c [] le h = absurd (cc)
  all_grow (v ∷ vs) e (u ∷ us) b c (x ∷ xs) le h =
      let both = and_parts (fit v u b x) (all_fit t g (map fit vs) us b xs) h in
      and_from (fit v u c x) (all_fit t g (map fit vs) us c xs) (e.0 u b c x le both.0)
      (all_grow vs e.1 us b c xs le both.1)

  rec_grows : (vs : List Value) → Each Grows vs → Grows (value.Rec vs)
  rec_grows vs e u b c x le h =
      fit_rec vs u c x ∙ by (out-Ty u) (fields_in (out-Term x)) (sym (fit_rec vs u b x) ∙ h)
    where
      found : (d : Option RecDecl) (o : Option (List Term)) → fields_fit t g (map fit vs) d b o ≡ true
          → fields_fit t g (map fit vs) d c o ≡ true
      found (Some d) (Some xs) k = all_grow vs e (field_types d) b c xs le k
      found (Some d) None k = absurd (cc)
      found None o k = absurd (cc)

      by : (z : Ty-F Ty) (o : Option (List Term)) → is_record t g (map fit vs) z b o ≡ true
          → is_record t g (map fit vs) z c o ≡ true
      by (Ty-F.Rec r) o k = found (slice_get t.records r) o k
      by (Ty-F.Sort i) o k = absurd (cc)
      by (Ty-F.Int i) o k = absurd (cc)
      by (Ty-F.Enum i) o k = absurd (cc)
      by (Ty-F.Option w) o k = absurd (cc)

  pub option_grows : (b c o n : ℕ) → b ≤ c → is_option t g b o n ≡ true → is_option t g c o n ≡ true
  option_grows b c o n le h =
      let whole = and_parts (ltb o b && (g.valuation.present o == n)) _ h in
      let parts = and_parts (ltb o b) (g.valuation.present o == n) whole.0 in
      let lt : o < b = ltb-true o b parts.0 in
      and_from _ _ (and_from _ _ (lt-ltb o c (omega (arith, lt, le))) parts.1) whole.1

  none_grows : Grows value.None
  none_grows u b c x le h = fit_none u c x ∙ by (out-Ty u) (sym (fit_none u b x) ∙ h)
    where
      here : (y : Term-F Term) → is_nothing t g b y ≡ true → is_nothing t g c y ≡ true
      here Term-F.None k = refl
      here (Term-F.Either o) k = option_grows b c o.0 0 le k
      here (Term-F.Elem y) k = absurd (cc)
      here (Term-F.Num y) k = absurd (cc)
      here (Term-F.Tag y) k = absurd (cc)
      here (Term-F.Rec y) k = absurd (cc)
      here (Term-F.Some y) k = absurd (cc)

      by : (z : Ty-F Ty) → is_none t g z b (out-Term x) ≡ true → is_none t g z c (out-Term x) ≡ true
      by (Ty-F.Option w) k = here (out-Term x) k
      by (Ty-F.Sort i) k = absurd (cc)
      by (Ty-F.Int i) k = absurd (cc)
      by (Ty-F.Enum i) k = absurd (cc)
      by (Ty-F.Rec r) k = absurd (cc)

  some_grows : (v : Value) → Grows v → Grows (value.Some v)
  some_grows v e u b c x le h = fit_some v u c x ∙ by (out-Ty u) (sym (fit_some v u b x) ∙ h)
    where
      here : (w : Ty) (y : Term-F Term) → is_something t g (fit v) w b y ≡ true → is_something t g (fit v) w c y ≡ true
      here w (Term-F.Some y) k = e w b c y le k
      here w (Term-F.Either o) k =
          let both = and_parts (is_option t g b o.0 1) (payload_fits t g (fit v) w o.0 (slice_get g.payloads o.0)) k in
          and_from (is_option t g c o.0 1) _ (option_grows b c o.0 1 le both.0) both.1
      here w (Term-F.Elem y) k = absurd (cc)
      here w (Term-F.Num y) k = absurd (cc)
      here w (Term-F.Tag y) k = absurd (cc)
      here w (Term-F.Rec y) k = absurd (cc)
      here w Term-F.None k = absurd (cc)

      by : (z : Ty-F Ty) → is_some t g (fit v) z b (out-Term x) ≡ true
          → is_some t g (fit v) z c (out-Term x) ≡ true
      by (Ty-F.Option w) k = here w (out-Term x) k
      by (Ty-F.Sort i) k = absurd (cc)
      by (Ty-F.Int i) k = absurd (cc)
      by (Ty-F.Enum i) k = absurd (cc)
      by (Ty-F.Rec r) k = absurd (cc)

  pub grows : (v : Value) (u : Ty) (b c : ℕ) (x : Term) → b ≤ c → fit v u b x ≡ true → fit v u c x ≡ true
  grows =
      value_ind Grows (λ n u b c x le h. fit_elem n u c x ∙ sym (fit_elem n u b x) ∙ h)
      (λ n u b c x le h. fit_int n u c x ∙ sym (fit_int n u b x) ∙ h)
      (λ n u b c x le h. fit_tag n u c x ∙ sym (fit_tag n u b x) ∙ h) rec_grows none_grows some_grows

  -- each payload has the value of its term
  module _ (holds : (o : ℕ) (x : Term) → slice_get g.payloads o ≡ Some x
      → g.valuation.payload o ≡ value_of g.valuation x) where
    abbrev worth : Term → Value
    worth = value_of g.valuation

    worth_out : (x : Term) (y : Term-F Term) → out-Term x ≡ y → worth x ≡ value_step g.valuation (map-Term Term Value worth y)
    worth_out x y e =
        ap worth (sym (roll-out-Term x) ∙ ap roll-Term e)
        ∙ fold-roll-Term Value (value_step g.valuation) y

    abbrev HasWorth : Value → Type 0
    HasWorth v = (u : Ty) (b : ℕ) (x : Term) → fit v u b x ≡ true → v ≡ worth x

    elem_worth : (n : ℕ) → HasWorth (value.Elem n)
    elem_worth n u b x h = by (out-Term x) refl (sym (fit_elem n u b x) ∙ h)
      where
        by : (y : Term-F Term) → out-Term x ≡ y → is_element t g u n (elem_in y) ≡ true → value.Elem n ≡ worth x
        by (Term-F.Elem y) e k =
            ap value.Elem (sym (eqb-true (g.valuation.element y.0) n (and_parts _ _ k).0))
            ∙ sym (worth_out x (Term-F.Elem y) e)
        by (Term-F.Num y) e k = absurd (cc)
        by (Term-F.Tag y) e k = absurd (cc)
        by (Term-F.Rec y) e k = absurd (cc)
        by Term-F.None e k = absurd (cc)
        by (Term-F.Some y) e k = absurd (cc)
        by (Term-F.Either y) e k = absurd (cc)

    int_worth : (n : ℤ) → HasWorth (value.Int n)
    int_worth n u b x h = by (out-Term x) refl (sym (fit_int n u b x) ∙ h)
      where
        by : (y : Term-F Term) → out-Term x ≡ y → is_number t g u n (num_in y) ≡ true → value.Int n ≡ worth x
        by (Term-F.Num a) e k =
            ap value.Int (sym (decided (Decides-int_eq (num_under g.valuation.number a) n) (and_parts _ _ k).0))
            ∙ sym (worth_out x (Term-F.Num a) e)
        by (Term-F.Elem y) e k = absurd (cc)
        by (Term-F.Tag y) e k = absurd (cc)
        by (Term-F.Rec y) e k = absurd (cc)
        by Term-F.None e k = absurd (cc)
        by (Term-F.Some y) e k = absurd (cc)
        by (Term-F.Either y) e k = absurd (cc)

    tag_worth : (n : ℕ) → HasWorth (value.Tag n)
    tag_worth n u b x h = by (out-Term x) refl (sym (fit_tag n u b x) ∙ h)
      where
        by : (y : Term-F Term) → out-Term x ≡ y → is_choice t g u n (tag_in y) ≡ true → value.Tag n ≡ worth x
        by (Term-F.Tag a) e k =
            ap value.Tag (sym (eqb-true (tag_under g.valuation.tag a) n (and_parts _ _ k).0))
            ∙ sym (worth_out x (Term-F.Tag a) e)
        by (Term-F.Elem y) e k = absurd (cc)
        by (Term-F.Num y) e k = absurd (cc)
        by (Term-F.Rec y) e k = absurd (cc)
        by Term-F.None e k = absurd (cc)
        by (Term-F.Some y) e k = absurd (cc)
        by (Term-F.Either y) e k = absurd (cc)

    all_worth : (vs : List Value) → Each HasWorth vs → (us : List Ty) (b : ℕ) (xs : List Term)
        → all_fit t g (map fit vs) us b xs ≡ true → vs ≡ map worth xs
    all_worth [] e [] b [] h = refl
    all_worth [] e [] b (x ∷ xs) h = absurd (cc)
    all_worth [] e (u ∷ us) b xs h = absurd (cc)
    all_worth (v ∷ vs) e [] b xs h = absurd (cc)
    all_worth (v ∷ vs) e (u ∷ us) b [] h = absurd (cc)
    all_worth (v ∷ vs) e (u ∷ us) b (x ∷ xs) h =
        let both = and_parts (fit v u b x) (all_fit t g (map fit vs) us b xs) h in
        ap (λ w. w ∷ vs) (e.0 u b x both.0) ∙ ap (λ ws. worth x ∷ ws) (all_worth vs e.1 us b xs both.1)

    rec_worth : (vs : List Value) → Each HasWorth vs → HasWorth (value.Rec vs)
    rec_worth vs e u b x h = by (out-Term x) refl (out-Ty u) (sym (fit_rec vs u b x) ∙ h)
      where
        found : (d : Option RecDecl) (xs : List Term) → fields_fit t g (map fit vs) d b (Some xs) ≡ true
            → vs ≡ map worth xs
        found (Some d) xs k = all_worth vs e (field_types d) b xs k
        found None xs k = absurd (cc)

        typed : (z : Ty-F Ty) (xs : List Term) → is_record t g (map fit vs) z b (Some xs) ≡ true → vs ≡ map worth xs
        typed (Ty-F.Rec r) xs k = found (slice_get t.records r) xs k
        typed (Ty-F.Sort i) xs k = absurd (cc)
        typed (Ty-F.Int i) xs k = absurd (cc)
        typed (Ty-F.Enum i) xs k = absurd (cc)
        typed (Ty-F.Option w) xs k = absurd (cc)

        none : (z : Ty-F Ty) → is_record t g (map fit vs) z b None ≡ true → value.Rec vs ≡ worth x
        none (Ty-F.Rec r) k = missing (slice_get t.records r) k
          where
            missing : (d : Option RecDecl) → fields_fit t g (map fit vs) d b None ≡ true → value.Rec vs ≡ worth x
            missing (Some d) k = absurd (cc)
            missing None k = absurd (cc)
        none (Ty-F.Sort i) k = absurd (cc)
        none (Ty-F.Int i) k = absurd (cc)
        none (Ty-F.Enum i) k = absurd (cc)
        none (Ty-F.Option w) k = absurd (cc)

        by : (y : Term-F Term) → out-Term x ≡ y → (z : Ty-F Ty) → is_record t g (map fit vs) z b (fields_in y) ≡ true
            → value.Rec vs ≡ worth x
        by (Term-F.Rec xs) f z k = ap value.Rec (typed z xs k) ∙ sym (worth_out x (Term-F.Rec xs) f)
        by (Term-F.Elem y) f z k = none z k
        by (Term-F.Num y) f z k = none z k
        by (Term-F.Tag y) f z k = none z k
        by Term-F.None f z k = none z k
        by (Term-F.Some y) f z k = none z k
        by (Term-F.Either y) f z k = none z k

    chosen : (v : Value) (o n : ℕ) (b : Bool) → (n == 1) ≡ b → g.valuation.present o ≡ n → (x y : Value)
        → (if g.valuation.present o == 1 then x else y) ≡ (if b then x else y)
    chosen v o n b is same x y = ap (λ m. if m == 1 then x else y) same ∙ ap (λ c. if c then x else y) is

    none_worth : HasWorth value.None
    none_worth u b x h = by (out-Ty u) (sym (fit_none u b x) ∙ h)
      where
        here : (y : Term-F Term) → out-Term x ≡ y → is_nothing t g b y ≡ true → value.None ≡ worth x
        here Term-F.None e k = sym (worth_out x Term-F.None e)
        here (Term-F.Either o) e k =
            let parts = and_parts _ _ (and_parts (ltb o.0 b && (g.valuation.present o.0 == 0)) _ k).0 in
            sym (chosen value.None o.0 0 false refl (eqb-true (g.valuation.present o.0) 0 parts.1) _ _)
            ∙ sym (worth_out x (Term-F.Either o) e)
        here (Term-F.Elem y) e k = absurd (cc)
        here (Term-F.Num y) e k = absurd (cc)
        here (Term-F.Tag y) e k = absurd (cc)
        here (Term-F.Rec y) e k = absurd (cc)
        here (Term-F.Some y) e k = absurd (cc)

        by : (z : Ty-F Ty) → is_none t g z b (out-Term x) ≡ true → value.None ≡ worth x
        by (Ty-F.Option w) k = here (out-Term x) refl k
        by (Ty-F.Sort i) k = absurd (cc)
        by (Ty-F.Int i) k = absurd (cc)
        by (Ty-F.Enum i) k = absurd (cc)
        by (Ty-F.Rec r) k = absurd (cc)

    some_worth : (v : Value) → HasWorth v → HasWorth (value.Some v)
    some_worth v e u b x h = by (out-Ty u) (sym (fit_some v u b x) ∙ h)
      where
        payload : (w : Ty) (o : ℕ) (p : Option Term) → slice_get g.payloads o ≡ p → payload_fits t g (fit v) w o p ≡ true
            → v ≡ g.valuation.payload o
        payload w o (Some y) at k = e w o y k ∙ sym (holds o y at)
        payload w o None at k = absurd (cc)

        here : (w : Ty) (y : Term-F Term) → out-Term x ≡ y → is_something t g (fit v) w b y ≡ true
            → value.Some v ≡ worth x
        here w (Term-F.Some y) f k = ap value.Some (e w b y k) ∙ sym (worth_out x (Term-F.Some y) f)
        here w (Term-F.Either o) f k =
            let both = and_parts (is_option t g b o.0 1) _ k in
            let parts = and_parts _ _ (and_parts (ltb o.0 b && (g.valuation.present o.0 == 1)) _ both.0).0 in
            ap value.Some (payload w o.0 (slice_get g.payloads o.0) refl both.1)
            ∙ sym (chosen v o.0 1 true refl (eqb-true (g.valuation.present o.0) 1 parts.1) _ _)
            ∙ sym (worth_out x (Term-F.Either o) f)
        here w (Term-F.Elem y) f k = absurd (cc)
        here w (Term-F.Num y) f k = absurd (cc)
        here w (Term-F.Tag y) f k = absurd (cc)
        here w (Term-F.Rec y) f k = absurd (cc)
        here w Term-F.None f k = absurd (cc)

        by : (z : Ty-F Ty) → is_some t g (fit v) z b (out-Term x) ≡ true → value.Some v ≡ worth x
        by (Ty-F.Option w) k = here w (out-Term x) refl k
        by (Ty-F.Sort i) k = absurd (cc)
        by (Ty-F.Int i) k = absurd (cc)
        by (Ty-F.Enum i) k = absurd (cc)
        by (Ty-F.Rec r) k = absurd (cc)

    -- the value is the term's
    pub has_worth : (v : Value) (u : Ty) (b : ℕ) (x : Term) → fit v u b x ≡ true → v ≡ worth x
    has_worth = value_ind HasWorth elem_worth int_worth tag_worth rec_worth none_worth some_worth
