-- A comparison goes on with whether the two values are equal. It stops only where they are of no one type.
use Rattle.std.proofs.Common.{◌≡◌, ◌⊎◌, inl, inr, ℕ, ℤ, ◌==◌, ltb, int_lt, Bool, true, false, ◌&&◌, List, [], ◌∷◌, map}
use Rattle.std.proofs.Common.{Option, Some, None, slice_get, IsTrue, refl, sym, ap, ◌∙◌, subst, if◌then◌else◌, arith}
use Rattle.std.specs.Ordering.{int_eq}
use Rattle.std.proofs.lemmas.Bool.{and_parts}
use Rattle.std.proofs.lemmas.Bool.{lt-ltb}
use Rattle.std.proofs.lemmas.Bool.Decides.{Decides-int_eq}
use Rattle.std.proofs.lemmas.Int.{ints}
use Rattle.cm_model.specs.Limits.{variant_limit}
use Rattle.cm_model.specs.Tables.{Tables}
use Rattle.cm_model.specs.WellTyped.{IsWellTyped}
use Rattle.cm_model.specs.declared.ty.Ty.{Ty, out-Ty}
use Rattle.cm_model.specs.declared.ty.Ty.TheOpen.{Ty-F}
use Rattle.cm_model.specs.declared.ty.RecDecl.{RecDecl}
use Rattle.cm_value.specs.declared.value.Value.{Value, out-Value}
use Rattle.cm_value.specs.declared.value.Value.TheVariants as value
use Rattle.cm_value.specs.declared.value.Value.TheViews.{roll-out-Value}
use Rattle.cm_value.specs.declared.value.Value.TheOpen.{Value-F}
use Rattle.cm_value.specs.declared.value.Value.TheViews.{roll-Value}
use Rattle.cm_value.specs.Membership.{IsValueOf, is_value_of, are_values_of, member_of, is_sort, is_number_of}
use Rattle.cm_value.specs.Membership.{is_variant_of, is_record_of, is_none_of, is_some_of, has_fields, field_types}
use Rattle.cm_value.proofs.Folds.{fold-elem, fold-int, fold-tag, fold-rec, fold-none, fold-some}
use Rattle.cm_value.proofs.Members.{member-elem, member-int, member-tag, member-rec, member-none, member-some}
use Rattle.cm_value.proofs.Limited.{value_is_limited, limited_tag}
use Rattle.cm_value.proofs.Induction.{Each, value_ind}
use Rattle.cm_eval.specs.Comparison.{Comparing, comparison, comparison_step, fields_compared, payload_compared, or_stop}
use Rattle.cm_eval.specs.Comparison.{elem_in, int_in, tag_in, parts_in, option_in, variant, distinguished, ordered}
use Rattle.cm_eval.specs.Comparison.{presence}
use Rattle.cm_eval.proofs.Examples.{out_elem, out_int, out_tag, out_rec, out_none, out_some}
use Rattle.cm_eval.specs.State.{same_value, same_form, all_same}

-- the form of a value, and of the values of a type
abbrev form_of : Value-F Value → ℕ
form_of (Value-F.Elem n) = 0
form_of (Value-F.Int n) = 1
form_of (Value-F.Tag n) = 2
form_of (Value-F.Rec vs) = 3
form_of Value-F.None = 4
form_of (Value-F.Some v) = 4

abbrev form_in : Ty-F Ty → ℕ
form_in (Ty-F.Sort s) = 0
form_in (Ty-F.Int i) = 1
form_in (Ty-F.Enum e) = 2
form_in (Ty-F.Rec r) = 3
form_in (Ty-F.Option u) = 4

distinguished_same : (m n : ℕ) → (distinguished m n == 0) ≡ (m == n)
distinguished_same m n = by (m == n)
  where
    by : (b : Bool) → ((if b then 0 else 1) == 0) ≡ b
    by true = refl
    by false = refl

ordered_same : (m n : ℤ) → (ordered m n == 1) ≡ int_eq m n
ordered_same m n = by (int_lt m n) (int_lt n m) refl refl
  where
    by : (a b : Bool) → int_lt m n ≡ a → int_lt n m ≡ b → ((if a then 0 else if b then 2 else 1) == 1) ≡ int_eq m n
    by true b e f = grind (arith, ints, Decides-int_eq m n)
    by false true e f = grind (arith, ints, Decides-int_eq m n)
    by false false e f = grind (arith, ints, Decides-int_eq m n)

small : (n : ℕ) → IsTrue (ltb n variant_limit) → variant n ≡ Some n
small n lt = by (ltb n variant_limit) lt
  where
    by : (b : Bool) → b ≡ true → (if b then Some n else None) ≡ Some n
    by true e = refl
    by false e = absurd (cc)

abbrev Form : Value-F Value → Ty-F Ty → Type 0
Form y x = form_of y ≡ form_in x

whole : (v : Value) (y : Value-F Value) → out-Value v ≡ y → v ≡ roll-Value y
whole v y is = sym (roll-out-Value v) ∙ ap roll-Value is

-- how values that are compared fit: either they are of one type, or it is all right to stop
record Fitting (Ends : Type 0) : Type 1 where
  Fit : Value → Value → Type 0
  FitAll : List Value → List Value → Type 0
  apart : (v w : Value) → Fit v w → (form_of (out-Value v) ≡ form_of (out-Value w) → ⊥) → Ends
  left : (n : ℕ) (w : Value) → Fit (value.Tag n) w → Ends ⊎ IsTrue (ltb n variant_limit)
  right : (v : Value) (n : ℕ) → Fit v (value.Tag n) → Ends ⊎ IsTrue (ltb n variant_limit)
  heads : (v w : Value) (vs ws : List Value) → FitAll (v ∷ vs) (w ∷ ws) → Fit v w × FitAll vs ws
  longer : (v : Value) (vs : List Value) → FitAll (v ∷ vs) [] → Ends
  shorter : (w : Value) (ws : List Value) → FitAll [] (w ∷ ws) → Ends
  fields : (vs ws : List Value) → Fit (value.Rec vs) (value.Rec ws) → FitAll vs ws
  payload : (v w : Value) → Fit (value.Some v) (value.Some w) → Fit v w

module _ (X : Type 0) (stop : X) (decide : ℕ → (ℕ → X) → X) (P : X → Type 0)
    (decides : (d : ℕ) (k : ℕ → X) → P (k d) → P (decide d k)) (f : Fitting (P stop)) where
  abbrev Goes : Value → Type 0
  Goes v = (w : Value) (k : Bool → X) → f.Fit v w → P (k (same_value v w)) → P (comparison X stop decide v w k)

  abbrev step : Value-F (Comparing X) → Comparing X
  step = comparison_step X stop decide

  abbrev same_step : Value-F (Value → Bool) → Value → Bool
  same_step x v = same_form x (out-Value v)

  -- values of two forms
  apart : (v w : Value) → f.Fit v w → (x y : Value-F Value) → out-Value v ≡ x → out-Value w ≡ y
      → (form_of x ≡ form_of y → ⊥) → P stop
  apart v w fit x y a b ne = f.apart v w fit (λ e. ne (sym (ap form_of a) ∙ e ∙ ap form_of b))

  elem_goes : (n : ℕ) → Goes (value.Elem n)
  elem_goes n w k fit h =
      subst P (sym (ap (λ (m : Comparing X). m w k) (fold-elem step n)))
      (by (out-Value w) refl (subst (λ (f : Value → Bool). P (k (f w))) (fold-elem same_step n) h))
    where
      by : (y : Value-F Value) → out-Value w ≡ y → P (k (same_form (Value-F.Elem n) y))
          → P (or_stop stop (elem_in y) (λ m. decide (distinguished n m) (λ d. k (d == 0))))
      by (Value-F.Elem m) is h = decides _ _ (subst (λ b. P (k b)) (sym (distinguished_same n m)) h)
      by (Value-F.Int m) is h = apart (value.Elem n) w fit (Value-F.Elem n) _ (out_elem n) is (λ e. cc)
      by (Value-F.Tag m) is h = apart (value.Elem n) w fit (Value-F.Elem n) _ (out_elem n) is (λ e. cc)
      by (Value-F.Rec vs) is h = apart (value.Elem n) w fit (Value-F.Elem n) _ (out_elem n) is (λ e. cc)
      by Value-F.None is h = apart (value.Elem n) w fit (Value-F.Elem n) _ (out_elem n) is (λ e. cc)
      by (Value-F.Some v) is h = apart (value.Elem n) w fit (Value-F.Elem n) _ (out_elem n) is (λ e. cc)

  int_goes : (n : ℤ) → Goes (value.Int n)
  int_goes n w k fit h =
      subst P (sym (ap (λ (m : Comparing X). m w k) (fold-int step n)))
      (by (out-Value w) refl (subst (λ (f : Value → Bool). P (k (f w))) (fold-int same_step n) h))
    where
      by : (y : Value-F Value) → out-Value w ≡ y → P (k (same_form (Value-F.Int n) y))
          → P (or_stop stop (int_in y) (λ m. decide (ordered n m) (λ d. k (d == 1))))
      by (Value-F.Int m) is h = decides _ _ (subst (λ b. P (k b)) (sym (ordered_same n m)) h)
      by (Value-F.Elem m) is h = apart (value.Int n) w fit (Value-F.Int n) _ (out_int n) is (λ e. cc)
      by (Value-F.Tag m) is h = apart (value.Int n) w fit (Value-F.Int n) _ (out_int n) is (λ e. cc)
      by (Value-F.Rec vs) is h = apart (value.Int n) w fit (Value-F.Int n) _ (out_int n) is (λ e. cc)
      by Value-F.None is h = apart (value.Int n) w fit (Value-F.Int n) _ (out_int n) is (λ e. cc)
      by (Value-F.Some v) is h = apart (value.Int n) w fit (Value-F.Int n) _ (out_int n) is (λ e. cc)

  -- a variant, or it is all right to stop
  few : (n : ℕ) → (P stop ⊎ IsTrue (ltb n variant_limit)) → (more : ℕ → X) → P (more n)
      → P (or_stop stop (variant n) more)
  few n (inl h) more p = by (ltb n variant_limit)
    where
      by : (b : Bool) → P (or_stop stop (if b then Some n else None) more)
      by true = p
      by false = h
  few n (inr h) more p = subst (λ o. P (or_stop stop o more)) (sym (small n h)) p

  tag_goes : (n : ℕ) → Goes (value.Tag n)
  tag_goes n w k fit h =
      subst P (sym (ap (λ (m : Comparing X). m w k) (fold-tag step n)))
      (few n (f.left n w fit) _ (by (out-Value w) refl (subst (λ (f : Value → Bool). P (k (f w))) (fold-tag same_step n)
      h)))
    where
      by : (y : Value-F Value) → out-Value w ≡ y → P (k (same_form (Value-F.Tag n) y))
          → P (or_stop stop (tag_in y) (λ r. decide n (λ d. decide r (λ e. k (d == e)))))
      by (Value-F.Tag m) is h =
          few m (f.right (value.Tag n) m (subst (f.Fit (value.Tag n)) (whole w (Value-F.Tag m) is ∙ value.rolls-Tag m)
          fit)) _
          (decides _ _ (decides _ _ h))
      by (Value-F.Elem m) is h = apart (value.Tag n) w fit (Value-F.Tag n) _ (out_tag n) is (λ e. cc)
      by (Value-F.Int m) is h = apart (value.Tag n) w fit (Value-F.Tag n) _ (out_tag n) is (λ e. cc)
      by (Value-F.Rec vs) is h = apart (value.Tag n) w fit (Value-F.Tag n) _ (out_tag n) is (λ e. cc)
      by Value-F.None is h = apart (value.Tag n) w fit (Value-F.Tag n) _ (out_tag n) is (λ e. cc)
      by (Value-F.Some v) is h = apart (value.Tag n) w fit (Value-F.Tag n) _ (out_tag n) is (λ e. cc)

  abbrev meaning : Value → Comparing X
  meaning = comparison X stop decide

  fields_go : (vs : List Value) → Each Goes vs → (ws : List Value) (k : Bool → X) → f.FitAll vs ws
      → P (k (all_same (map same_value vs) ws)) → P (fields_compared X stop (map meaning vs) ws k)
  fields_go [] each [] k fit h = h
  fields_go [] each (w ∷ ws) k fit h = f.shorter w ws fit
  fields_go (v ∷ vs) each [] k fit h = f.longer v vs fit
  fields_go (v ∷ vs) each (w ∷ ws) k fit h =
      let both = f.heads v w vs ws fit in
      each.0 w (λ s. if s then fields_compared X stop (map meaning vs) ws k else k false) both.0
      (by (fields_go vs each.1 ws k both.1) (same_value v w) h)
    where
      by : (P (k (all_same (map same_value vs) ws)) → P (fields_compared X stop (map meaning vs) ws k))
          → (b : Bool) → P (k (b && all_same (map same_value vs) ws))
          → P (if b then fields_compared X stop (map meaning vs) ws k else k false)
      by more true h = more h
      by more false h = h

  rec_goes : (vs : List Value) → Each Goes vs → Goes (value.Rec vs)
  rec_goes vs each w k fit h =
      subst P (sym (ap (λ (m : Comparing X). m w k) (fold-rec step vs)))
      (by (out-Value w) refl (subst (λ (f : Value → Bool). P (k (f w))) (fold-rec same_step vs) h))
    where
      by : (y : Value-F Value) → out-Value w ≡ y → P (k (same_form (Value-F.Rec (map same_value vs)) y))
          → P (or_stop stop (parts_in y) (λ ws. fields_compared X stop (map meaning vs) ws k))
      by (Value-F.Rec ws) is h =
          fields_go vs each ws k (f.fields vs ws (subst (f.Fit (value.Rec vs)) (whole w (Value-F.Rec ws) is
          ∙ value.rolls-Rec ws) fit)) h
      by (Value-F.Elem m) is h = apart (value.Rec vs) w fit (Value-F.Rec vs) _ (out_rec vs) is (λ e. cc)
      by (Value-F.Int m) is h = apart (value.Rec vs) w fit (Value-F.Rec vs) _ (out_rec vs) is (λ e. cc)
      by (Value-F.Tag m) is h = apart (value.Rec vs) w fit (Value-F.Rec vs) _ (out_rec vs) is (λ e. cc)
      by Value-F.None is h = apart (value.Rec vs) w fit (Value-F.Rec vs) _ (out_rec vs) is (λ e. cc)
      by (Value-F.Some v) is h = apart (value.Rec vs) w fit (Value-F.Rec vs) _ (out_rec vs) is (λ e. cc)

  none_goes : Goes value.None
  none_goes w k fit h =
      subst P (sym (ap (λ (m : Comparing X). m w k) (fold-none step)))
      (by (out-Value w) refl (subst (λ (f : Value → Bool). P (k (f w))) (fold-none same_step) h))
    where
      by : (y : Value-F Value) → out-Value w ≡ y → P (k (same_form Value-F.None y))
          → P (or_stop stop (option_in y) (λ o. decide 0 (λ d. decide (presence o) (λ e. k (d == e)))))
      by Value-F.None is h = decides _ _ (decides _ _ h)
      by (Value-F.Some v) is h = decides _ _ (decides _ _ h)
      by (Value-F.Elem m) is h = apart value.None w fit Value-F.None _ out_none is (λ e. cc)
      by (Value-F.Int m) is h = apart value.None w fit Value-F.None _ out_none is (λ e. cc)
      by (Value-F.Tag m) is h = apart value.None w fit Value-F.None _ out_none is (λ e. cc)
      by (Value-F.Rec vs) is h = apart value.None w fit Value-F.None _ out_none is (λ e. cc)

  some_goes : (v : Value) → Goes v → Goes (value.Some v)
  some_goes v goes w k fit h =
      subst P (sym (ap (λ (m : Comparing X). m w k) (fold-some step v)))
      (by (out-Value w) refl (subst (λ (f : Value → Bool). P (k (f w))) (fold-some same_step v) h))
    where
      by : (y : Value-F Value) → out-Value w ≡ y → P (k (same_form (Value-F.Some (same_value v)) y))
          → P (or_stop stop (option_in y)
          (λ o. decide 1 (λ d. decide (presence o) (λ e. payload_compared X (meaning v) o k))))
      by Value-F.None is h = decides _ _ (decides _ _ h)
      by (Value-F.Some x) is h =
          decides _ _ (decides _ _ (goes x k (f.payload v x (subst (f.Fit (value.Some v)) (whole w (Value-F.Some x) is
          ∙ value.rolls-Some x) fit)) h))
      by (Value-F.Elem m) is h = apart (value.Some v) w fit (Value-F.Some v) _ (out_some v) is (λ e. cc)
      by (Value-F.Int m) is h = apart (value.Some v) w fit (Value-F.Some v) _ (out_some v) is (λ e. cc)
      by (Value-F.Tag m) is h = apart (value.Some v) w fit (Value-F.Some v) _ (out_some v) is (λ e. cc)
      by (Value-F.Rec vs) is h = apart (value.Some v) w fit (Value-F.Some v) _ (out_some v) is (λ e. cc)

  goes : (v : Value) → Goes v
  goes = value_ind Goes elem_goes int_goes tag_goes rec_goes none_goes some_goes

-- any values, where it is all right to stop
abbrev any_fit : {Ends : Type 0} → Ends → Fitting Ends
any_fit h = record {
  Fit = λ v w. Unit {0};
  FitAll = λ vs ws. Unit {0};
  apart = λ v w fit ne. h;
  left = λ n w fit. inl h;
  right = λ v n fit. inl h;
  heads = λ v w vs ws fit. (tt, tt);
  longer = λ v vs fit. h;
  shorter = λ w ws fit. h;
  fields = λ vs ws fit. tt;
  payload = λ v w fit. tt;
}

-- a comparison of any two values stops, or goes on with whether they are equal
pub comparison_goes : (X : Type 0) (stop : X) (decide : ℕ → (ℕ → X) → X) (P : X → Type 0)
    → ((d : ℕ) (k : ℕ → X) → P (k d) → P (decide d k))
    → P stop → (v w : Value) (k : Bool → X) → P (k (same_value v w)) → P (comparison X stop decide v w k)
comparison_goes X stop decide P decides h v w k = goes X stop decide P decides (any_fit h) v w k tt

module _ (t : Tables) where
  sort_form : (n : ℕ) (x : Ty-F Ty) → is_sort t x ≡ true → Form (Value-F.Elem n) x
  sort_form n (Ty-F.Sort s) h = refl
  sort_form n (Ty-F.Int i) h = absurd (cc)
  sort_form n (Ty-F.Enum e) h = absurd (cc)
  sort_form n (Ty-F.Rec r) h = absurd (cc)
  sort_form n (Ty-F.Option u) h = absurd (cc)

  int_form : (n : ℤ) (x : Ty-F Ty) → is_number_of t x n ≡ true → Form (Value-F.Int n) x
  int_form n (Ty-F.Int i) h = refl
  int_form n (Ty-F.Sort s) h = absurd (cc)
  int_form n (Ty-F.Enum e) h = absurd (cc)
  int_form n (Ty-F.Rec r) h = absurd (cc)
  int_form n (Ty-F.Option u) h = absurd (cc)

  enum_form : (n : ℕ) (x : Ty-F Ty) → is_variant_of t x n ≡ true → Form (Value-F.Tag n) x
  enum_form n (Ty-F.Enum e) h = refl
  enum_form n (Ty-F.Sort s) h = absurd (cc)
  enum_form n (Ty-F.Int i) h = absurd (cc)
  enum_form n (Ty-F.Rec r) h = absurd (cc)
  enum_form n (Ty-F.Option u) h = absurd (cc)

  rec_form : (vs : List Value) (x : Ty-F Ty) → is_record_of t x (map (member_of t) vs) ≡ true → Form (Value-F.Rec vs) x
  rec_form vs (Ty-F.Rec r) h = refl
  rec_form vs (Ty-F.Sort s) h = absurd (cc)
  rec_form vs (Ty-F.Int i) h = absurd (cc)
  rec_form vs (Ty-F.Enum e) h = absurd (cc)
  rec_form vs (Ty-F.Option u) h = absurd (cc)

  none_form : (x : Ty-F Ty) → is_none_of x ≡ true → Form Value-F.None x
  none_form (Ty-F.Option u) h = refl
  none_form (Ty-F.Sort s) h = absurd (cc)
  none_form (Ty-F.Int i) h = absurd (cc)
  none_form (Ty-F.Enum e) h = absurd (cc)
  none_form (Ty-F.Rec r) h = absurd (cc)

  some_form : (v : Value) (x : Ty-F Ty) → is_some_of x (member_of t v) ≡ true → Form (Value-F.Some v) x
  some_form v (Ty-F.Option u) h = refl
  some_form v (Ty-F.Sort s) h = absurd (cc)
  some_form v (Ty-F.Int i) h = absurd (cc)
  some_form v (Ty-F.Enum e) h = absurd (cc)
  some_form v (Ty-F.Rec r) h = absurd (cc)

  -- the values of a type have one form
  one_form : (u : Ty) (v : Value) → IsValueOf t u v → Form (out-Value v) (out-Ty u)
  one_form u v is = subst (λ w. IsValueOf t u w → Form (out-Value v) (out-Ty u)) (roll-out-Value v) (by (out-Value v))
      is
    where
      by : (y : Value-F Value) → IsValueOf t u (roll-Value y) → Form y (out-Ty u)
      by (Value-F.Elem n) is = sort_form n (out-Ty u) (sym (ap (is_value_of t u) (value.rolls-Elem n)
          ∙ member-elem t u n) ∙ is)
      by (Value-F.Int n) is = int_form n (out-Ty u) (sym (ap (is_value_of t u) (value.rolls-Int n) ∙ member-int t u n)
          ∙ is)
      by (Value-F.Tag n) is = enum_form n (out-Ty u) (sym (ap (is_value_of t u) (value.rolls-Tag n) ∙ member-tag t u n)
          ∙ is)
      by (Value-F.Rec vs) is = rec_form vs (out-Ty u) (sym (ap (is_value_of t u) (value.rolls-Rec vs)
          ∙ member-rec t u vs) ∙ is)
      by Value-F.None is = none_form (out-Ty u) (sym (ap (is_value_of t u) value.rolls-None ∙ member-none t u) ∙ is)
      by (Value-F.Some v) is = some_form v (out-Ty u) (sym (ap (is_value_of t u) (value.rolls-Some v)
          ∙ member-some t u v) ∙ is)

  abbrev pub SameType : Value → Value → Type 0
  SameType v w = (u : Ty) × IsValueOf t u v × IsValueOf t u w

  forms_agree : (v w : Value) → SameType v w → form_of (out-Value v) ≡ form_of (out-Value w)
  forms_agree v w h = one_form h.0 v h.1 ∙ sym (one_form h.0 w h.2)

  -- the types of two lists of values, one for one
  abbrev pub SameTypes : List Value → List Value → Type 0
  SameTypes vs ws = (us : List Ty) × IsTrue (are_values_of t us vs) × IsTrue (are_values_of t us ws)

  record_types : (vs ws : List Value) → SameType (value.Rec vs) (value.Rec ws) → SameTypes vs ws
  record_types vs ws h = by (out-Ty h.0) (sym (member-rec t h.0 vs) ∙ h.1) (sym (member-rec t h.0 ws) ∙ h.2)
    where
      found : (o : Option RecDecl) → has_fields o (map (member_of t) vs) ≡ true
          → has_fields o (map (member_of t) ws) ≡ true → SameTypes vs ws
      found (Some d) a b = (field_types d, a, b)
      found None a b = absurd (cc)

      by : (x : Ty-F Ty) → is_record_of t x (map (member_of t) vs) ≡ true
          → is_record_of t x (map (member_of t) ws) ≡ true → SameTypes vs ws
      by (Ty-F.Rec r) a b = found (slice_get t.records r) a b
      by (Ty-F.Sort s) a b = absurd (cc)
      by (Ty-F.Int i) a b = absurd (cc)
      by (Ty-F.Enum e) a b = absurd (cc)
      by (Ty-F.Option u) a b = absurd (cc)

  payload_types : (v w : Value) → SameType (value.Some v) (value.Some w) → SameType v w
  payload_types v w h = by (out-Ty h.0) (sym (member-some t h.0 v) ∙ h.1) (sym (member-some t h.0 w) ∙ h.2)
    where
      by : (x : Ty-F Ty) → is_some_of x (member_of t v) ≡ true → is_some_of x (member_of t w) ≡ true → SameType v w
      by (Ty-F.Option u) a b = (u, a, b)
      by (Ty-F.Sort s) a b = absurd (cc)
      by (Ty-F.Int i) a b = absurd (cc)
      by (Ty-F.Enum e) a b = absurd (cc)
      by (Ty-F.Rec r) a b = absurd (cc)

  variant_few : IsWellTyped t → (u : Ty) (n : ℕ) → IsValueOf t u (value.Tag n) → IsTrue (ltb n variant_limit)
  variant_few typed u n is = lt-ltb n variant_limit (limited_tag n (value_is_limited t typed (value.Tag n) u is))

  both_heads : (v w : Value) (vs ws : List Value) → SameTypes (v ∷ vs) (w ∷ ws) → SameType v w × SameTypes vs ws
  both_heads v w vs ws h = by h.0 h.1 h.2
    where
      by : (us : List Ty) → are_values_of t us (v ∷ vs) ≡ true → are_values_of t us (w ∷ ws) ≡ true
          → SameType v w × SameTypes vs ws
      by [] a b = absurd (cc)
      by (u ∷ us) a b =
          let c = and_parts (is_value_of t u v) (are_values_of t us vs) a in
          let d = and_parts (is_value_of t u w) (are_values_of t us ws) b in
          ((u, c.0, d.0), (us, c.1, d.1))

  one_longer : (v : Value) (vs : List Value) → SameTypes (v ∷ vs) [] → ⊥
  one_longer v vs h = by h.0 h.1 h.2
    where
      by : (us : List Ty) → are_values_of t us (v ∷ vs) ≡ true → are_values_of t us [] ≡ true → ⊥
      by [] a b = cc
      by (u ∷ us) a b = cc

  one_shorter : (w : Value) (ws : List Value) → SameTypes [] (w ∷ ws) → ⊥
  one_shorter w ws h = one_longer w ws (h.0, h.2, h.1)

  abbrev types_fit : {Ends : Type 0} → IsWellTyped t → Fitting Ends
  types_fit typed = record {
    Fit = SameType;
    FitAll = SameTypes;
    apart = λ v w fit ne. absurd (ne (forms_agree v w fit));
    left = λ n w fit. inr (variant_few typed fit.0 n fit.1);
    right = λ v n fit. inr (variant_few typed fit.0 n fit.2);
    heads = both_heads;
    longer = λ v vs fit. absurd (one_longer v vs fit);
    shorter = λ w ws fit. absurd (one_shorter w ws fit);
    fields = record_types;
    payload = payload_types;
  }

  -- a comparison of two values of one type goes on with whether they are equal
  pub typed_goes : IsWellTyped t → (X : Type 0) (stop : X) (decide : ℕ → (ℕ → X) → X) (P : X → Type 0)
      → ((d : ℕ) (k : ℕ → X) → P (k d) → P (decide d k)) → (u : Ty) (v w : Value) (k : Bool → X) → IsValueOf t u v
      → IsValueOf t u w
      → P (k (same_value v w)) → P (comparison X stop decide v w k)
  typed_goes typed X stop decide P decides u v w k a b = goes X stop decide P decides (types_fit typed) v w k (u, a, b)
