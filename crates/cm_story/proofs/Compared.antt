-- Comparisons and inspections with two readers go side by side: where the readers keep a relation at a stop and at a
-- decision, a comparison keeps it.
use Rattle.std.proofs.Common.{◌≡◌, ℕ, ℤ, ◌==◌, ltb, int_lt, Bool, true, false, ◌&&◌, List, [], ◌∷◌, map}
use Rattle.std.proofs.Common.{Option, Some, None, refl, sym, subst, if◌then◌else◌, arith}
use Rattle.std.specs.Ordering.{int_eq}
use Rattle.std.proofs.lemmas.Bool.{eq-eqb}
use Rattle.std.proofs.lemmas.Bool.Decides.{Decides-int_eq}
use Rattle.std.proofs.lemmas.Int.{ints}
use Rattle.cm_model.specs.Limits.{variant_limit}
use Rattle.cm_value.specs.declared.value.Value.{Value, out-Value}
use Rattle.cm_value.specs.declared.value.Value.TheVariants as value
use Rattle.cm_value.specs.declared.value.Value.TheOpen.{Value-F}
use Rattle.cm_value.proofs.Folds.{fold-elem, fold-int, fold-tag, fold-rec, fold-none, fold-some}
use Rattle.cm_value.proofs.Induction.{Each, value_ind}
use Rattle.cm_eval.specs.Comparison.{Comparing, comparison, comparison_step, fields_compared, payload_compared, or_stop}
use Rattle.cm_eval.specs.Comparison.{elem_in, int_in, tag_in, tag_of, parts_in, parts_of, option_in, option_of, variant}
use Rattle.cm_eval.specs.Comparison.{distinguished, ordered, presence}
use Rattle.cm_eval.specs.State.{same_value, same_form, all_same}
use Rattle.cm_eval.proofs.Examples.{out_tag, out_rec, out_none, out_some}
use Rattle.cm_world.specs.Path.{Inspecting, inspecting, inspecting_step, both_inspected, variants_inspected}
use Rattle.cm_world.specs.Path.{fields_inspected, record_inspected, none_inspected, some_inspected, payload_inspected}

distinguished_same : (m n : ℕ) → (distinguished m n == 0) ≡ (m == n)
distinguished_same m n = by (m == n)
  where
    by : (b : Bool) → ((if b then 0 else 1) == 0) ≡ b
    by true = refl
    by false = refl

ordered_same : (m n : ℤ) → (ordered m n == 1) ≡ int_eq m n
ordered_same m n = by (int_lt m n) (int_lt n m) refl refl
  where
    by : (a b : Bool) → int_lt m n ≡ a → int_lt n m ≡ b → ((if a then 0 else if b then 2 else 1) == 1) ≡ int_eq m n
    by true b e f = grind (arith, ints, Decides-int_eq m n)
    by false true e f = grind (arith, ints, Decides-int_eq m n)
    by false false e f = grind (arith, ints, Decides-int_eq m n)

abbrev same_step : Value-F (Value → Bool) → Value → Bool
same_step x v = same_form x (out-Value v)

module _ (X Y : Type 0) (stop : X) (halt : Y) (decide : ℕ → (ℕ → X) → X) (choose : ℕ → (ℕ → Y) → Y)
    (R : X → Y → Type 0) (stops : R stop halt)
    (decides : (d : ℕ) (k : ℕ → X) (l : ℕ → Y) → R (k d) (l d) → R (decide d k) (choose d l)) where
  abbrev left : Value → Comparing X
  left = comparison X stop decide

  abbrev right : Value → Comparing Y
  right = comparison Y halt choose

  abbrev left_step : Value-F (Comparing X) → Comparing X
  left_step = comparison_step X stop decide

  abbrev right_step : Value-F (Comparing Y) → Comparing Y
  right_step = comparison_step Y halt choose

  abbrev Beside : Value → Type 0
  Beside v = (w : Value) (k : Bool → X) (l : Bool → Y) → R (k (same_value v w)) (l (same_value v w))
      → R (left v w k) (right v w l)

  -- one layer of the three folds
  at_layer : (v w : Value) (x : Value-F (Comparing X)) (y : Value-F (Comparing Y)) (z : Value-F (Value → Bool))
      → left v ≡ left_step x → right v ≡ right_step y → same_value v ≡ same_step z
      → (k : Bool → X) (l : Bool → Y)
      → (R (k (same_step z w)) (l (same_step z w)) → R (left_step x w k) (right_step y w l))
      → R (k (same_value v w)) (l (same_value v w)) → R (left v w k) (right v w l)
  at_layer v w x y z is_left is_right is_same k l g h =
      subst (λ (m : Comparing X). R (m w k) (right v w l)) (sym is_left)
      (subst (λ (m : Comparing Y). R (left_step x w k) (m w l)) (sym is_right)
      (g (subst (λ (m : Value → Bool). R (k (m w)) (l (m w))) is_same h)))

  elem_goes : (n : ℕ) → Beside (value.Elem n)
  elem_goes n w k l =
      at_layer (value.Elem n) w (Value-F.Elem n) (Value-F.Elem n) (Value-F.Elem n)
      (fold-elem left_step n) (fold-elem right_step n) (fold-elem same_step n) k l (by (out-Value w))
    where
      by : (y : Value-F Value) → R (k (same_form (Value-F.Elem n) y)) (l (same_form (Value-F.Elem n) y))
          → R (or_stop stop (elem_in y) (λ m. decide (distinguished n m) (λ d. k (d == 0))))
          (or_stop halt (elem_in y) (λ m. choose (distinguished n m) (λ d. l (d == 0))))
      by (Value-F.Elem m) h = decides _ _ _ (subst (λ b. R (k b) (l b)) (sym (distinguished_same n m)) h)
      by (Value-F.Int m) h = stops
      by (Value-F.Tag m) h = stops
      by (Value-F.Rec vs) h = stops
      by Value-F.None h = stops
      by (Value-F.Some v) h = stops

  int_goes : (n : ℤ) → Beside (value.Int n)
  int_goes n w k l =
      at_layer (value.Int n) w (Value-F.Int n) (Value-F.Int n) (Value-F.Int n)
      (fold-int left_step n) (fold-int right_step n) (fold-int same_step n) k l (by (out-Value w))
    where
      by : (y : Value-F Value) → R (k (same_form (Value-F.Int n) y)) (l (same_form (Value-F.Int n) y))
          → R (or_stop stop (int_in y) (λ m. decide (ordered n m) (λ d. k (d == 1))))
          (or_stop halt (int_in y) (λ m. choose (ordered n m) (λ d. l (d == 1))))
      by (Value-F.Int m) h = decides _ _ _ (subst (λ b. R (k b) (l b)) (sym (ordered_same n m)) h)
      by (Value-F.Elem m) h = stops
      by (Value-F.Tag m) h = stops
      by (Value-F.Rec vs) h = stops
      by Value-F.None h = stops
      by (Value-F.Some v) h = stops

  -- a variant, or both stop
  few : (o : Option ℕ) (f : ℕ → X) (g : ℕ → Y) → ((n : ℕ) → o ≡ Some n → R (f n) (g n))
      → R (or_stop stop o f) (or_stop halt o g)
  few (Some n) f g h = h n refl
  few None f g h = stops

  variant_is : (m n : ℕ) → variant m ≡ Some n → m ≡ n
  variant_is m n = by (ltb m variant_limit)
    where
      by : (b : Bool) → (if b then Some m else None) ≡ Some n → m ≡ n
      by true e = cc
      by false e = absurd (cc)

  tag_goes : (n : ℕ) → Beside (value.Tag n)
  tag_goes n w k l =
      at_layer (value.Tag n) w (Value-F.Tag n) (Value-F.Tag n) (Value-F.Tag n)
      (fold-tag left_step n) (fold-tag right_step n) (fold-tag same_step n) k l (by (out-Value w))
    where
      by : (y : Value-F Value) → R (k (same_form (Value-F.Tag n) y)) (l (same_form (Value-F.Tag n) y))
          → R (or_stop stop (variant n) (λ i. or_stop stop (tag_in y)
          (λ j. decide i (λ d. decide j (λ e. k (d == e))))))
          (or_stop halt (variant n) (λ i. or_stop halt (tag_in y)
          (λ j. choose i (λ d. choose j (λ e. l (d == e))))))
      by (Value-F.Tag m) h =
          few (variant n) _ _ (λ i is. few (variant m) _ _ (λ j at.
          decides _ _ _ (decides _ _ _
          (subst (λ x. R (k (x == j)) (l (x == j))) (variant_is n i is)
          (subst (λ y. R (k (n == y)) (l (n == y))) (variant_is m j at) h)))))
      by (Value-F.Elem m) h = few (variant n) _ _ (λ i is. stops)
      by (Value-F.Int m) h = few (variant n) _ _ (λ i is. stops)
      by (Value-F.Rec vs) h = few (variant n) _ _ (λ i is. stops)
      by Value-F.None h = few (variant n) _ _ (λ i is. stops)
      by (Value-F.Some v) h = few (variant n) _ _ (λ i is. stops)

  fields_go : (vs : List Value) → Each Beside vs → (ws : List Value) (k : Bool → X) (l : Bool → Y)
      → R (k (all_same (map same_value vs) ws)) (l (all_same (map same_value vs) ws))
      → R (fields_compared X stop (map left vs) ws k) (fields_compared Y halt (map right vs) ws l)
  fields_go [] each [] k l h = h
  fields_go [] each (w ∷ ws) k l h = stops
  fields_go (v ∷ vs) each [] k l h = stops
  fields_go (v ∷ vs) each (w ∷ ws) k l h =
      each.0 w (λ s. if s then fields_compared X stop (map left vs) ws k else k false)
      (λ s. if s then fields_compared Y halt (map right vs) ws l else l false)
      (by (fields_go vs each.1 ws k l) (same_value v w) h)
    where
      by : (R (k (all_same (map same_value vs) ws)) (l (all_same (map same_value vs) ws))
          → R (fields_compared X stop (map left vs) ws k) (fields_compared Y halt (map right vs) ws l))
          → (b : Bool) → R (k (b && all_same (map same_value vs) ws)) (l (b && all_same (map same_value vs) ws))
          → R (if b then fields_compared X stop (map left vs) ws k else k false)
          (if b then fields_compared Y halt (map right vs) ws l else l false)
      by more true h = more h
      by more false h = h

  rec_goes : (vs : List Value) → Each Beside vs → Beside (value.Rec vs)
  rec_goes vs each w k l =
      at_layer (value.Rec vs) w (Value-F.Rec (map left vs)) (Value-F.Rec (map right vs))
      (Value-F.Rec (map same_value vs)) (fold-rec left_step vs) (fold-rec right_step vs) (fold-rec same_step vs) k l
      (by (out-Value w))
    where
      by : (y : Value-F Value)
          → R (k (same_form (Value-F.Rec (map same_value vs)) y)) (l (same_form (Value-F.Rec (map same_value vs)) y))
          → R (or_stop stop (parts_in y) (λ ws. fields_compared X stop (map left vs) ws k))
          (or_stop halt (parts_in y) (λ ws. fields_compared Y halt (map right vs) ws l))
      by (Value-F.Rec ws) h = fields_go vs each ws k l h
      by (Value-F.Elem m) h = stops
      by (Value-F.Int m) h = stops
      by (Value-F.Tag m) h = stops
      by Value-F.None h = stops
      by (Value-F.Some v) h = stops

  none_goes : Beside value.None
  none_goes w k l =
      at_layer value.None w Value-F.None Value-F.None Value-F.None
      (fold-none left_step) (fold-none right_step) (fold-none same_step) k l (by (out-Value w))
    where
      by : (y : Value-F Value) → R (k (same_form Value-F.None y)) (l (same_form Value-F.None y))
          → R (or_stop stop (option_in y) (λ o. decide 0 (λ d. decide (presence o) (λ e. k (d == e)))))
          (or_stop halt (option_in y) (λ o. choose 0 (λ d. choose (presence o) (λ e. l (d == e)))))
      by Value-F.None h = decides _ _ _ (decides _ _ _ h)
      by (Value-F.Some v) h = decides _ _ _ (decides _ _ _ h)
      by (Value-F.Elem m) h = stops
      by (Value-F.Int m) h = stops
      by (Value-F.Tag m) h = stops
      by (Value-F.Rec vs) h = stops

  some_goes : (v : Value) → Beside v → Beside (value.Some v)
  some_goes v goes w k l =
      at_layer (value.Some v) w (Value-F.Some (left v)) (Value-F.Some (right v)) (Value-F.Some (same_value v))
      (fold-some left_step v) (fold-some right_step v) (fold-some same_step v) k l (by (out-Value w))
    where
      by : (y : Value-F Value)
          → R (k (same_form (Value-F.Some (same_value v)) y)) (l (same_form (Value-F.Some (same_value v)) y))
          → R (or_stop stop (option_in y)
          (λ o. decide 1 (λ d. decide (presence o) (λ e. payload_compared X (left v) o k))))
          (or_stop halt (option_in y)
          (λ o. choose 1 (λ d. choose (presence o) (λ e. payload_compared Y (right v) o l))))
      by Value-F.None h = decides _ _ _ (decides _ _ _ h)
      by (Value-F.Some x) h = decides _ _ _ (decides _ _ _ (goes x k l h))
      by (Value-F.Elem m) h = stops
      by (Value-F.Int m) h = stops
      by (Value-F.Tag m) h = stops
      by (Value-F.Rec vs) h = stops

  -- two comparisons of the same values stop together, or go on with whether the values are equal
  pub compared_beside : (v : Value) → Beside v
  compared_beside = value_ind Beside elem_goes int_goes tag_goes rec_goes none_goes some_goes

  abbrev left_look : Value → Inspecting X
  left_look = inspecting X stop decide

  abbrev right_look : Value → Inspecting Y
  right_look = inspecting Y halt choose

  abbrev left_form : Value-F (Inspecting X) → Inspecting X
  left_form = inspecting_step X stop decide

  abbrev right_form : Value-F (Inspecting Y) → Inspecting Y
  right_form = inspecting_step Y halt choose

  abbrev Looked : Value → Type 0
  Looked v = (w : Value) (x : X) (y : Y) → R x y → R (left_look v w x) (right_look v w y)

  -- one layer of both
  at_form : (v w : Value) (m : Value-F (Inspecting X)) (n : Value-F (Inspecting Y)) → left_look v ≡ left_form m
      → right_look v ≡ right_form n → (x : X) (y : Y) → R (left_form m w x) (right_form n w y)
      → R (left_look v w x) (right_look v w y)
  at_form v w m n is_left is_right x y h =
      subst (λ (f : Inspecting X). R (f w x) (right_look v w y)) (sym is_left)
      (subst (λ (f : Inspecting Y). R (left_form m w x) (f w y)) (sym is_right) h)

  both_look : (m n : ℕ) (x : X) (y : Y) → R x y
      → R (both_inspected X stop decide m n x) (both_inspected Y halt choose m n y)
  both_look m n x y h = decides _ _ _ (decides _ _ _ (by (m == n)))
    where
      by : (b : Bool) → R (if b then x else stop) (if b then y else halt)
      by true = h
      by false = stops

  variants_look : (m n : Option ℕ) (x : X) (y : Y) → R x y
      → R (variants_inspected X stop decide m n x) (variants_inspected Y halt choose m n y)
  variants_look (Some m) (Some n) x y h = both_look m n x y h
  variants_look (Some m) None x y h = h
  variants_look None n x y h = h

  fields_look : (vs : List Value) → Each Looked vs → (ws : List Value) (x : X) (y : Y) → R x y
      → R (fields_inspected X stop decide (map left_look vs) ws x)
      (fields_inspected Y halt choose (map right_look vs) ws y)
  fields_look [] each ws x y h = h
  fields_look (v ∷ vs) each [] x y h = h
  fields_look (v ∷ vs) each (w ∷ ws) x y h = each.0 w _ _ (fields_look vs each.1 ws x y h)

  record_look : (vs : List Value) → Each Looked vs → (o : Option (List Value)) (x : X) (y : Y) → R x y
      → R (record_inspected X stop decide (map left_look vs) o x)
      (record_inspected Y halt choose (map right_look vs) o y)
  record_look vs each (Some ws) x y h = fields_look vs each ws x y h
  record_look vs each None x y h = h

  none_look : (o : Option (Option Value)) (x : X) (y : Y) → R x y
      → R (none_inspected X stop decide o x) (none_inspected Y halt choose o y)
  none_look (Some o) x y h = both_look 0 (presence o) x y h
  none_look None x y h = h

  payload_look : (v : Value) → Looked v → (o : Option Value) (x : X) (y : Y) → R x y
      → R (payload_inspected X stop decide (left_look v) o x) (payload_inspected Y halt choose (right_look v) o y)
  payload_look v look (Some w) x y h = look w x y h
  payload_look v look None x y h = h

  some_look : (v : Value) → Looked v → (o : Option (Option Value)) (x : X) (y : Y) → R x y
      → R (some_inspected X stop decide (left_look v) o x) (some_inspected Y halt choose (right_look v) o y)
  some_look v look (Some o) x y h = both_look 1 (presence o) _ _ (payload_look v look o x y h)
  some_look v look None x y h = h

  -- two inspections of the same values stop together, or go on together
  pub inspected_beside : (v : Value) → Looked v
  inspected_beside = value_ind Looked
      (λ n w x y h. at_form (value.Elem n) w (Value-F.Elem n) (Value-F.Elem n) (fold-elem left_form n)
      (fold-elem right_form n) x y h)
      (λ n w x y h. at_form (value.Int n) w (Value-F.Int n) (Value-F.Int n) (fold-int left_form n)
      (fold-int right_form n) x y h)
      (λ n w x y h. at_form (value.Tag n) w (Value-F.Tag n) (Value-F.Tag n) (fold-tag left_form n)
      (fold-tag right_form n) x y (variants_look (variant n) (tag_of w) x y h))
      (λ vs each w x y h. at_form (value.Rec vs) w (Value-F.Rec (map left_look vs)) (Value-F.Rec (map right_look vs))
      (fold-rec left_form vs) (fold-rec right_form vs) x y (record_look vs each (parts_of w) x y h))
      (λ w x y h. at_form value.None w Value-F.None Value-F.None (fold-none left_form) (fold-none right_form) x y
      (none_look (option_of w) x y h))
      (λ v look w x y h. at_form (value.Some v) w (Value-F.Some (left_look v)) (Value-F.Some (right_look v))
      (fold-some left_form v) (fold-some right_form v) x y (some_look v look (option_of w) x y h))

-- an inspection of a value beside itself goes on
module _ (X : Type 0) (stop : X) (decide : ℕ → (ℕ → X) → X) (P : X → Type 0)
    (decides : (d : ℕ) (k : ℕ → X) → P (k d) → P (decide d k)) where
  abbrev look : Value → Inspecting X
  look = inspecting X stop decide

  abbrev form : Value-F (Inspecting X) → Inspecting X
  form = inspecting_step X stop decide

  abbrev Passes : Value → Type 0
  Passes v = (x : X) → P x → P (look v v x)

  both_pass : (m : ℕ) (x : X) → P x → P (both_inspected X stop decide m m x)
  both_pass m x h = decides _ _ (decides _ _ (subst (λ b. P (if b then x else stop)) (sym (eq-eqb m m refl)) h))

  variants_pass : (o : Option ℕ) (x : X) → P x → P (variants_inspected X stop decide o o x)
  variants_pass (Some m) x h = both_pass m x h
  variants_pass None x h = h

  fields_pass : (vs : List Value) → Each Passes vs → (x : X) → P x
      → P (fields_inspected X stop decide (map look vs) vs x)
  fields_pass [] each x h = h
  fields_pass (v ∷ vs) each x h = each.0 _ (fields_pass vs each.1 x h)

  at_one : (v : Value) (m : Value-F (Inspecting X)) → look v ≡ form m → (x : X) → P (form m v x) → P (look v v x)
  at_one v m is x h = subst (λ (f : Inspecting X). P (f v x)) (sym is) h

  pub inspected_self : (v : Value) → Passes v
  inspected_self = value_ind Passes
      (λ n x h. at_one (value.Elem n) (Value-F.Elem n) (fold-elem form n) x h)
      (λ n x h. at_one (value.Int n) (Value-F.Int n) (fold-int form n) x h)
      (λ n x h. at_one (value.Tag n) (Value-F.Tag n) (fold-tag form n) x
      (subst (λ y. P (variants_inspected X stop decide (variant n) (tag_in y) x)) (sym (out_tag n))
      (variants_pass (variant n) x h)))
      (λ vs each x h. at_one (value.Rec vs) (Value-F.Rec (map look vs)) (fold-rec form vs) x
      (subst (λ y. P (record_inspected X stop decide (map look vs) (parts_in y) x)) (sym (out_rec vs))
      (fields_pass vs each x h)))
      (λ x h. at_one value.None Value-F.None (fold-none form) x
      (subst (λ y. P (none_inspected X stop decide (option_in y) x)) (sym out_none) (both_pass 0 x h)))
      (λ v pass x h. at_one (value.Some v) (Value-F.Some (look v)) (fold-some form v) x
      (subst (λ y. P (some_inspected X stop decide (look v) (option_in y) x)) (sym (out_some v))
      (both_pass 1 _ (pass x h))))
