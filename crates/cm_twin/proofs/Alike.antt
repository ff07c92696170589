-- Values that differ in names alone are compared and inspected alike.
use Rattle.std.proofs.Common.{◌≡◌, ℕ, ◌==◌, ℤ, Bool, true, false, List, [], ◌∷◌, map, Option, Some, None, refl, sym, ap}
use Rattle.std.proofs.Common.{◌∙◌, subst, if◌then◌else◌}
use Rattle.std.proofs.lemmas.Bool.{eqb-true, eqb-false}
use Rattle.std.specs.Prelude.{option_map}
use Rattle.cm_model.specs.Tables.{Tables}
use Rattle.cm_model.specs.declared.ty.Ty.{Ty}
use Rattle.cm_value.specs.declared.value.Value.{Value}
use Rattle.cm_value.specs.declared.value.Value.TheVariants as value
use Rattle.cm_value.specs.declared.value.Value.TheOpen.{Value-F}
use Rattle.cm_value.specs.Relabelling.{types_of_fields, type_of_payload}
use Rattle.cm_value.proofs.Folds.{fold-elem, fold-int, fold-tag, fold-rec, fold-none, fold-some}
use Rattle.cm_value.proofs.Induction.{Each, value_ind}
use Rattle.cm_eval.specs.Comparison.{Comparing, comparison, comparison_step, fields_compared, payload_compared, or_stop}
use Rattle.cm_eval.specs.Comparison.{elem_of, int_of, tag_of, parts_of, option_of, variant, distinguished, ordered}
use Rattle.cm_eval.specs.Comparison.{presence, elem_in, parts_in, option_in}
use Rattle.cm_eval.specs.State.{same_value}
use Rattle.cm_eval.proofs.Examples.{out_elem, out_rec, out_some}
use Rattle.cm_eval.proofs.Same.{same_equal, same_self}
use Rattle.cm_world.specs.Path.{Inspecting, inspecting, inspecting_step, both_inspected, variants_inspected}
use Rattle.cm_world.specs.Path.{fields_inspected, record_inspected, none_inspected, some_inspected, payload_inspected}
use Rattle.cm_relation.specs.Relation.{IfBoth}
use Rattle.cm_twin.specs.Names.{Names, name_in, named, AreTwins}
use Rattle.cm_twin.proofs.Renamed.{named-elem, named-int, named-tag, named-rec, named-none, named-some, elem_named}
use Rattle.cm_twin.proofs.Renamed.{int_named, tag_named, parts_named, option_named, all_named, payload_named, Pairs}
use Rattle.cm_twin.proofs.Renamed.{pairs_from}

pub both_from : {X : Type 0} (o p : Option X) (f g : X → X) → p ≡ option_map f o → o ≡ option_map g p
    → IfBoth (λ x y. (f x ≡ y) × (g y ≡ x)) o p
both_from (Some x) (Some y) f g e h = (cc, cc)
both_from None None f g e h = tt
both_from (Some x) None f g e h = absurd (cc)
both_from None (Some y) f g e h = absurd (cc)

both_by : {X : Type 0} (P Q : X → X → Type 0) → ((x y : X) → P x y → Q x y) → (o p : Option X) → IfBoth P o p
    → IfBoth Q o p
both_by P Q f (Some x) (Some y) h = f x y h
both_by P Q f None None h = tt
both_by P Q f (Some x) None h = absurd h
both_by P Q f None (Some y) h = absurd h

module _ (t : Tables) (names : Names) (o : Option Ty) where
  -- two elements of one sort, or of none
  abbrev AreNamed : ℕ → ℕ → Type 0
  AreNamed m n = (name_in names.there o m ≡ n) × (name_in names.back o n ≡ m)

  pub elem_pair : (v w : Value) → AreTwins t names o v w → IfBoth AreNamed (elem_of v) (elem_of w)
  elem_pair v w h =
      both_from (elem_of v) (elem_of w) (name_in names.there o) (name_in names.back o)
      (sym (ap elem_of h.0) ∙ elem_named t names.there o v) (sym (ap elem_of h.1) ∙ elem_named t names.back o w)

  pub int_same : (v w : Value) → AreTwins t names o v w → int_of w ≡ int_of v
  int_same v w h = sym (ap int_of h.0) ∙ int_named t names.there o v

  pub tag_same : (v w : Value) → AreTwins t names o v w → tag_of w ≡ tag_of v
  tag_same v w h = sym (ap tag_of h.0) ∙ tag_named t names.there o v

  pub parts_pair : (v w : Value) → AreTwins t names o v w
      → IfBoth (Pairs t names (types_of_fields t o)) (parts_of v) (parts_of w)
  parts_pair v w h =
      both_by _ (Pairs t names (types_of_fields t o))
      (λ vs ws e. pairs_from t names (types_of_fields t o) vs ws e.0 e.1)
      (parts_of v) (parts_of w)
      (both_from (parts_of v) (parts_of w) (all_named t names.there o) (all_named t names.back o)
      (sym (ap parts_of h.0) ∙ parts_named t names.there o v) (sym (ap parts_of h.1) ∙ parts_named t names.back o w))

  abbrev pub ArePayloads : Option Value → Option Value → Type 0
  ArePayloads = IfBoth (AreTwins t names (type_of_payload o))

  pub option_pair : (v w : Value) → AreTwins t names o v w → IfBoth ArePayloads (option_of v) (option_of w)
  option_pair v w h =
      both_by _ ArePayloads (λ p q e. both_from p q (λ x. named t names.there x (type_of_payload o))
      (λ x. named t names.back x (type_of_payload o)) (sym e.0) (sym e.1))
      (option_of v) (option_of w)
      (both_from (option_of v) (option_of w) (payload_named t names.there o) (payload_named t names.back o)
      (sym (ap option_of h.0) ∙ option_named t names.there o v)
      (sym (ap option_of h.1) ∙ option_named t names.back o w))

  -- the parts of a record and the payload of an option, beside those of its twin
  record_pair : (vs : List Value) (w : Value) → AreTwins t names o (value.Rec vs) w
      → w ≡ value.Rec (all_named t names.there o vs)
      → Pairs t names (types_of_fields t o) vs (all_named t names.there o vs)
  record_pair vs w h is =
      let pair : IfBoth (Pairs t names (types_of_fields t o)) (Some vs) (Some (all_named t names.there o vs)) =
      subst (λ x. IfBoth (Pairs t names (types_of_fields t o)) (Some vs) x)
      (ap parts_of is ∙ ap parts_in (out_rec (all_named t names.there o vs)))
      (subst (λ x. IfBoth (Pairs t names (types_of_fields t o)) x (parts_of w)) (ap parts_in (out_rec vs))
      (parts_pair (value.Rec vs) w h)) in
      pair

  payload_pair : (v w : Value) → AreTwins t names o (value.Some v) w
      → w ≡ value.Some (named t names.there v (type_of_payload o))
      → AreTwins t names (type_of_payload o) v (named t names.there v (type_of_payload o))
  payload_pair v w h is =
      let pair : IfBoth ArePayloads (Some (Some v)) (Some (Some (named t names.there v (type_of_payload o)))) =
      subst (λ x. IfBoth ArePayloads (Some (Some v)) x)
      (ap option_of is ∙ ap option_in (out_some (named t names.there v (type_of_payload o))))
      (subst (λ x. IfBoth ArePayloads x (option_of w)) (ap option_in (out_some v))
      (option_pair (value.Some v) w h)) in
      pair

  presence_same : (p q : Option Value) → ArePayloads p q → presence q ≡ presence p
  presence_same (Some x) (Some y) h = refl
  presence_same None None h = refl
  presence_same (Some x) None h = absurd h
  presence_same None (Some y) h = absurd h

  -- the same is told of elements under other names
  told_apart : (m n m' n' : ℕ) → AreNamed m m' → AreNamed n n' → distinguished m' n' ≡ distinguished m n
  told_apart m n m' n' h g = ap (λ (b : Bool). if b then 0 else 1) (by (m == n) refl (m' == n') refl)
    where
      by : (b : Bool) → (m == n) ≡ b → (c : Bool) → (m' == n') ≡ c → (m' == n') ≡ (m == n)
      by true e true f = f ∙ sym e
      by true e false f =
          absurd (eqb-false m' n' f (sym h.0 ∙ ap (name_in names.there o) (eqb-true m n e) ∙ g.0))
      by false e true f = absurd (eqb-false m n e (sym h.1 ∙ ap (name_in names.back o) (eqb-true m' n' f) ∙ g.1))
      by false e false f = f ∙ sym e

module _ (t : Tables) (names : Names) (X : Type 0) (stop : X) (decide : ℕ → (ℕ → X) → X) where
  abbrev meaning : Value → Comparing X
  meaning = comparison X stop decide

  abbrev step : Value-F (Comparing X) → Comparing X
  step = comparison_step X stop decide

  abbrev Same : Value → Type 0
  Same v = (v' w w' : Value) (o : Option Ty) (k : Bool → X) → AreTwins t names o v v' → AreTwins t names o w w'
      → meaning v' w' k ≡ meaning v w k

  -- one layer of both sides
  at_layer : (v v' : Value) (x x' : Value-F (Comparing X)) → meaning v ≡ step x → meaning v' ≡ step x'
      → (w w' : Value) (k : Bool → X) → step x' w' k ≡ step x w k → meaning v' w' k ≡ meaning v w k
  at_layer v v' x x' is is' w w' k e =
      ap (λ (m : Comparing X). m w' k) is' ∙ e ∙ sym (ap (λ (m : Comparing X). m w k) is)

  elem_same : (n : ℕ) → Same (value.Elem n)
  elem_same n v' w w' o k h g =
      let is : v' ≡ value.Elem (name_in names.there o n) = sym h.0 ∙ named-elem t names.there o n in
      at_layer (value.Elem n) v' (Value-F.Elem n) (Value-F.Elem (name_in names.there o n)) (fold-elem step n)
      (ap meaning is ∙ fold-elem step (name_in names.there o n)) w w' k
      (by (elem_of w) (elem_of w') (elem_pair t names o w w' g) (own is))
    where
      own : v' ≡ value.Elem (name_in names.there o n) → AreNamed t names o n (name_in names.there o n)
      own is =
          let pair : IfBoth (AreNamed t names o) (Some n) (Some (name_in names.there o n)) =
          subst (λ x. IfBoth (AreNamed t names o) (Some n) x)
          (ap elem_of is ∙ ap elem_in (out_elem (name_in names.there o n)))
          (subst (λ x. IfBoth (AreNamed t names o) x (elem_of v')) (ap elem_in (out_elem n))
          (elem_pair t names o (value.Elem n) v' h)) in
          pair

      by : (p q : Option ℕ) → IfBoth (AreNamed t names o) p q → AreNamed t names o n (name_in names.there o n)
          → or_stop stop q (λ m. decide (distinguished (name_in names.there o n) m) (λ d. k (d == 0)))
          ≡ or_stop stop p (λ m. decide (distinguished n m) (λ d. k (d == 0)))
      by (Some m) (Some m') are self = ap (λ i. decide i (λ d. k (d == 0)))
          (told_apart t names o n m (name_in names.there o n) m' self are)
      by None None are self = refl
      by (Some m) None are self = absurd are
      by None (Some m') are self = absurd are

  int_same_compared : (n : ℤ) → Same (value.Int n)
  int_same_compared n v' w w' o k h g =
      at_layer (value.Int n) v' (Value-F.Int n) (Value-F.Int n) (fold-int step n)
      (ap meaning (sym h.0 ∙ named-int t names.there o n) ∙ fold-int step n) w w' k
      (ap (λ p. or_stop stop p (λ m. decide (ordered n m) (λ d. k (d == 1)))) (int_same t names o w w' g))

  tag_same_compared : (n : ℕ) → Same (value.Tag n)
  tag_same_compared n v' w w' o k h g =
      at_layer (value.Tag n) v' (Value-F.Tag n) (Value-F.Tag n) (fold-tag step n)
      (ap meaning (sym h.0 ∙ named-tag t names.there o n) ∙ fold-tag step n) w w' k
      (ap (λ p. or_stop stop (variant n) (λ l. or_stop stop p (λ r. decide l (λ d. decide r (λ e. k (d == e))))))
      (tag_same t names o w w' g))

  fields_same : (us : List Ty) (vs vs' ws ws' : List Value) (k : Bool → X) → Each Same vs → Pairs t names us vs vs'
      → Pairs t names us ws ws'
      → fields_compared X stop (map meaning vs') ws' k ≡ fields_compared X stop (map meaning vs) ws k
  fields_same us [] [] [] [] k each h g = refl
  fields_same us [] [] (w ∷ ws) (w' ∷ ws') k each h g = refl
  fields_same us (v ∷ vs) (v' ∷ vs') [] [] k each h g = refl
  fields_same [] (v ∷ vs) (v' ∷ vs') (w ∷ ws) (w' ∷ ws') k each h g =
      each.0 v' w w' None (λ s. if s then fields_compared X stop (map meaning vs') ws' k else k false) h.0 g.0
      ∙ ap (λ rest. meaning v w (λ s. if s then rest else k false)) (fields_same [] vs vs' ws ws' k each.1 h.1 g.1)
  fields_same (u ∷ us) (v ∷ vs) (v' ∷ vs') (w ∷ ws) (w' ∷ ws') k each h g =
      each.0 v' w w' (Some u) (λ s. if s then fields_compared X stop (map meaning vs') ws' k else k false) h.0 g.0
      ∙ ap (λ rest. meaning v w (λ s. if s then rest else k false)) (fields_same us vs vs' ws ws' k each.1 h.1 g.1)
  fields_same us [] (v' ∷ vs') ws ws' k each h g = absurd h
  fields_same us (v ∷ vs) [] ws ws' k each h g = absurd h
  fields_same us [] [] [] (w' ∷ ws') k each h g = absurd g
  fields_same us [] [] (w ∷ ws) [] k each h g = absurd g
  fields_same us (v ∷ vs) (v' ∷ vs') [] (w' ∷ ws') k each h g = absurd g
  fields_same us (v ∷ vs) (v' ∷ vs') (w ∷ ws) [] k each h g = absurd g

  rec_same : (vs : List Value) → Each Same vs → Same (value.Rec vs)
  rec_same vs each v' w w' o k h g =
      let new : v' ≡ value.Rec (all_named t names.there o vs) = sym h.0 ∙ named-rec t names.there o vs in
      at_layer (value.Rec vs) v' (Value-F.Rec (map meaning vs))
      (Value-F.Rec (map meaning (all_named t names.there o vs)))
      (fold-rec step vs) (ap meaning new ∙ fold-rec step (all_named t names.there o vs)) w w' k
      (by (parts_of w) (parts_of w') (parts_pair t names o w w' g) (record_pair t names o vs v' h new))
    where
      by : (p q : Option (List Value)) → IfBoth (Pairs t names (types_of_fields t o)) p q
          → Pairs t names (types_of_fields t o) vs (all_named t names.there o vs)
          → or_stop stop q (λ ws. fields_compared X stop (map meaning (all_named t names.there o vs)) ws k)
          ≡ or_stop stop p (λ ws. fields_compared X stop (map meaning vs) ws k)
      by (Some ws) (Some ws') are self =
          fields_same (types_of_fields t o) vs (all_named t names.there o vs) ws ws' k each self are
      by None None are self = refl
      by (Some ws) None are self = absurd are
      by None (Some ws') are self = absurd are

  none_same : Same value.None
  none_same v' w w' o k h g =
      at_layer value.None v' Value-F.None Value-F.None (fold-none step)
      (ap meaning (sym h.0 ∙ named-none t names.there o) ∙ fold-none step) w w' k
      (by (option_of w) (option_of w') (option_pair t names o w w' g))
    where
      by : (p q : Option (Option Value)) → IfBoth (ArePayloads t names o) p q
          → or_stop stop q (λ x. decide 0 (λ d. decide (presence x) (λ e. k (d == e))))
          ≡ or_stop stop p (λ x. decide 0 (λ d. decide (presence x) (λ e. k (d == e))))
      by (Some x) (Some x') are =
          ap (λ i. decide 0 (λ d. decide i (λ e. k (d == e)))) (presence_same t names o x x' are)
      by None None are = refl
      by (Some x) None are = absurd are
      by None (Some x') are = absurd are

  some_same : (v : Value) → Same v → Same (value.Some v)
  some_same v same v' w w' o k h g =
      let new : v' ≡ value.Some (named t names.there v (type_of_payload o)) = sym h.0 ∙ named-some t names.there o v in
      at_layer (value.Some v) v' (Value-F.Some (meaning v))
      (Value-F.Some (meaning (named t names.there v (type_of_payload o))))
      (fold-some step v) (ap meaning new ∙ fold-some step (named t names.there v (type_of_payload o))) w w' k
      (by (option_of w) (option_of w') (option_pair t names o w w' g) (payload_pair t names o v v' h new))
    where
      payload : (x x' : Option Value) → ArePayloads t names o x x'
          → AreTwins t names (type_of_payload o) v (named t names.there v (type_of_payload o))
          → payload_compared X (meaning (named t names.there v (type_of_payload o))) x' k
          ≡ payload_compared X (meaning v) x k
      payload (Some y) (Some y') are self =
          same (named t names.there v (type_of_payload o)) y y' (type_of_payload o) k self are
      payload None None are self = refl
      payload (Some y) None are self = absurd are
      payload None (Some y') are self = absurd are

      by : (p q : Option (Option Value)) → IfBoth (ArePayloads t names o) p q
          → AreTwins t names (type_of_payload o) v (named t names.there v (type_of_payload o))
          → or_stop stop q (λ x. decide 1 (λ d. decide (presence x) (λ e.
          payload_compared X (meaning (named t names.there v (type_of_payload o))) x k)))
          ≡ or_stop stop p (λ x. decide 1 (λ d. decide (presence x) (λ e. payload_compared X (meaning v) x k)))
      by (Some x) (Some x') are self =
          ap (λ i. decide 1 (λ d. decide i (λ e.
          payload_compared X (meaning (named t names.there v (type_of_payload o))) x' k)))
          (presence_same t names o x x' are)
          ∙ ap (λ more. decide 1 (λ d. decide (presence x) (λ e. more))) (payload x x' are self)
      by None None are self = refl
      by (Some x) None are self = absurd are
      by None (Some x') are self = absurd are

  -- a comparison of two values of one type decides the same under other names
  pub compared_same : (v : Value) → Same v
  compared_same = value_ind Same elem_same int_same_compared tag_same_compared rec_same none_same some_same

  abbrev look : Value → Inspecting X
  look = inspecting X stop decide

  abbrev form : Value-F (Inspecting X) → Inspecting X
  form = inspecting_step X stop decide

  abbrev Looked : Value → Type 0
  Looked v = (v' w w' : Value) (o : Option Ty) (rest : X) → AreTwins t names o v v' → AreTwins t names o w w'
      → look v' w' rest ≡ look v w rest

  at_form : (v v' : Value) (x x' : Value-F (Inspecting X)) → look v ≡ form x → look v' ≡ form x'
      → (w w' : Value) (rest : X) → form x' w' rest ≡ form x w rest → look v' w' rest ≡ look v w rest
  at_form v v' x x' is is' w w' rest e =
      ap (λ (m : Inspecting X). m w' rest) is' ∙ e ∙ sym (ap (λ (m : Inspecting X). m w rest) is)

  fields_looked : (us : List Ty) (vs vs' ws ws' : List Value) (rest : X) → Each Looked vs → Pairs t names us vs vs'
      → Pairs t names us ws ws'
      → fields_inspected X stop decide (map look vs') ws' rest ≡ fields_inspected X stop decide (map look vs) ws rest
  fields_looked us [] [] ws ws' rest each h g = refl
  fields_looked us (v ∷ vs) (v' ∷ vs') [] [] rest each h g = refl
  fields_looked [] (v ∷ vs) (v' ∷ vs') (w ∷ ws) (w' ∷ ws') rest each h g =
      each.0 v' w w' None (fields_inspected X stop decide (map look vs') ws' rest) h.0 g.0
      ∙ ap (look v w) (fields_looked [] vs vs' ws ws' rest each.1 h.1 g.1)
  fields_looked (u ∷ us) (v ∷ vs) (v' ∷ vs') (w ∷ ws) (w' ∷ ws') rest each h g =
      each.0 v' w w' (Some u) (fields_inspected X stop decide (map look vs') ws' rest) h.0 g.0
      ∙ ap (look v w) (fields_looked us vs vs' ws ws' rest each.1 h.1 g.1)
  fields_looked us [] (v' ∷ vs') ws ws' rest each h g = absurd h
  fields_looked us (v ∷ vs) [] ws ws' rest each h g = absurd h
  fields_looked us (v ∷ vs) (v' ∷ vs') [] (w' ∷ ws') rest each h g = absurd g
  fields_looked us (v ∷ vs) (v' ∷ vs') (w ∷ ws) [] rest each h g = absurd g

  elem_looked : (n : ℕ) → Looked (value.Elem n)
  elem_looked n v' w w' o rest h g =
      at_form (value.Elem n) v' (Value-F.Elem n) (Value-F.Elem (name_in names.there o n)) (fold-elem form n)
      (ap look (sym h.0 ∙ named-elem t names.there o n) ∙ fold-elem form (name_in names.there o n)) w w' rest refl

  int_looked : (n : ℤ) → Looked (value.Int n)
  int_looked n v' w w' o rest h g =
      at_form (value.Int n) v' (Value-F.Int n) (Value-F.Int n) (fold-int form n)
      (ap look (sym h.0 ∙ named-int t names.there o n) ∙ fold-int form n) w w' rest refl

  tag_looked : (n : ℕ) → Looked (value.Tag n)
  tag_looked n v' w w' o rest h g =
      at_form (value.Tag n) v' (Value-F.Tag n) (Value-F.Tag n) (fold-tag form n)
      (ap look (sym h.0 ∙ named-tag t names.there o n) ∙ fold-tag form n) w w' rest
      (ap (λ p. variants_inspected X stop decide (variant n) p rest) (tag_same t names o w w' g))

  rec_looked : (vs : List Value) → Each Looked vs → Looked (value.Rec vs)
  rec_looked vs each v' w w' o rest h g =
      let new : v' ≡ value.Rec (all_named t names.there o vs) = sym h.0 ∙ named-rec t names.there o vs in
      at_form (value.Rec vs) v' (Value-F.Rec (map look vs)) (Value-F.Rec (map look (all_named t names.there o vs)))
      (fold-rec form vs) (ap look new ∙ fold-rec form (all_named t names.there o vs)) w w' rest
      (by (parts_of w) (parts_of w') (parts_pair t names o w w' g) (record_pair t names o vs v' h new))
    where
      by : (p q : Option (List Value)) → IfBoth (Pairs t names (types_of_fields t o)) p q
          → Pairs t names (types_of_fields t o) vs (all_named t names.there o vs)
          → record_inspected X stop decide (map look (all_named t names.there o vs)) q rest
          ≡ record_inspected X stop decide (map look vs) p rest
      by (Some ws) (Some ws') are self =
          fields_looked (types_of_fields t o) vs (all_named t names.there o vs) ws ws' rest each self are
      by None None are self = refl
      by (Some ws) None are self = absurd are
      by None (Some ws') are self = absurd are

  none_looked : Looked value.None
  none_looked v' w w' o rest h g =
      at_form value.None v' Value-F.None Value-F.None (fold-none form)
      (ap look (sym h.0 ∙ named-none t names.there o) ∙ fold-none form) w w' rest
      (by (option_of w) (option_of w') (option_pair t names o w w' g))
    where
      by : (p q : Option (Option Value)) → IfBoth (ArePayloads t names o) p q
          → none_inspected X stop decide q rest ≡ none_inspected X stop decide p rest
      by (Some x) (Some x') are = ap (λ i. both_inspected X stop decide 0 i rest) (presence_same t names o x x' are)
      by None None are = refl
      by (Some x) None are = absurd are
      by None (Some x') are = absurd are

  some_looked : (v : Value) → Looked v → Looked (value.Some v)
  some_looked v looked v' w w' o rest h g =
      let new : v' ≡ value.Some (named t names.there v (type_of_payload o)) = sym h.0 ∙ named-some t names.there o v in
      at_form (value.Some v) v' (Value-F.Some (look v))
      (Value-F.Some (look (named t names.there v (type_of_payload o))))
      (fold-some form v) (ap look new ∙ fold-some form (named t names.there v (type_of_payload o))) w w' rest
      (by (option_of w) (option_of w') (option_pair t names o w w' g) (payload_pair t names o v v' h new))
    where
      payload : (x x' : Option Value) → ArePayloads t names o x x'
          → AreTwins t names (type_of_payload o) v (named t names.there v (type_of_payload o))
          → payload_inspected X stop decide (look (named t names.there v (type_of_payload o))) x' rest
          ≡ payload_inspected X stop decide (look v) x rest
      payload (Some y) (Some y') are self =
          looked (named t names.there v (type_of_payload o)) y y' (type_of_payload o) rest self are
      payload None None are self = refl
      payload (Some y) None are self = absurd are
      payload None (Some y') are self = absurd are

      by : (p q : Option (Option Value)) → IfBoth (ArePayloads t names o) p q
          → AreTwins t names (type_of_payload o) v (named t names.there v (type_of_payload o))
          → some_inspected X stop decide (look (named t names.there v (type_of_payload o))) q rest
          ≡ some_inspected X stop decide (look v) p rest
      by (Some x) (Some x') are self =
          ap (λ i. both_inspected X stop decide 1 i
          (payload_inspected X stop decide (look (named t names.there v (type_of_payload o))) x' rest))
          (presence_same t names o x x' are)
          ∙ ap (both_inspected X stop decide 1 (presence x)) (payload x x' are self)
      by None None are self = refl
      by (Some x) None are self = absurd are
      by None (Some x') are self = absurd are

  -- an inspection of two values of one type decides the same under other names
  pub inspected_same : (v : Value) → Looked v
  inspected_same = value_ind Looked elem_looked int_looked tag_looked rec_looked none_looked some_looked

false_true : false ≡ true → ⊥
false_true e = cc

-- values are the same exactly where they are under other names
pub same_under : (t : Tables) (names : Names) (o : Option Ty) (v v' w w' : Value) → AreTwins t names o v v'
    → AreTwins t names o w w' → same_value v' w' ≡ same_value v w
same_under t names o v v' w w' h g = by (same_value v w) refl (same_value v' w') refl
  where
    by : (b : Bool) → same_value v w ≡ b → (c : Bool) → same_value v' w' ≡ c → c ≡ b
    by true e true f = refl
    by true e false f =
        absurd (false_true (sym f ∙ subst (λ x. same_value v' x ≡ true)
        (sym h.0 ∙ ap (λ x. named t names.there x o) (same_equal v w e) ∙ g.0) (same_self v')))
    by false e true f =
        absurd (false_true (sym e ∙ subst (λ x. same_value v x ≡ true)
        (sym h.1 ∙ ap (λ x. named t names.back x o) (same_equal v' w' f) ∙ g.1) (same_self v)))
    by false e false f = refl
