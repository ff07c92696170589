-- Values are the same where they are equal.
use Rattle.std.proofs.Common.{◌≡◌, ◌==◌, Bool, true, false, Decides, List, [], ◌∷◌, map, ◌↔◌, Option, Some, None}
use Rattle.std.proofs.Common.{IsTrue, refl, sym, ap, ◌∙◌, subst, arith}
use Rattle.std.proofs.lemmas.Bool.{eqb-true, eq-eqb}
use Rattle.std.proofs.lemmas.Bool.{and_parts, and_from, false_from_ne_true}
use Rattle.std.proofs.lemmas.Bool.Decides.{Decides-int_eq}
use Rattle.cm_value.specs.declared.value.Value.{Value, out-Value}
use Rattle.cm_value.specs.declared.value.Value.TheViews.{roll-Value, roll-out-Value, out-roll-Value}
use Rattle.cm_value.specs.declared.value.Value.TheOpen.{Value-F}
use Rattle.cm_value.specs.declared.value.Value.TheFolds.{map-Value}
use Rattle.cm_eval.specs.declared.log.CellName.{CellName}
use Rattle.cm_eval.specs.State.{same_value, same_form, all_same, same_key, same_cell}
use Rattle.cm_eval.proofs.Folds.{fold_related, Related}

decided : {b : Bool} {P : Type 0} → Decides b P → b ≡ true → P
decided {b} {P} d h = grind (arith, d, h)

so : {b : Bool} {P : Type 0} → Decides b P → P → b ≡ true
so {b} {P} d h = grind (arith, d, h)

-- m says true of v alone
abbrev Tells : (Value → Bool) → Value → Type 0
Tells m v = ((w : Value) → m w ≡ true → v ≡ w) × (m v ≡ true)

abbrev Told : Type 0
Told = Related (Value → Bool) Tells (λ x v. same_form x (out-Value v))

abbrev tests : Value-F Told → Value-F (Value → Bool)
tests = map-Value Told (Value → Bool) (λ p. p.0.0)

abbrev parts : Value-F Told → Value-F Value
parts = map-Value Told Value (λ p. p.0.1)

all_equal : (ms : List Told) (vs : List Value) → all_same (map (λ p. p.0.0) ms) vs ≡ true → map (λ p. p.0.1) ms ≡ vs
all_equal [] [] h = refl
all_equal [] (v ∷ vs) h = cc
all_equal (m ∷ ms) [] h = cc
all_equal (m ∷ ms) (v ∷ vs) h =
    let both = and_parts (m.0.0 v) (all_same (map (λ p. p.0.0) ms) vs) h in
    ap (λ x. x ∷ map (λ (p : Told). p.0.1) ms) (m.1.0 v both.0) ∙ ap (λ xs. v ∷ xs) (all_equal ms vs both.1)

all_told : (ms : List Told) → all_same (map (λ p. p.0.0) ms) (map (λ p. p.0.1) ms) ≡ true
all_told [] = refl
all_told (m ∷ ms) = and_from _ _ m.1.1 (all_told ms)

forms_equal : (y : Value-F Told) (u : Value-F Value) → same_form (tests y) u ≡ true → parts y ≡ u
forms_equal (Value-F.Elem m) (Value-F.Elem n) h = ap Value-F.Elem (eqb-true m n h)
forms_equal (Value-F.Elem m) (Value-F.Int n) h = cc
forms_equal (Value-F.Elem m) (Value-F.Tag n) h = cc
forms_equal (Value-F.Elem m) (Value-F.Rec vs) h = cc
forms_equal (Value-F.Elem m) Value-F.None h = cc
forms_equal (Value-F.Elem m) (Value-F.Some v) h = cc
forms_equal (Value-F.Int m) (Value-F.Elem n) h = cc
forms_equal (Value-F.Int m) (Value-F.Int n) h = ap Value-F.Int (decided (Decides-int_eq m n) h)
forms_equal (Value-F.Int m) (Value-F.Tag n) h = cc
forms_equal (Value-F.Int m) (Value-F.Rec vs) h = cc
forms_equal (Value-F.Int m) Value-F.None h = cc
forms_equal (Value-F.Int m) (Value-F.Some v) h = cc
forms_equal (Value-F.Tag m) (Value-F.Elem n) h = cc
forms_equal (Value-F.Tag m) (Value-F.Int n) h = cc
forms_equal (Value-F.Tag m) (Value-F.Tag n) h = ap Value-F.Tag (eqb-true m n h)
forms_equal (Value-F.Tag m) (Value-F.Rec vs) h = cc
forms_equal (Value-F.Tag m) Value-F.None h = cc
forms_equal (Value-F.Tag m) (Value-F.Some v) h = cc
forms_equal (Value-F.Rec ms) (Value-F.Elem n) h = cc
forms_equal (Value-F.Rec ms) (Value-F.Int n) h = cc
forms_equal (Value-F.Rec ms) (Value-F.Tag n) h = cc
forms_equal (Value-F.Rec ms) (Value-F.Rec vs) h = ap Value-F.Rec (all_equal ms vs h)
forms_equal (Value-F.Rec ms) Value-F.None h = cc
forms_equal (Value-F.Rec ms) (Value-F.Some v) h = cc
forms_equal Value-F.None (Value-F.Elem n) h = cc
forms_equal Value-F.None (Value-F.Int n) h = cc
forms_equal Value-F.None (Value-F.Tag n) h = cc
forms_equal Value-F.None (Value-F.Rec vs) h = cc
forms_equal Value-F.None Value-F.None h = refl
forms_equal Value-F.None (Value-F.Some v) h = cc
forms_equal (Value-F.Some p) (Value-F.Elem n) h = cc
forms_equal (Value-F.Some p) (Value-F.Int n) h = cc
forms_equal (Value-F.Some p) (Value-F.Tag n) h = cc
forms_equal (Value-F.Some p) (Value-F.Rec vs) h = cc
forms_equal (Value-F.Some p) Value-F.None h = cc
forms_equal (Value-F.Some p) (Value-F.Some v) h = ap Value-F.Some (p.1.0 v h)

forms_told : (y : Value-F Told) → same_form (tests y) (parts y) ≡ true
forms_told (Value-F.Elem m) = eq-eqb m m refl
forms_told (Value-F.Int m) = so (Decides-int_eq m m) refl
forms_told (Value-F.Tag m) = eq-eqb m m refl
forms_told (Value-F.Rec ms) = all_told ms
forms_told Value-F.None = refl
forms_told (Value-F.Some p) = p.1.1

tells : (v : Value) → Tells (same_value v) v
tells = fold_related (Value → Bool) Tells (λ x v. same_form x (out-Value v)) (λ y. (
  (λ w h. ap roll-Value (forms_equal y (out-Value w) h) ∙ roll-out-Value w),
  rw (out-roll-Value (parts y)) (forms_told y),
))

pub same_equal : (v w : Value) → same_value v w ≡ true → v ≡ w
same_equal v w = (tells v).0 w

pub same_self : (v : Value) → same_value v v ≡ true
same_self v = (tells v).1

false_true : false ≡ true → ⊥
false_true h = cc

pub same_answer : (r : Bool) (v w : Value) → (IsTrue r ↔ (v ≡ w)) → r ≡ same_value v w
same_answer true v w h = sym (subst (λ u. same_value v u ≡ true) (h.0 refl) (same_self v))
same_answer false v w h = sym (false_from_ne_true (same_value v w) (λ e. false_true (h.1 (same_equal v w e))))

pub same_cell_equal : (c d : CellName) → same_cell c d ≡ true → c ≡ d
same_cell_equal c d h =
    let both = and_parts (c.state == d.state) (same_key c.key d.key) h in
    cells c d (eqb-true c.state d.state both.0) (keys c.key d.key both.1)
  where
    keys : (k l : Option Value) → same_key k l ≡ true → k ≡ l
    keys None None e = refl
    keys None (Some w) e = cc
    keys (Some v) None e = cc
    keys (Some v) (Some w) e = ap Some (same_equal v w e)

    cells : (x y : CellName) → x.state ≡ y.state → x.key ≡ y.key → x ≡ y
    cells x y e f = ap (λ n. record x { state = n }) e ∙ ap (λ k. record y { key = k }) f

pub same_cell_self : (c : CellName) → same_cell c c ≡ true
same_cell_self c = and_from (c.state == c.state) (same_key c.key c.key) (eq-eqb c.state c.state refl) (key_self c.key)
  where
    key_self : (k : Option Value) → same_key k k ≡ true
    key_self None = refl
    key_self (Some v) = same_self v
