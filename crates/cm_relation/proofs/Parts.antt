-- What the rules do with parts of an expression keeps the relation, where the parts do.
use Rattle.std.proofs.Common.{◌≡◌, ℕ, zero, suc, ◌≤◌, ◌==◌, Bool, true, false, not, ◌&&◌, ◌||◌, List, [], ◌∷◌, ◌++◌}
use Rattle.std.proofs.Common.{map, Option, Some, None, slice_get, refl, sym, subst, if◌then◌else◌, append_assoc}
use Rattle.std.proofs.lemmas.List.{append-nil}
use Rattle.std.proofs.lemmas.Bool.{and_parts}
use Rattle.cm_model.specs.Tables.{Tables}
use Rattle.cm_model.specs.Limits.{shift_limit}
use Rattle.cm_model.specs.Kinds.{Kind, Of, is_integer, bool_ty, field_of, type_at, type_of, same_type, are_comparable}
use Rattle.cm_model.specs.declared.ty.Ty.{Ty}
use Rattle.cm_model.specs.declared.body.Op.{Op}
use Rattle.cm_model.specs.declared.body.Op.TheVariants as op
use Rattle.cm_model.specs.declared.body.Call.{Call}
use Rattle.cm_model.proofs.KindParts.{given_some}
use Rattle.cm_code.specs.Rules.{Rules}
use Rattle.cm_code.specs.Language as language
use Rattle.cm_code.specs.Language.{Meaning, SetMeaning, Called}
use Rattle.cm_relation.specs.Relation.{Relation, KeepRelation, IfBoth, AreKeys, AreAll}
use Rattle.cm_relation.proofs.OneKind.{of_one_type, of_one}

module _ {t : Tables} {V O S V' O' S' : Type 0} {r : Rules V O S} {r' : Rules V' O' S'} {R : Relation V O S V' O' S'}
    (keep : KeepRelation t V O S V' O' S' r r' R) where
  abbrev pub AreLocals : List Ty → List V → List V' → Type 0
  AreLocals = AreAll R.value

  -- an expression with so many shifts comes to an operand of its kind
  abbrev pub Makes : List Ty → ℕ → Kind → Meaning V O S → Meaning V' O' S' → Type 0
  Makes ls n kind m m' = (locals : List V) (locals' : List V') (k : O → S) (k' : O' → S') → AreLocals ls locals locals'
      → ((o : O) (o' : O') → R.operand n kind o o' → R.doing (k o) (k' o')) → R.doing (m locals k) (m' locals' k')

  -- a function comes to a value of its reply type
  abbrev pub Answers : Call → Called V S → Called V' S' → Type 0
  Answers d f f' = (args : List V) (args' : List V') (k : V → S) (k' : V' → S')
      → AreLocals (map (λ p. p.ty) d.params) args args'
      → ((x : V) (x' : V') → R.value d.reply x x' → R.doing (k x) (k' x')) → R.doing (f args k) (f' args' k')

  pub given_related : {X X' : Type 0} (P : X → X' → Type 0) (o : Option X) (o' : Option X') (k : X → S) (k' : X' → S')
      → IfBoth P o o' → ((x : X) (x' : X') → P x x' → R.doing (k x) (k' x'))
      → R.doing (language.given V O S r o k) (language.given V' O' S' r' o' k')
  given_related P (Some x) (Some x') k k' is h = h x x' is
  given_related P None None k k' is h = keep.blocks
  given_related P (Some x) None k k' is h = absurd is
  given_related P None (Some x') k k' is h = absurd is

  pub valued_related : (ls : List Ty) (n : ℕ) (u : Ty) (m : Meaning V O S) (m' : Meaning V' O' S')
      → Makes ls n (Of u) m m' → (locals : List V) (locals' : List V') (k : V → S) (k' : V' → S')
      → AreLocals ls locals locals' → ((x : V) (x' : V') → R.value u x x' → R.doing (k x) (k' x'))
      → R.doing (language.valued V O S r m locals k) (language.valued V' O' S' r' m' locals' k')
  valued_related ls n u m m' makes locals locals' k k' are h =
      makes locals locals' (λ o. language.given V O S r (r.value o) k) (λ o. language.given V' O' S' r' (r'.value o) k')
      are (λ o o' is. given_related (R.value u) (r.value o) (r'.value o') k k' (keep.value n u o o' is) h)

  pub inspected_related : (ls : List Ty) (n : ℕ) (m : Meaning V O S) (m' : Meaning V' O' S') → n ≤ shift_limit
      → Makes ls n (Of bool_ty) m m' → (locals : List V) (locals' : List V') (k : Bool → S) (k' : Bool → S')
      → AreLocals ls locals locals' → ((b : Bool) → R.doing (k b) (k' b))
      → R.doing (language.inspected V O S r m locals k) (language.inspected V' O' S' r' m' locals' k')
  inspected_related ls n m m' few makes locals locals' k k' are h =
      makes locals locals' (λ o. r.inspects o k) (λ o. r'.inspects o k') are (λ o o' is.
      keep.inspects n o o' k k' few is h)

  -- the local at a place, on both sides
  pub local_related : (ls : List Ty) (locals : List V) (locals' : List V') (i : ℕ) (u : Ty)
      → AreLocals ls locals locals' → slice_get ls i ≡ Some u
      → IfBoth (R.value u) (slice_get locals i) (slice_get locals' i)
  local_related [] locals locals' i u are at = absurd (cc)
  local_related (w ∷ ls) (x ∷ locals) (x' ∷ locals') zero u are at =
      subst (λ y. R.value y x x') (of_one w u at) are.0
  local_related (w ∷ ls) (x ∷ locals) (x' ∷ locals') (suc i) u are at =
      local_related ls locals locals' i u are.1 at
  local_related (w ∷ ls) [] locals' i u are at = absurd are
  local_related (w ∷ ls) (x ∷ locals) [] i u are at = absurd are

  pub one_more : (ls : List Ty) (locals : List V) (locals' : List V') (u : Ty) (x : V) (x' : V')
      → AreLocals ls locals locals' → R.value u x x' → AreLocals (ls ++ u ∷ []) (locals ++ x ∷ []) (locals' ++ x' ∷ [])
  one_more [] [] [] u x x' are is = (is, tt)
  one_more [] [] (y' ∷ ys') u x x' are is = absurd are
  one_more [] (y ∷ ys) others u x x' are is = absurd are
  one_more (w ∷ ls) (y ∷ ys) (y' ∷ ys') u x x' are is = (are.0, one_more ls ys ys' u x x' are.1 is)
  one_more (w ∷ ls) [] others u x x' are is = absurd are
  one_more (w ∷ ls) (y ∷ ys) [] u x x' are is = absurd are

  -- operands of parts, in order
  abbrev pub EachMakes : List Ty → List Ty → List (Meaning V O S) → List (Meaning V' O' S') → Type 0
  EachMakes ls [] [] [] = Unit {0}
  EachMakes ls (u ∷ us) (m ∷ ms) (m' ∷ ms') = ((n : ℕ) × Makes ls n (Of u) m m') × EachMakes ls us ms ms'
  EachMakes ls [] [] (m' ∷ ms') = ⊥
  EachMakes ls [] (m ∷ ms) others = ⊥
  EachMakes ls (u ∷ us) [] others = ⊥
  EachMakes ls (u ∷ us) (m ∷ ms) [] = ⊥

  pub values_related : (ls us : List Ty) (ms : List (Meaning V O S)) (ms' : List (Meaning V' O' S'))
      → EachMakes ls us ms ms' → (locals before : List V) (locals' before' : List V') (k : List V → S)
      (k' : List V' → S') → AreLocals ls locals locals'
      → ((vs : List V) (vs' : List V') → AreAll R.value us vs vs' → R.doing (k (before ++ vs)) (k' (before' ++ vs')))
      → R.doing (language.values_of V O S r before ms locals k) (language.values_of V' O' S' r' before' ms' locals' k')
  values_related ls [] [] [] makes locals before locals' before' k k' are h =
      subst (λ vs. R.doing (k vs) (k' before')) (append-nil before)
      (subst (λ vs. R.doing (k (before ++ [])) (k' vs)) (append-nil before') (h [] [] tt))
  values_related ls (u ∷ us) (m ∷ ms) (m' ∷ ms') makes locals before locals' before' k k' are h =
      valued_related ls makes.0.0 u m m' makes.0.1 locals locals'
      (λ v. language.values_of V O S r (before ++ v ∷ []) ms locals k)
      (λ v. language.values_of V' O' S' r' (before' ++ v ∷ []) ms' locals' k') are (λ v v' is.
      values_related ls us ms ms' makes.1 locals (before ++ v ∷ []) locals' (before' ++ v' ∷ []) k k' are
      (λ vs vs' related.
      subst (λ xs. R.doing (k xs) (k' ((before' ++ v' ∷ []) ++ vs'))) (sym (append_assoc before (v ∷ []) vs))
      (subst (λ xs. R.doing (k (before ++ v ∷ vs)) (k' xs)) (sym (append_assoc before' (v' ∷ []) vs'))
      (h (v ∷ vs) (v' ∷ vs') (is, related)))))
  values_related ls [] [] (m' ∷ ms') makes locals before locals' before' k k' are h = absurd makes
  values_related ls [] (m ∷ ms) others makes locals before locals' before' k k' are h = absurd makes
  values_related ls (u ∷ us) [] others makes locals before locals' before' k k' are h = absurd makes
  values_related ls (u ∷ us) (m ∷ ms) [] makes locals before locals' before' k k' are h = absurd makes

  -- bools, in order
  abbrev pub AllMake : List Ty → List (Meaning V O S) → List (Meaning V' O' S') → Type 0
  AllMake ls [] [] = Unit {0}
  AllMake ls (m ∷ ms) (m' ∷ ms') = ((n : ℕ) × (n ≤ shift_limit) × Makes ls n (Of bool_ty) m m') × AllMake ls ms ms'
  AllMake ls [] (m' ∷ ms') = ⊥
  AllMake ls (m ∷ ms) [] = ⊥

  pub all_related : (ls : List Ty) (ms : List (Meaning V O S)) (ms' : List (Meaning V' O' S')) → AllMake ls ms ms'
      → (locals : List V) (locals' : List V') (k : Bool → S) (k' : Bool → S') → AreLocals ls locals locals'
      → ((b : Bool) → R.doing (k b) (k' b))
      → R.doing (language.all_of V O S r ms locals k) (language.all_of V' O' S' r' ms' locals' k')
  all_related ls [] [] makes locals locals' k k' are h = h true
  all_related ls (m ∷ ms) (m' ∷ ms') makes locals locals' k k' are h =
      inspected_related ls makes.0.0 m m' makes.0.1 makes.0.2 locals locals'
      (λ s. if s then language.all_of V O S r ms locals k else k false)
      (λ s. if s then language.all_of V' O' S' r' ms' locals' k' else k' false)
      are (by (all_related ls ms ms' makes.1 locals locals' k k' are h))
    where
      by : R.doing (language.all_of V O S r ms locals k) (language.all_of V' O' S' r' ms' locals' k') → (b : Bool)
          → R.doing (if b then language.all_of V O S r ms locals k else k false)
          (if b then language.all_of V' O' S' r' ms' locals' k' else k' false)
      by more true = more
      by more false = h false
  all_related ls [] (m' ∷ ms') makes locals locals' k k' are h = absurd makes
  all_related ls (m ∷ ms) [] makes locals locals' k k' are h = absurd makes

  pub any_related : (ls : List Ty) (ms : List (Meaning V O S)) (ms' : List (Meaning V' O' S')) → AllMake ls ms ms'
      → (locals : List V) (locals' : List V') (k : Bool → S) (k' : Bool → S') → AreLocals ls locals locals'
      → ((b : Bool) → R.doing (k b) (k' b))
      → R.doing (language.any_of V O S r ms locals k) (language.any_of V' O' S' r' ms' locals' k')
  any_related ls [] [] makes locals locals' k k' are h = h false
  any_related ls (m ∷ ms) (m' ∷ ms') makes locals locals' k k' are h =
      inspected_related ls makes.0.0 m m' makes.0.1 makes.0.2 locals locals'
      (λ s. if s then k true else language.any_of V O S r ms locals k)
      (λ s. if s then k' true else language.any_of V' O' S' r' ms' locals' k')
      are (by (any_related ls ms ms' makes.1 locals locals' k k' are h))
    where
      by : R.doing (language.any_of V O S r ms locals k) (language.any_of V' O' S' r' ms' locals' k') → (b : Bool)
          → R.doing (if b then k true else language.any_of V O S r ms locals k)
          (if b then k' true else language.any_of V' O' S' r' ms' locals' k')
      by more true = h true
      by more false = more
  any_related ls [] (m' ∷ ms') makes locals locals' k k' are h = absurd makes
  any_related ls (m ∷ ms) [] makes locals locals' k k' are h = absurd makes

  -- one field on both sides for each set, and its new value
  abbrev pub SetMakes : List Ty → Ty → SetMeaning V O S → SetMeaning V' O' S' → Type 0
  SetMakes ls u m m' = (w : Ty) × (n : ℕ) × (m.0 ≡ m'.0) × (field_of t u m.0 ≡ Some w) × Makes ls n (Of w) m.1 m'.1

  abbrev pub SetsMake : List Ty → Ty → List (SetMeaning V O S) → List (SetMeaning V' O' S') → Type 0
  SetsMake ls u [] [] = Unit {0}
  SetsMake ls u (m ∷ ms) (m' ∷ ms') = SetMakes ls u m m' × SetsMake ls u ms ms'
  SetsMake ls u [] (m' ∷ ms') = ⊥
  SetsMake ls u (m ∷ ms) [] = ⊥

  pub sets_related : (ls : List Ty) (u : Ty) (ms : List (SetMeaning V O S)) (ms' : List (SetMeaning V' O' S'))
      → SetsMake ls u ms ms' → (locals : List V) (locals' : List V') (x : V) (x' : V') (k : V → S) (k' : V' → S')
      → AreLocals ls locals locals' → R.value u x x' → ((y : V) (y' : V') → R.value u y y' → R.doing (k y) (k' y'))
      → R.doing (language.sets_of V O S r x ms locals k) (language.sets_of V' O' S' r' x' ms' locals' k')
  sets_related ls u [] [] makes locals locals' x x' k k' are is h = h x x' is
  sets_related ls u (m ∷ ms) (m' ∷ ms') makes locals locals' x x' k k' are is h =
      let one = makes.0 in
      valued_related ls one.1 one.0 m.1 m'.1 one.4 locals locals'
      (λ w. language.given V O S r (r.with_field x m.0 w) (λ y. language.sets_of V O S r y ms locals k))
      (λ w. language.given V' O' S' r' (r'.with_field x' m'.0 w) (λ y. language.sets_of V' O' S' r' y ms' locals' k'))
      are (λ w w' new.
      given_related (R.value u) (r.with_field x m.0 w) (r'.with_field x' m'.0 w')
      (λ y. language.sets_of V O S r y ms locals k) (λ y. language.sets_of V' O' S' r' y ms' locals' k')
      (subst (λ i. IfBoth (R.value u) (r.with_field x m.0 w) (r'.with_field x' i w')) one.2
      (keep.with_field u one.0 x x' m.0 w w' is one.3 new)) (λ y y' made.
      sets_related ls u ms ms' makes.1 locals locals' y y' k k' are made h))
  sets_related ls u [] (m' ∷ ms') makes locals locals' x x' k k' are is h = absurd makes
  sets_related ls u (m ∷ ms) [] makes locals locals' x x' k k' are is h = absurd makes

  -- the value at the end of a path of fields
  pub path_related : (path : List ℕ) (u w : Ty) (o : Option V) (o' : Option V') → IfBoth (R.value u) o o'
      → type_at t u path ≡ Some w
      → IfBoth (R.value w) (language.value_at V O S r o path) (language.value_at V' O' S' r' o' path)
  path_related [] u w o o' is end = subst (λ y. IfBoth (R.value y) o o') (of_one u w end) is
  path_related (i ∷ path) u w (Some x) (Some x') is end =
      let next = given_some (field_of t u i) (λ y. type_at t y path) w end in
      path_related path next.0 w (r.field x i) (r'.field x' i) (keep.field u next.0 x x' i is next.1) next.2
  path_related (i ∷ path) u w None None is end =
      let next = given_some (field_of t u i) (λ y. type_at t y path) w end in
      path_related path next.0 w None None tt next.2
  path_related (i ∷ path) u w (Some x) None is end = absurd is
  path_related (i ∷ path) u w None (Some x') is end = absurd is

  -- a key of the type of a cell
  abbrev pub KeyMakes : List Ty → Option Ty → Option (Meaning V O S) → Option (Meaning V' O' S') → Type 0
  KeyMakes ls None None None = Unit {0}
  KeyMakes ls (Some u) (Some m) (Some m') = (n : ℕ) × Makes ls n (Of u) m m'
  KeyMakes ls None None (Some m') = ⊥
  KeyMakes ls None (Some m) other = ⊥
  KeyMakes ls (Some u) None other = ⊥
  KeyMakes ls (Some u) (Some m) None = ⊥

  pub keyed_related : (ls : List Ty) (key : Option Ty) (m : Option (Meaning V O S)) (m' : Option (Meaning V' O' S'))
      → KeyMakes ls key m m' → (locals : List V) (locals' : List V') (k : Option V → S) (k' : Option V' → S')
      → AreLocals ls locals locals'
      → ((c : Option V) (c' : Option V') → AreKeys R.value key c c' → R.doing (k c) (k' c'))
      → R.doing (language.keyed V O S r m locals k) (language.keyed V' O' S' r' m' locals' k')
  keyed_related ls None None None makes locals locals' k k' are h = h None None tt
  keyed_related ls (Some u) (Some m) (Some m') makes locals locals' k k' are h =
      valued_related ls makes.0 u m m' makes.1 locals locals' (λ v. k (Some v)) (λ v. k' (Some v)) are (λ v v' is.
      h (Some v) (Some v') is)
  keyed_related ls None None (Some m') makes locals locals' k k' are h = absurd makes
  keyed_related ls None (Some m) other makes locals locals' k k' are h = absurd makes
  keyed_related ls (Some u) None other makes locals locals' k k' are h = absurd makes
  keyed_related ls (Some u) (Some m) None makes locals locals' k k' are h = absurd makes

  -- two operands that may be compared
  module _ (m n : ℕ) (few : m ≤ shift_limit) (fewer : n ≤ shift_limit) (j l : Kind) (x : O) (x' : O') (y : O) (y' : O')
      (left : R.operand m j x x') (right : R.operand n l y y') where
    compares_related : (k : Bool → S) (k' : Bool → S')
        → ((is_integer (Some j) && is_integer (Some l)) || same_type (type_of (Some j)) (type_of (Some l))) ≡ true
        → ((b : Bool) → R.doing (k b) (k' b)) → R.doing (r.compares x y k) (r'.compares x' y' k')
    compares_related k k' fits h = by (is_integer (Some j) && is_integer (Some l)) refl fits
      where
        by : (b : Bool) → (is_integer (Some j) && is_integer (Some l)) ≡ b
            → (b || same_type (type_of (Some j)) (type_of (Some l))) ≡ true
            → R.doing (r.compares x y k) (r'.compares x' y' k')
        by true both e =
            let are = and_parts (is_integer (Some j)) (is_integer (Some l)) both in
            keep.compares_numbers m n j l x x' y y' k k' few fewer are.0 are.1 left right h
        by false both e =
            let one = of_one_type j l e in
            keep.compares_values m n one.0 x x' y y' k k' few fewer (subst (λ z. R.operand m z x x') one.1 left)
            (subst (λ z. R.operand n z y y') one.2 right) h

    orders_related : (k : ℕ → S) (k' : ℕ → S') → (is_integer (Some j) && is_integer (Some l)) ≡ true
        → ((d : ℕ) → R.doing (k d) (k' d)) → R.doing (r.orders x y k) (r'.orders x' y' k')
    orders_related k k' fits h =
        let are = and_parts (is_integer (Some j)) (is_integer (Some l)) fits in
        keep.orders m n j l x x' y y' k k' few fewer are.0 are.1 left right h

    pub compares_by_related : (o : Op) (k : Bool → S) (k' : Bool → S') → are_comparable o (Some j) (Some l) ≡ true
        → ((b : Bool) → R.doing (k b) (k' b))
        → R.doing (language.compares_by V O S r o x y k) (language.compares_by V' O' S' r' o x' y' k')
    compares_by_related op.Eq k k' fits h = compares_related k k' fits h
    compares_by_related op.Ne k k' fits h = compares_related (λ s. k (not s)) (λ s. k' (not s)) fits (λ s. h (not s))
    compares_by_related op.Lt k k' fits h = orders_related (λ d. k (d == 0)) (λ d. k' (d == 0)) fits (λ d. h (d == 0))
    compares_by_related op.Le k k' fits h = orders_related (λ d. k (not (d == 2))) (λ d. k' (not (d == 2))) fits
        (λ d. h (not (d == 2)))
    compares_by_related op.Gt k k' fits h = orders_related (λ d. k (d == 2)) (λ d. k' (d == 2)) fits (λ d. h (d == 2))
    compares_by_related op.Ge k k' fits h = orders_related (λ d. k (not (d == 0))) (λ d. k' (not (d == 0))) fits
        (λ d. h (not (d == 0)))
