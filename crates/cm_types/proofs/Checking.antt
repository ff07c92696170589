-- From the answer of a walk to that of a whole check.
use Rattle.std.proofs.Common.{◌≡◌, ℕ, zero, suc, ◌+◌, ◌≤◌, ◌<◌, ◌&&◌, leb, Bool, true, false, IsTrue, List, [], ◌∷◌}
use Rattle.std.proofs.Common.{◌++◌, length, slice_get, Option, Some, None, Result, Ok, Err, refl, sym, ap, ◌∙◌, subst}
use Rattle.std.proofs.Common.{arith}
use Rattle.std.specs.List.{list_all}
use Rattle.std.proofs.lemmas.Bool.{and_parts}
use Rattle.std.proofs.lemmas.List.{length-append}
use Rattle.std.proofs.lemmas.Option.{slice_get_within}
use Rattle.cm_model.specs.Tables.{Tables}
use Rattle.cm_model.specs.Types.{IsType, is_type_before, is_type_in_use, width_of, integers_of}
use Rattle.cm_model.specs.WellTyped.{IsWellTyped, is_state, is_key_type, is_invariant}
use Rattle.cm_model.specs.declared.place.Place.{Place}
use Rattle.cm_model.specs.declared.body.StateDecl.{StateDecl}
use Rattle.cm_value.specs.Least.{least_of}
use Rattle.cm_eval.specs.Invariant.{MeetsInvariant, invariant_holds, declared_invariant}
use Rattle.cm_syntax.specs.declared.tree.Decl.{Decl}
use Rattle.cm_syntax.specs.declared.tree.Decl.TheVariants as decl
use Rattle.cm_syntax.specs.declared.tree.Tree.{Tree}
use Rattle.cm_typing.specs.declared.fault.TypeFault.{TypeFault}
use Rattle.cm_typing.specs.declared.fault.TypeFault.TheVariants.{Rule, Memory}
use Rattle.cm_typing.specs.declared.scope.Scope.{Scope}
use Rattle.cm_typing.specs.declared.scope.Draft.{Draft}
use Rattle.cm_typing.specs.Told.{Told, Broken, Answers, rule, first}
use Rattle.cm_typing.specs.Declarations.{decl_told, decls_told, no_names, no_tables, tables_of, faults_of}
use Rattle.cm_types.specs.LeastValues.{declared_meets, meets_least, with_state, with_states, state_places, least_told}
use Rattle.cm_types.specs.LeastValues.{or_least, all_faults_of, IsWalked, IsModelOf, LeastMeet}
use Rattle.cm_typing.specs.Rules as rules
use Rattle.cm_types.proofs.Items.{no_more, holds}

all_at : {X : Type 0} (p : X → Bool) (xs : List X) (i : ℕ) (x : X) → list_all p xs ≡ true → slice_get xs i ≡ Some x
    → p x ≡ true
all_at p [] i x h e = absurd cc
all_at p (y ∷ xs) zero x h e = let same : y ≡ x = cc in subst (λ z. p z ≡ true) same
    (and_parts (p y) (list_all p xs) h).0
all_at p (y ∷ xs) (suc i) x h e = all_at p xs i x (and_parts (p y) (list_all p xs) h).1 e

-- the type of a state's cells
pub state_type : (t : Tables) → IsWellTyped t → (i : ℕ) (d : StateDecl) → slice_get t.states i ≡ Some d
    → IsType t d.value
state_type t typed i d at =
    let whole = and_parts (is_key_type t d.key) _ (all_at (is_state t) t.states i d typed.cells at) in
    let value = and_parts (is_type_in_use t d.value) (is_invariant t d.value d.inv) whole.1 in
    (and_parts (is_type_before t (length t.records) d.value) (leb (width_of t d.value) 32 && leb
    (integers_of t d.value) 6) value.0).0

-- The states of a tree stand in its tables, one for each place

one_longer : {X Y : Type 0} (xs : List X) (x : X) (ys : List Y) (y : Y) → length xs ≡ length ys
    → length (xs ++ x ∷ []) ≡ length (ys ++ y ∷ [])
one_longer xs x ys y e = omega (arith, e, length-append xs (x ∷ []), length-append ys (y ∷ []))

state_counted : (x : Decl) (s : Scope) (d : Draft) (places : List Place) → length places ≡ length d.states
    → length (with_state places x) ≡ length (decl_told x s d).0.1.states
state_counted (decl.Sort at n) s d places h = h
state_counted (decl.Int at n low high) s d places h = h
state_counted (decl.Enum at n v vs) s d places h = h
state_counted (decl.Record at n p ps) s d places h = h
state_counted (decl.Cell at n v) s d places h = one_longer places at d.states _ h
state_counted (decl.CellWhere at n v e) s d places h = one_longer places at d.states _ h
state_counted (decl.Map at n k v) s d places h = one_longer places at d.states _ h
state_counted (decl.MapWhere at n k v e) s d places h = one_longer places at d.states _ h
state_counted (decl.Function at n ps r b) s d places h = h
state_counted (decl.Call at n ps qs r b) s d places h = h

states_counted : (xs : List Decl) (s : Scope) (d : Draft) (places : List Place) → length places ≡ length d.states
    → length (with_states places xs) ≡ length (decls_told xs s d).0.1.states
states_counted [] s d places h = h
states_counted (x ∷ xs) s d places h =
    let e = (decl_told x s d).0 in states_counted xs e.0 e.1 (with_state places x) (state_counted x s d places h)

pub places_counted : (tree : Tree) → length (state_places tree) ≡ length (tables_of tree).states
places_counted tree = states_counted (tree.first ∷ tree.more) (no_names tree.at) no_tables [] refl

-- where the rule does not fail, each least value satisfies its invariant
each_meets : (t : Tables) (places : List Place) (n : ℕ) → (least_told t n places).1 ≡ [] → (i : ℕ) → i < length places
    → meets_least t (n + i) ≡ true
each_meets t [] n h i lt = absurd (omega arith)
each_meets t (at ∷ places) n h zero lt =
    let p = no_more (rule (meets_least t n) rules.least at).1 _ h in
    ap (meets_least t) (nought n) ∙ holds (meets_least t n) rules.least at p.0
  where
    nought : (n : ℕ) → n + 0 ≡ n
    nought n = omega arith
each_meets t (at ∷ places) n h (suc i) lt =
    let p = no_more (rule (meets_least t n) rules.least at).1 _ h in
    ap (meets_least t) (moved n i) ∙ each_meets t places (n + 1) p.1 i (omega arith)
  where
    moved : (n i : ℕ) → n + suc i ≡ n + 1 + i
    moved n i = omega arith

is_so : (b : Bool) → b ≡ true → IsTrue b
is_so b e = e

pub least_meet : (tree : Tree) → (least_told (tables_of tree) 0 (state_places tree)).1 ≡ [] → LeastMeet (tables_of tree)
least_meet tree h n d at =
    let t = tables_of tree in
    let lt : n < length (state_places tree) = omega (arith, places_counted tree, slice_get_within t.states n d at) in
    let so : declared_meets t (Some d) ≡ true =
    sym (ap (declared_meets t) at) ∙ ap (meets_least t) (nought n) ∙ each_meets t (state_places tree) 0 h n lt in
    is_so (invariant_holds t.ints (declared_invariant (slice_get t.states n)) (least_of t d.value))
    (ap (λ o. invariant_holds t.ints (declared_invariant o) (least_of t d.value)) at ∙ so)
  where
    nought : (n : ℕ) → n ≡ 0 + n
    nought n = omega arith

-- The answer of the whole

pub walked_refused : (tree : Tree) (e : TypeFault) → IsWalked tree (Err e) → IsModelOf tree (Err e)
walked_refused tree Memory h = tt
walked_refused tree (Rule code at) h = by (faults_of tree) h
  where
    by : (fs : List Broken) → first fs ≡ Some (record { code = code; place = at })
        → first (or_least tree fs) ≡ Some (record { code = code; place = at })
    by [] h = absurd cc
    by (b ∷ fs) h = h

pub least_refused : (tree : Tree) (t : Tables) (e : TypeFault) → IsWalked tree (Ok t)
    → Answers {Y = Unit {0}} (least_told t 0 (state_places tree)) (λ u. u) (Err e) → IsModelOf tree (Err e)
least_refused tree t Memory w h = tt
least_refused tree t (Rule code at) w h =
    ap (λ fs. first (or_least tree fs)) w.0 ∙ ap (λ t. first (least_told t 0 (state_places tree)).1) (sym w.1) ∙ h

pub accepted : (tree : Tree) (t : Tables) → IsWalked tree (Ok t)
    → Answers {Y = Unit {0}} (least_told t 0 (state_places tree)) (λ u. u) (Ok tt) → IsModelOf tree (Ok t) × LeastMeet t
accepted tree t w h =
    let none : (least_told (tables_of tree) 0 (state_places tree)).1 ≡ [] =
    ap (λ t. (least_told t 0 (state_places tree)).1) (sym w.1) ∙ ap (λ (x : Told (Unit {0})). x.1) h in
    ((ap (or_least tree) w.0 ∙ none, w.1), subst LeastMeet (sym w.1) (least_meet tree none))
