-- The world of least values.
use Rattle.std.proofs.Common.{◌≡◌, true, List, [], ◌∷◌, map, length, slice_get, Some, refl, ap, ◌∙◌}
use Rattle.std.specs.List.{AllByRecursion, list_all}
use Rattle.std.proofs.lemmas.Bool.{and_parts, and_from}
use Rattle.cm_model.specs.Tables.{Tables}
use Rattle.cm_model.specs.Types.{IsType, is_type_before, is_type_in_use}
use Rattle.cm_model.specs.WellTyped.{IsWellTyped, is_state, is_key_type}
use Rattle.cm_model.specs.declared.ty.Ty.{Ty}
use Rattle.cm_model.specs.declared.ty.Part.{Part}
use Rattle.cm_model.specs.declared.body.Call.{Call}
use Rattle.cm_model.specs.declared.body.StateDecl.{StateDecl}
use Rattle.cm_model.specs.declared.pair.Pair.{Pair}
use Rattle.cm_value.specs.Least.{least_of}
use Rattle.cm_value.specs.Membership.{is_value_of, are_values_of}
use Rattle.cm_value.proofs.LeastMember.{least_is_value}
use Rattle.cm_eval.specs.State.{least_store}
use Rattle.cm_world.specs.declared.world.World.{World}
use Rattle.cm_world.specs.World.{IsWorldOf, are_arguments_in}
use Rattle.cm_beside.proofs.Worlds.{parameters}

each_mapped : {X Y : Type 0} (P : Y → Type 0) (f : X → Y) (xs : List X) → AllByRecursion P (map f xs)
    → AllByRecursion (λ x. P (f x)) xs
each_mapped P f [] h = tt
each_mapped P f (x ∷ xs) h = (h.0, each_mapped P f xs h.1)

module _ (t : Tables) (typed : IsWellTyped t) where
  least_each : {X : Type 0} (f : X → Ty) (xs : List X) → AllByRecursion (λ x. IsType t (f x)) xs
      → are_values_of t (map f xs) (map (λ x. least_of t (f x)) xs) ≡ true
  least_each f [] h = refl
  least_each f (x ∷ xs) h =
      and_from (is_value_of t (f x) (least_of t (f x))) _ (least_is_value t typed (f x) h.0) (least_each f xs h.1)

  states_declared : (ss : List StateDecl) → list_all (is_state t) ss ≡ true
      → AllByRecursion (λ (d : StateDecl). IsType t d.value) ss
  states_declared [] h = tt
  states_declared (d ∷ ss) h =
      let both = and_parts (is_state t d) (list_all (is_state t) ss) h in
      let used = (and_parts (is_type_in_use t d.value) _ (and_parts (is_key_type t d.key) _ both.0).1).0 in
      ((and_parts (is_type_before t (length t.records) d.value) _ used).0, states_declared ss both.1)

  pub least_defaults : are_values_of t (map (λ (d : StateDecl). d.value) t.states)
      (map (λ (d : StateDecl). least_of t d.value) t.states) ≡ true
  least_defaults = least_each (λ (d : StateDecl). d.value) t.states (states_declared t.states typed.cells)

  pub some_world : (p : Pair) (a b : Call) → slice_get t.calls p.a ≡ Some a → slice_get t.calls p.b ≡ Some b
      → (u : World) × IsWorldOf t p u
  some_world p a b at_a at_b = (
    record {
      init = least_store t;
      a = record { vals = map (λ (q : Part). least_of t q.ty) a.params };
      b = record { vals = map (λ (q : Part). least_of t q.ty) b.params };
    },
    record {
      init = record { defaults = least_defaults; exceptions = refl; apart = refl };
      a = ap (λ c. are_arguments_in t c (map (λ (q : Part). least_of t q.ty) a.params)) at_a
          ∙ least_each (λ (q : Part). q.ty) a.params (each_mapped (IsType t) (λ (q : Part). q.ty) a.params
          (parameters t typed p a b at_a at_b [] tt a p.a at_a));
      b = ap (λ c. are_arguments_in t c (map (λ (q : Part). least_of t q.ty) b.params)) at_b
          ∙ least_each (λ (q : Part). q.ty) b.params (each_mapped (IsType t) (λ (q : Part). q.ty) b.params
          (parameters t typed p a b at_a at_b [] tt b p.b at_b));
    },
  )
