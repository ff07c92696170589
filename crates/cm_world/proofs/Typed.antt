-- What a world's types give: one default for each state.
use Rattle.std.proofs.Common.{◌≡◌, ℕ, suc, true, List, [], ◌∷◌, map, length, Option, Some, None, slice_get, IsTrue}
use Rattle.std.proofs.Common.{refl, sym, ap, ◌∙◌}
use Rattle.std.proofs.lemmas.Bool.{and_parts}
use Rattle.cm_model.specs.Tables.{Tables}
use Rattle.cm_model.specs.declared.ty.Ty.{Ty}
use Rattle.cm_value.specs.Membership.{Member, member_of, are_members}
use Rattle.cm_eval.specs.State.{Store}
use Rattle.cm_world.specs.World.{IsStateOf}

as_many : (ms : List Member) (tys : List Ty) → are_members ms tys ≡ true → length ms ≡ length tys
as_many [] [] h = refl
as_many [] (ty ∷ tys) h = absurd (cc)
as_many (m ∷ ms) [] h = absurd (cc)
as_many (m ∷ ms) (ty ∷ tys) h = ap suc (as_many ms tys (and_parts (m ty) (are_members ms tys) h).1)

mapped : {X Y : Type 0} (f : X → Y) (xs : List X) → length (map f xs) ≡ length xs
mapped f [] = refl
mapped f (x ∷ xs) = ap suc (mapped f xs)

pub one_default_each : (t : Tables) (s : Store) → IsStateOf t s → length s.defaults ≡ length t.states
one_default_each t s is =
    sym (mapped (member_of t) s.defaults) ∙ as_many (map (member_of t) s.defaults) (map (λ d. d.value) t.states)
    is.defaults
    ∙ mapped (λ d. d.value) t.states
