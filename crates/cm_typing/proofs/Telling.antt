-- What is told of one thing after another.
use Rattle.std.proofs.Common.{◌≡◌, ℕ, ◌<◌, leb, Bool, true, false, List, [], Option, Some, None, Result, Ok, Err}
use Rattle.std.proofs.Common.{if◌then◌else◌, refl, sym, ap, subst, ◌∙◌}
use Rattle.cm_model.specs.declared.place.Place.{Place}
use Rattle.cm_syntax.specs.declared.tree.Part.{Part}
use Rattle.cm_syntax.specs.declared.tree.«Type».{«Type» as TypeTree}
use Rattle.cm_syntax.specs.declared.tree.Block.{Block}
use Rattle.cm_typing.specs.declared.fault.TypeFault.{TypeFault}
use Rattle.cm_typing.specs.declared.fault.TypeFault.TheVariants.{Rule}
use Rattle.cm_typing.specs.declared.flat.Flat.{Flat}
use Rattle.cm_typing.specs.declared.scope.Scope.{Scope}
use Rattle.cm_typing.specs.declared.told.Body.{Body}
use Rattle.cm_typing.specs.declared.told.Params.{Params}
use Rattle.cm_typing.specs.Told.{Told, Broken, Answers, given, rule, fine, first}
use Rattle.cm_typing.specs.Names.{Names}
use Rattle.cm_typing.specs.Types.{type_told}
use Rattle.cm_typing.specs.Declarations.{all_params_told, body_told, routine_told, routine, reply_in, no_params}
use Rattle.cm_typing.specs.Declarations.{weight_of}
use Rattle.cm_typing.specs.Counts.{counted}
use Rattle.cm_typing.specs.Rules as rules
use Rattle.cm_typing.proofs.Counting.{counted_over}

pub thus : {X Y : Type 0} (t : Told X) (x : X) (next : X → Told Y) (r : Told Y) → t ≡ (x, []) → next x ≡ r
    → given t next ≡ r
thus t x next r e h = subst (λ u. given u next ≡ r) (sym e) h

abbrev pub Taken : Type 0
Taken = ℕ × Params × Names

-- a function or a call from its parts
pub routine_thus : (n : List ℕ) (ps qs : List Part) (r : TypeTree) (b : Block) (s : Scope) (p : Taken)
    (t : Option Flat) (body : Body)
    → all_params_told ps qs no_params s [] ≡ (p, []) → type_told r s.names ≡ (t, [])
    → body_told b (reply_in s t) p.2 ≡ (body, [])
    → routine_told n ps qs r b s ≡ (routine n p.0 p.1 t body, [])
routine_thus n ps qs r b s p t body e f g =
    thus (all_params_told ps qs no_params s []) p
    (λ p. given (type_told r s.names) (λ t. given (body_told b (reply_in s t) p.2) (λ body.
    fine (routine n p.0 p.1 t body)))) _ e
    (thus (type_told r s.names) t (λ t. given (body_told b (reply_in s t) p.2) (λ body.
    fine (routine n p.0 p.1 t body))) _ f
    (thus (body_told b (reply_in s t) p.2) body (λ body. fine (routine n p.0 p.1 t body)) _ g refl))

-- a body that is too heavy
pub weight_refused : (w m : ℕ) (at : Place) (e : TypeFault) → m ≡ counted w → 100000 < m → e ≡ Rule rules.heavy at
    → Answers {Y = ℕ} (weight_of w at) (λ v. v) (Err e)
weight_refused w m at e h over is =
    subst (λ (x : TypeFault). Answers {Y = ℕ} (weight_of w at) (λ v. v) (Err x)) (sym is)
    (subst (λ b. first (given (rule b rules.heavy at) (λ u.
    fine w)).1 ≡ Some (record { code = rules.heavy; place = at })) (sym (counted_over w (subst (λ n.
    100000 < n) h over))) refl)
