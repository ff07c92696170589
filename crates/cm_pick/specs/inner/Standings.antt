-- How an equality stands to what is known, and what is picked next.
use Rattle.std.specs.Prelude.{◌≡◌, ◌≢◌, ◌⊎◌, ℕ, Bool, true, false, List, [], ◌∷◌, ◌++◌, length}
use Rattle.cm_term.specs.declared.question.Equal.{Equal}
use Rattle.cm_term.specs.declared.question.Equal.TheVariants as equal
use Rattle.cm_term.specs.declared.question.Fact.{Fact}
use Rattle.cm_term.specs.Questions.{outcome_under, AreEqual}
use Rattle.cm_ctx.specs.Masks.{Has}
use Rattle.cm_ctx.specs.Contexts.{Context, Allows, Implies, Keeps}
use Rattle.cm_pick.specs.Picking.{fact_of}
use Rattle.cm_pick.specs.declared.standing.Standing.{Standing}
use Rattle.cm_pick.specs.declared.standing.Standing.TheVariants as standing

-- an outcome is there with which the equality fails
abbrev pub HasOther : ℕ → Equal → Type 0
HasOther mask (equal.Elems x y) = Has mask 1
HasOther mask (equal.Nums a b) = Has mask 0 ⊎ Has mask 2

abbrev pub MayHold : Context → Equal → Type 0
MayHold c e = Allows c (λ v. AreEqual v e)

abbrev pub MayFail : Context → Equal → Type 0
MayFail c e = Allows c (λ v. outcome_under v (fact_of e).question ≢ (fact_of e).outcome)

abbrev pub IsImplied : Context → Equal → Type 0
IsImplied c e = Implies c (λ v. AreEqual v e)

abbrev pub IsStanding : Context → Equal → Standing → Type 0
IsStanding c e standing.Impossible = MayHold c e → ⊥
IsStanding c e standing.Implied = MayHold c e × IsImplied c e
IsStanding c e standing.Undecided = MayHold c e × MayFail c e

-- the new list has the equality's fact where the equality does not follow
abbrev pub IsPickedNext : Context → Equal → List Fact → List Fact → Type 0
IsPickedNext c e before after = (IsImplied c e × (after ≡ before)) ⊎ (MayFail c e × (after ≡ before ++ fact_of e ∷ []))

-- what is so behind one equality more, by whether it can be
abbrev pub IsNext : Context → Context → Equal → List Fact → List Fact → Bool → Type 0
IsNext old new e before after true =
    MayHold old e × IsPickedNext old e before after × Keeps old new (λ v. AreEqual v e)
IsNext old new e before after false = MayHold old e → ⊥

-- the variables are the same
pub record HasVariablesOf (old new : Context) : Type 0 where
  pub pieces : new.pieces ≡ old.pieces
  pub sorts : new.classes.sorts ≡ old.classes.sorts
  pub bounds : length new.bounds ≡ length old.bounds
  pub tags : length new.tags ≡ length old.tags
  pub options : length new.options ≡ length old.options
