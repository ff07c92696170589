-- Which of the equalities that a path needs are printed.
use Rattle.std.specs.Prelude.{◌≡◌, ◌≢◌, ◌↔◌, ◌⊎◌, ℕ, List, [], ◌∷◌, ◌++◌, slice_get, Some}
use Rattle.std.specs.List.{AllByRecursion}
use Rattle.cm_term.specs.declared.question.Equal.{Equal}
use Rattle.cm_term.specs.declared.question.Equal.TheVariants as equal
use Rattle.cm_term.specs.declared.question.Question.TheVariants as question
use Rattle.cm_term.specs.declared.question.Fact.{Fact}
use Rattle.cm_term.specs.Valuation.{Valuation}
use Rattle.cm_term.specs.Questions.{outcome_under, AreEqual, IsTold}
use Rattle.cm_ctx.specs.Contexts.{Context, Satisfies}

-- an equality as a fact
abbrev pub fact_of : Equal → Fact
fact_of (equal.Elems x y) = record { question = question.Elems x y; outcome = 0 }
fact_of (equal.Nums a b) = record { question = question.Nums a b; outcome = 1 }

abbrev pub AllTold : Valuation → List Fact → Type 0
AllTold v = AllByRecursion (IsTold v)

-- behind what is known and these facts a valuation gives this one's question another outcome
pub record IsStillOpen (c : Context) (before : List Fact) (f : Fact) : Type 0 where
  pub valuation : Valuation
  pub satisfies : Satisfies c valuation
  pub told : AllTold valuation before
  pub differs : outcome_under valuation f.question ≢ f.outcome

-- of the equalities those that do not follow from what is known and from the ones before: each is one of them and was
-- still open, together they say all that the equalities say, and some valuation has them all
pub record ArePicked (c : Context) (es : List Equal) (picked : List Fact) : Type 0 where
  pub among : AllByRecursion (λ f. (i : ℕ) × (e : Equal) × (slice_get es i ≡ Some e) × (f ≡ fact_of e)) picked
  pub says : (v : Valuation) → Satisfies c v → AllTold v picked ↔ AllByRecursion (AreEqual v) es
  pub were_open : (before : List Fact) (f : Fact) (after : List Fact) → picked ≡ before ++ f ∷ after
      → IsStillOpen c before f
  pub some : (v : Valuation) × Satisfies c v × AllTold v picked

-- what is known and these facts make the fact so
abbrev pub FollowsFrom : Context → List Fact → Fact → Type 0
FollowsFrom c before f = (v : Valuation) → Satisfies c v → AllTold v before → IsTold v f

-- each equality in turn is left out where it follows from what is known and from the facts before it, and is the next
-- fact where it was still open
abbrev pub ArePickedInTurn : Context → List Fact → List Equal → List Fact → Type 0
ArePickedInTurn c before [] picked = picked ≡ []
ArePickedInTurn c before (e ∷ es) picked =
    (FollowsFrom c before (fact_of e) × ArePickedInTurn c before es picked)
    ⊎ (IsStillOpen c before (fact_of e) × (rest : List Fact) × (picked ≡ fact_of e ∷ rest)
    × ArePickedInTurn c (before ++ fact_of e ∷ []) es rest)
