-- What is so of what is kept after some decisions of a pair.
use Rattle.std.specs.Prelude.{◌≡◌, ◌≢◌, ◌<◌, ◌↔◌, ◌⊎◌, ℕ, List, [], ◌∷◌, ◌++◌, length, Some}
use Rattle.cm_model.specs.Tables.{Tables}
use Rattle.cm_model.specs.declared.pair.Pair.{Pair}
use Rattle.cm_term.specs.declared.question.Question.{Question}
use Rattle.cm_term.specs.declared.question.Fact.{Fact}
use Rattle.cm_term.specs.Valuation.{Valuation}
use Rattle.cm_term.specs.Questions.{outcome_under}
use Rattle.cm_cells.specs.CellTable.{Place}
use Rattle.cm_ctx.specs.declared.piece.Piece.{Piece}
use Rattle.cm_ctx.specs.Making.{first_counts}
use Rattle.cm_ctx.specs.Contexts.{Context, counts_of, IsQuestion}
use Rattle.cm_ctx.specs.Contexts as contexts
use Rattle.cm_exec.specs.Run.{counted_all}
use Rattle.cm_exec.specs.Running.{IsRoomy}
use Rattle.cm_world.specs.declared.world.World.{World}
use Rattle.cm_world.specs.World.{IsWorldOf}
use Rattle.cm_world.specs.Over.{IsPath}
use Rattle.cm_forks.specs.Paths.{Begins}
use Rattle.cm_beside.specs.Leaf.{IsRightNode}
use Rattle.cm_beside.specs.Nodes.{pieces_of, IsValuation, Satisfies, WorldSatisfies}
use Rattle.cm_beside.specs.Standing.{StandsAt, SaysAll}
use Rattle.cm_chain.specs.Chains.{left, IsCoded, IsAskedAt, IsEnded}
use Rattle.cm_walk.specs.declared.prefix.Prefix.{Prefix}

-- a context knows of what was made exactly these facts
pub record Knows (pieces : List Piece) (c : Context) (facts : List Fact) : Type 0 where
  pub made : c.pieces ≡ pieces
  pub counts : counts_of c ≡ counted_all first_counts pieces
  pub valuations : (v : Valuation) → contexts.Satisfies c v ↔ (IsValuation pieces v × Satisfies v facts)

module _ (t : Tables) (p : Pair) where
  -- a decision that had another possible outcome: behind what was decided and known before it, with the first of the
  -- cells, some world gives its question that one
  pub record WasOpen (front : List ℕ) (before : List Fact) (f : Fact) (places : List Place) : Type 0 where
    pub first : List Place
    pub later : List Place
    pub in_order : places ≡ first ++ later
    pub node : IsRightNode t p front before first f.question
    pub world : World
    pub is_world : IsWorldOf t p world
    pub satisfies : WorldSatisfies t p world before first
    pub differs : outcome_under satisfies.valuation f.question ≢ f.outcome

  -- a decision that had none
  abbrev pub IsOnly : List ℕ → ℕ → Type 0
  IsOnly front d = (x : ℕ) → Begins (IsPath t p) (front ++ x ∷ []) → x ≡ d

  -- behind these decisions and facts, the further facts are those of the further decisions that had more than one possible
  -- outcome, in order
  abbrev pub AreOpenDecisions : List ℕ → List Fact → List ℕ → List Fact → List Place → Type 0
  AreOpenDecisions front before [] facts places = facts ≡ []
  AreOpenDecisions front before (d ∷ ds) facts places =
      (IsOnly front d × AreOpenDecisions (front ++ d ∷ []) before ds facts places)
      ⊎ ((f : Fact) × (fs : List Fact) × (facts ≡ f ∷ fs) × (f.outcome ≡ d) × WasOpen front before f places
      × AreOpenDecisions (front ++ d ∷ []) (before ++ f ∷ []) ds fs places)

  -- what is made for the arguments and the cells so far
  abbrev pub pieces_at : Prefix → List Piece
  pieces_at x = pieces_of t p x.cells.places

  pub record IsPrefix (x : Prefix) : Type 0 where
    pub call_a : p.a < length t.calls
    pub call_b : p.b < length t.calls
    -- of all decisions, also of those with one possible outcome
    pub all : List Fact
    pub stands : StandsAt t p x.decisions all x.cells.places (λ ps. left t ps x.chain x.cells)
    pub says : SaysAll (pieces_at x) x.facts all
    pub were_open : AreOpenDecisions [] [] x.decisions x.facts x.cells.places
    pub knows : Knows (pieces_at x) x.known x.facts
    pub coded : IsCoded t x.chain
    pub roomy : IsRoomy x.known.pieces (length x.cells.places)

  -- a question is open
  pub record IsOpen (x : Prefix) (q : Question) : Type 0 where
    pub is_prefix : IsPrefix x
    pub open_is : x.open ≡ Some q
    pub asked : IsAskedAt t q x.chain.stage x.cells
    pub can_be_asked : IsQuestion x.known q

  -- its outcome is the same under each valuation that satisfies the facts
  abbrev pub IsForced : Prefix → Question → ℕ → Type 0
  IsForced x q d = (v : Valuation) → IsValuation (pieces_at x) v → Satisfies v x.facts → outcome_under v q ≡ d

  -- the path is whole
  pub record IsWhole (x : Prefix) : Type 0 where
    pub is_prefix : IsPrefix x
    pub ended : IsEnded x.chain.stage
