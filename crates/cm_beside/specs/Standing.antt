-- Where a walk along a pair's tale stands.
use Rattle.std.specs.Prelude.{◌≡◌, ◌↔◌, ℕ, List, ◌++◌, length}
use Rattle.cm_model.specs.Tables.{Tables}
use Rattle.cm_model.specs.declared.pair.Pair.{Pair}
use Rattle.cm_term.specs.declared.question.Fact.{Fact}
use Rattle.cm_term.specs.declared.term.Term.{Term}
use Rattle.cm_term.specs.Valuation.{Valuation}
use Rattle.cm_cells.specs.CellTable.{Place}
use Rattle.cm_ctx.specs.declared.piece.Piece.{Piece}
use Rattle.cm_ctx.specs.Making.{first_counts}
use Rattle.cm_ctx.specs.Contexts.{payloads_of}
use Rattle.cm_exec.specs.Run.{counted_all}
use Rattle.cm_exec.specs.Comparing.{Extends}
use Rattle.cm_beside.specs.Beside.{PairTale}
use Rattle.cm_beside.specs.Nodes.{pieces_of, Node, node, after, node_at, Satisfies, IsValuation}

-- a node with these facts and cells before its own
abbrev pub beyond : List Fact → List Place → Node → Node
beyond fs qs n = node (fs ++ n.facts) (qs ++ n.places) n.next

-- after these answers the facts and cells are these, and this is left of the tale, by the payloads of the options'
-- variables; whatever symbols are asked for later
pub record StandsAt (t : Tables) (p : Pair) (answers : List ℕ) (facts : List Fact) (places : List Place)
    (left : List Term → PairTale) : Type 0 where
  pub ahead : (ps : List Term) → Extends (payloads_of (pieces_of t p places)) ps → (more : List ℕ)
      → node_at t p ps (answers ++ more)
      ≡ beyond facts places (after t (left ps) (counted_all first_counts (pieces_of t p places)) (length places) more)

-- of valuations that give the pieces values, the kept facts say all that the facts say: those with one possible outcome
-- need not be kept
pub record SaysAll (pieces : List Piece) (kept facts : List Fact) : Type 0 where
  pub says : (v : Valuation) → IsValuation pieces v → Satisfies v kept ↔ Satisfies v facts
