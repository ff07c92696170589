-- What a walk gives for a path.
use Rattle.std.specs.Prelude.{[]}
use Rattle.cm_model.specs.Tables.{Tables}
use Rattle.cm_model.specs.declared.pair.Pair.{Pair}
use Rattle.cm_beside.specs.Leaf.{IsRightLeaf}
use Rattle.cm_beside.specs.Nodes.{pieces_of}
use Rattle.cm_walk.specs.declared.leaf.Leaf.{Leaf}
use Rattle.cm_walk.specs.Prefixes.{Knows, AreOpenDecisions}

-- it says rightly which worlds have its path, what they touch, and which of them commute; its facts
-- are the decisions that had more than one possible outcome; and its context knows exactly its facts, of the arguments and its cells alone
pub record IsLeafOf (t : Tables) (p : Pair) (x : Leaf) : Type 0 where
  pub right : IsRightLeaf t p x.path x.facts x.cells.places x.verdict
  pub were_open : AreOpenDecisions t p [] [] x.path x.facts x.cells.places
  pub knows : Knows (pieces_of t p x.cells.places) x.ctx x.facts
