-- What the prefix knows is what the leaf says.
use Rattle.cm_walk.proofs.Going.{kept_leaf}
use Rattle.cm_walk.proofs.leaf.Leaf.of.Goals as goal

pub returns-clause-leaf : goal.returns-clause-leaf
returns-clause-leaf c =
    let h = c.requires.whole.is_prefix in
    record {
      right = kept_leaf c.args.model.now c.args.pair c.args.prefix h c.nodes_are_right.ensures.leaf c.in-Ended.verdict
          c.in-Ended.is;
      were_open = h.were_open;
      knows = h.knows;
    }
