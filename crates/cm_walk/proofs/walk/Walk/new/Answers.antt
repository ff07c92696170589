-- Some world of the pair is there.
use Rattle.cm_walk.proofs.Walks.{some_path}
use Rattle.cm_walk.proofs.walk.Walk.new.Goals as goal

pub new-requires-2-clause-some : goal.new-requires-2-clause-some
new-requires-2-clause-some c = some_path c.args.model.now c.args.pair c.nodes_are_right.ensures.some
