use Rattle.cm_walk.proofs.Going.{covers, only_open}
use Rattle.cm_walk.proofs.prefix.Prefix.outcomes.Goals as goal

pub returns : goal.returns
returns c =
    let t = c.args.model.now in
    let x = c.args.self.now in
    let open_ = only_open t c.args.pair x c.in-Some.question c.in-Some.is c.requires.open in
    record { covers = covers t c.args.pair x c.in-Some.question c.outcomes.result.0 c.nodes_are_right.ensures.node open_ c.outcomes.ensures.exact }
