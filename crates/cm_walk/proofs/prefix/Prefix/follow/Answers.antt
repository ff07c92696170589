-- The one outcome that is possible is taken.
use Rattle.cm_walk.proofs.Going.{followed}
use Rattle.cm_walk.proofs.prefix.Prefix.follow.Goals as goal

pub returns-clause-prefix : goal.returns-clause-prefix
returns-clause-prefix c =
    let t = c.args.model.now in
    let x = c.args.self.now in
    let q = c.requires.open.0 in
    let h = c.requires.open.1 in
    let told = c.in_ok-tell.ensures in
    followed t c.args.pair x _ q c.args.outcome h.is_prefix h.asked told.decisions told.cells
    (told.coded t h.is_prefix.coded) (told.told t q h.is_prefix.coded h.asked) c.nodes_are_right.ensures.node
    c.requires.alone told.facts told.known
