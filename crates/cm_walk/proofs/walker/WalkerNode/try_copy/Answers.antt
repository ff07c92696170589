-- The same question is open.
use Rattle.cm_walk.proofs.walker.WalkerNode.try_copy.Goals as goal

pub returns-clause-waits : goal.returns-clause-waits
returns-clause-waits c =
    let open_ = c.requires.waits in
    (open_.0, c.in_ok-prefix.ensures.open _ _ open_.0 open_.1)
