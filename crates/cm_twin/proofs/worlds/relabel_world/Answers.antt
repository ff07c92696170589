-- What is so of a world that was built by its parts.
use Rattle.cm_twin.proofs.Building.{built_world, built_looks, built_back}
use Rattle.cm_twin.proofs.worlds.relabel_world.Goals as goal

pub returns-clause-is_world : goal.returns-clause-is_world
returns-clause-is_world c =
    built_world c.args.model.now c.args.pair c.args.swap.now c.args.world.now _
    (record { init = c.in_ok-init.ensures.exact; a = c.in_ok-a.ensures.exact; b = c.in_ok-b.ensures.exact })
    c.requires.world

pub returns-clause-looks : goal.returns-clause-looks
returns-clause-looks c =
    built_looks c.args.model.now c.args.pair c.args.swap.now c.args.world.now _
    (record { init = c.in_ok-init.ensures.exact; a = c.in_ok-a.ensures.exact; b = c.in_ok-b.ensures.exact })

pub returns-clause-back : goal.returns-clause-back
returns-clause-back c =
    built_back c.args.model.now c.args.pair c.args.swap.now c.args.world.now _
    (record { init = c.in_ok-init.ensures.exact; a = c.in_ok-a.ensures.exact; b = c.in_ok-b.ensures.exact })
