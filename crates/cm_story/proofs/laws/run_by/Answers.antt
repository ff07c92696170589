use Rattle.cm_story.proofs.Local.{run_told, world_touched}
use Rattle.cm_story.proofs.laws.run_by.Goals as goal

pub returns-clause-told : goal.returns-clause-told
returns-clause-told c =
    run_told c.args.model.now c.well_typed.ensures.well_typed c.args.pair c.args.world.now c.requires.world _
    (record { path = c.in_ok-path.ensures.exact; commutes = c.in_ok-commutes.ensures.exact })

pub returns-clause-touches : goal.returns-clause-touches
returns-clause-touches c =
    world_touched c.args.model.now c.well_typed.ensures.well_typed c.args.pair c.args.world.now c.requires.world
