-- The world that was built does alike.
use Rattle.cm_twin.proofs.Building.{relabelled_does}
use Rattle.cm_twin.proofs.laws.relabelling.Goals as goal

pub returns-clause-alike : goal.returns-clause-alike
returns-clause-alike c =
    relabelled_does c.args.model.now c.well_typed.ensures.well_typed c.args.pair c.args.swap.now c.args.world.now _
    c.requires.world c.in_ok-other.ensures.exact

pub returns-clause-touches : goal.returns-clause-touches
returns-clause-touches c =
    (relabelled_does c.args.model.now c.well_typed.ensures.well_typed c.args.pair c.args.swap.now c.args.world.now _
    c.requires.world c.in_ok-other.ensures.exact).touches
