use Rattle.cm_story.proofs.Local.{local, same_runs}
use Rattle.cm_story.proofs.laws.locality.Goals as goal

pub returns-clause-equal : goal.returns-clause-equal
returns-clause-equal c = λ same.
    same_runs c.args.model.now c.well_typed.ensures.well_typed c.args.pair c.args.world.now c.args.other.now _ _
    c.in_ok-first.ensures.exact c.in_ok-second.ensures.exact
    (local c.args.model.now c.well_typed.ensures.well_typed c.args.pair c.args.world.now c.args.other.now
    c.requires.world c.requires.other same)

pub returns-clause-alike : goal.returns-clause-alike
returns-clause-alike c = λ same.
    local c.args.model.now c.well_typed.ensures.well_typed c.args.pair c.args.world.now c.args.other.now
    c.requires.world c.requires.other same
