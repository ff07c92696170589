use Rattle.cm_twin.specs.Names.{exchanged}
use Rattle.cm_twin.proofs.Twins.{twin_alike, same_runs}
use Rattle.cm_twin.proofs.Everywhere.{relabelled_alike}
use Rattle.cm_twin.proofs.laws.renaming.Goals as goal

pub returns-clause-equal : goal.returns-clause-equal
returns-clause-equal c = λ names twin.
    same_runs c.args.model.now c.args.pair names c.args.world.now c.args.other.now _ _
    c.in_ok-first.ensures.exact c.in_ok-second.ensures.exact
    (twin_alike c.args.model.now names c.well_typed.ensures.well_typed c.args.pair c.args.world.now c.args.other.now
    c.requires.world c.requires.other twin)

pub returns-clause-alike : goal.returns-clause-alike
returns-clause-alike c = λ names twin.
    twin_alike c.args.model.now names c.well_typed.ensures.well_typed c.args.pair c.args.world.now c.args.other.now
    c.requires.world c.requires.other twin

pub returns-clause-relabelled : goal.returns-clause-relabelled
returns-clause-relabelled c = λ by new.
    same_runs c.args.model.now c.args.pair (exchanged by) c.args.world.now c.args.other.now _ _
    c.in_ok-first.ensures.exact c.in_ok-second.ensures.exact
    (relabelled_alike c.args.model.now c.well_typed.ensures.well_typed c.args.pair by c.args.world.now
    c.args.other.now c.requires.world new).1
