use Rattle.cm_types.proofs.Checking.{accepted}
use Rattle.cm_types.proofs.model.check.Goals as goal

pub returns-clause-least : goal.returns-clause-least
returns-clause-least c =
    (accepted c.args.tree.now c.in_ok-model.model c.in_ok-model.ensures (c.in_ok-check_states.ensures {u = tt})).1
