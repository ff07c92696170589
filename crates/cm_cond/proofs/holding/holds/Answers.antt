use Rattle.cm_world.proofs.Typed.{one_default_each}
use Rattle.cm_cond.proofs.holding.holds.Goals as goal

pub initial_values-requires : goal.initial_values-requires
initial_values-requires c = one_default_each c.args.model.now c.args.world.now.init c.requires.world.init
