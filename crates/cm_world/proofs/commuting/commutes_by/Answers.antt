use Rattle.std.proofs.Common.{length, sym, ap, ◌∙◌}
use Rattle.cm_world.proofs.Orders.{ran_fine}
use Rattle.cm_world.proofs.Typed.{one_default_each}
use Rattle.cm_world.proofs.commuting.commutes_by.Goals as goal

pub are_equal-requires-clause-defaults : goal.are_equal-requires-clause-defaults
are_equal-requires-clause-defaults c =
    let fine = ran_fine c.args.model.now c.args.pair c.args.world.now c.in-Replied.outcomes c.in_ok-outcomes.field-0
    c.run_both.new.log (c.in_ok-outcomes.ensures.both c.args.model.now c.requires.code) c.in-Replied.is in
    fine.0 ∙ sym fine.1

pub are_equal-requires-clause-declared : goal.are_equal-requires-clause-declared
are_equal-requires-clause-declared c =
    let fine = ran_fine c.args.model.now c.args.pair c.args.world.now c.in-Replied.outcomes c.in_ok-outcomes.field-0
    c.run_both.new.log (c.in_ok-outcomes.ensures.both c.args.model.now c.requires.code) c.in-Replied.is in
    ap length fine.0 ∙ one_default_each c.args.model.now c.args.world.now.init c.requires.world.init
