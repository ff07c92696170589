use Rattle.std.proofs.Common.{length, sym, ap, ◌∙◌, subst}
use Rattle.cm_world.specs.inner.Ran.{AreDeclared}
use Rattle.cm_world.proofs.Orders.{ran_fine}
use Rattle.cm_world.proofs.Typed.{one_default_each}
use Rattle.cm_world.proofs.path.path_by.Goals as goal

pub inspect_last-requires-clause-left : goal.inspect_last-requires-clause-left
inspect_last-requires-clause-left c =
    let fine = ran_fine c.args.model.now c.args.pair c.args.world.now c.in-Replied.outcomes c.in_ok-outcomes.field-0
    c.run_both.new.log (c.in_ok-outcomes.ensures.both c.args.model.now c.requires.code) c.in-Replied.is in
    subst (λ n. AreDeclared n c.run_both.new.log.cells)
    (sym (ap length fine.0 ∙ one_default_each c.args.model.now c.args.world.now.init c.requires.world.init)) fine.2

pub inspect_last-requires-clause-right : goal.inspect_last-requires-clause-right
inspect_last-requires-clause-right c =
    let fine = ran_fine c.args.model.now c.args.pair c.args.world.now c.in-Replied.outcomes c.in_ok-outcomes.field-0
    c.run_both.new.log (c.in_ok-outcomes.ensures.both c.args.model.now c.requires.code) c.in-Replied.is in
    subst (λ n. AreDeclared n c.run_both.new.log.cells)
    (sym (ap length fine.1 ∙ one_default_each c.args.model.now c.args.world.now.init c.requires.world.init)) fine.2
