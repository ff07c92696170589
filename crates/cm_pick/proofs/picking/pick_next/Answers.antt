use Rattle.cm_pick.proofs.Steps.{may_learn, learnt}
use Rattle.cm_pick.proofs.picking.pick_next.Goals as goal

pub learn-requires-clause-may : goal.learn-requires-clause-may
learn-requires-clause-may c = may_learn c.args.ctx.now c.args.equality _ c.as_fact-fact.ensures
    c.in-Undecided.ensures.standing.0

pub returns-in_ok-push-in-Undecided-clause-next : goal.returns-in_ok-push-in-Undecided-clause-next
returns-in_ok-push-in-Undecided-clause-next c = learnt c.args.ctx.now c.learn.new.ctx c.args.equality _
    c.args.picked.now c.push.new.self c.as_fact-fact.ensures c.in-Undecided.ensures.standing
    c.in_ok-push-in-Undecided.ensures.ok c.learn.ensures.kept
