use Rattle.std.proofs.Common.{[], sym, subst}
use Rattle.std.proofs.lemmas.Option.{slice_get-get_or}
use Rattle.cm_pick.specs.inner.Standings.{IsNext}
use Rattle.cm_pick.proofs.Steps.{Going, begins, goes, asked, stops, ends_picked}
use Rattle.cm_pick.proofs.picking.pick.Goals as goal

pub loop-equality-init : goal.loop-equality-init
loop-equality-init c = subst (λ facts. Going c.args.ctx.now c.reserve.new.self [] facts) (sym c.new-picked.ensures)
    (begins c.args.ctx.now c.reserve.new.self c.has_valuation.ensures.satisfiable c.in_ok-reserve.ensures.room)

pub pick_next-requires-clause-asked : goal.pick_next-requires-clause-asked
pick_next-requires-clause-asked c = asked c.args.ctx.now c.loop-equality.ctx c.args.equalities.now
    c.loop-equality.equality-index _ c.loop-equality.picked
    (slice_get-get_or c.args.equalities.now c.loop-equality.equality-index _ c.loop-equality-test.true)
    c.loop-equality.invariant c.requires.asked

pub loop-equality-preserved : goal.loop-equality-preserved
loop-equality-preserved c = goes c.args.ctx.now c.loop-equality.ctx c.args.equalities.now
    c.loop-equality.equality-index _ c.loop-equality.picked
    (slice_get-get_or c.args.equalities.now c.loop-equality.equality-index _ c.loop-equality-test.true)
    c.loop-equality.invariant c.pick_next.new.ctx c.pick_next.new.picked
    (subst (IsNext _ _ _ _ _) c.if-not-branch.false c.in_ok-pick_next.ensures.next)
    c.pick_next.ensures.variables c.pick_next.ensures.spare

pub returns-then-not-branch-clause-never : goal.returns-then-not-branch-clause-never
returns-then-not-branch-clause-never c = stops c.args.ctx.now c.loop-equality.ctx c.args.equalities.now
    c.loop-equality.equality-index _ c.loop-equality.picked
    (slice_get-get_or c.args.equalities.now c.loop-equality.equality-index _ c.loop-equality-test.true)
    c.loop-equality.invariant (subst (IsNext _ _ _ _ _) c.if-not-branch.true c.in_ok-pick_next.ensures.next)

pub returns-clause-picked : goal.returns-clause-picked
returns-clause-picked c = ends_picked c.args.ctx.now c.loop-equality.ctx c.args.equalities.now
    c.loop-equality.equality-index c.loop-equality.picked c.loop-equality.invariant c.loop-equality-test.false
