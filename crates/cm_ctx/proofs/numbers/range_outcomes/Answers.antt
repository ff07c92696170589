use Rattle.cm_ctx.proofs.Outcomes.{range_exact, reach_test, stay_test, passed_less}
use Rattle.cm_ctx.proofs.numbers.range_outcomes.Goals as goal

pub returns : goal.returns
returns c = λ i.
    let e = c.mask_of.ensures i in
    let d = c.args.bounds.now in
    let x = c.variable-x.result.0 in
    let low = c.may-low.ensures in
    let high = c.may-high.ensures in
    let f = range_exact c.args.bounds.now c.args.of c.variable-x.result.0 c.args.lo c.args.hi _ _ c.may-low.result.lt
    c.either.result c.either-2.result c.both-within.result c.may-high.result.gt
    c.requires.order c.variable-x.ensures
    (passed_less c.gap.result _ _ c.requires.lo c.gap.ensures.value c.gap.ensures.low c.gap.ensures.high)
    (passed_less c.gap-2.result _ _ c.requires.hi c.gap-2.ensures.value c.gap-2.ensures.low c.gap-2.ensures.high)
    low.lt
    (reach_test _ _ _ _ _ _ c.either.ensures low.eq low.gt)
    (stay_test _ _ _ _ _ _ c.either-2.ensures high.lt high.eq)
    c.both-within.ensures high.gt i in
    ((λ h. f.0 (e.0 h)), (λ w. e.1 (f.1 w)))
