use Rattle.cm_ctx.proofs.Outcomes.{order_exact, passed}
use Rattle.cm_ctx.proofs.numbers.order_outcomes.Goals as goal

pub returns : goal.returns
returns c = λ i.
    let e = c.mask_of.ensures i in
    let f = order_exact c.args.bounds.now c.args.left c.args.right c.variable-x.result.0 c.variable-y.result.0
    _ c.may-mask.result.lt c.may-mask.result.eq c.may-mask.result.gt
    c.variable-x.ensures c.variable-y.ensures
    (passed c.gap.result _ c.gap.ensures.value c.gap.ensures.low c.gap.ensures.high) c.may-mask.ensures.lt
    c.may-mask.ensures.eq c.may-mask.ensures.gt i in
    ((λ h. f.0 (e.0 h)), (λ w. e.1 (f.1 w)))
