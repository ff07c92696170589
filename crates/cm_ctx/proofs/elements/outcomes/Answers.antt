use Rattle.cm_ctx.proofs.Outcomes.{elements_exact}
use Rattle.cm_ctx.proofs.elements.outcomes.Goals as goal

pub returns : goal.returns
returns c = λ i.
    let e = c.mask_of.ensures i in
    let f = elements_exact c.args.classes.now c.args.x.0 c.args.y.0 c.may_equal.result c.may_differ.result
    c.may_equal.ensures c.may_differ.ensures i in
    ((λ h. f.0 (e.0 h)), (λ w. e.1 (f.1 w)))
