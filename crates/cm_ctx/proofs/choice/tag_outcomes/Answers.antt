use Rattle.cm_ctx.proofs.Decided.{constant_exact}
use Rattle.cm_ctx.proofs.Through.{through, of_same}
use Rattle.cm_ctx.proofs.choice.tag_outcomes.Goals as goal

pub returns-in-Const : goal.returns-in-Const
returns-in-Const c = rw c.in-Const.is (λ i. through (of_same c.from.ensures (c.only.ensures i))
    (constant_exact c.args.choices.now c.requires.proper c.in-Const.index i))
