use Rattle.cm_ctx.proofs.Decided.{constant_exact}
use Rattle.cm_ctx.proofs.Through.{through}
use Rattle.cm_ctx.proofs.choice.opt_outcomes.Goals as goal

pub returns-in-None : goal.returns-in-None
returns-in-None c = rw c.in-None.is (λ i. through (c.only.ensures i)
    (constant_exact c.args.choices.now c.requires.proper 0 i))

pub returns-in-Some : goal.returns-in-Some
returns-in-Some c = rw c.in-Some.is (λ i. through (c.only-in-Some.ensures i)
    (constant_exact c.args.choices.now c.requires.proper 1 i))
