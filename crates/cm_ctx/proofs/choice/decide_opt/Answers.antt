use Rattle.cm_ctx.proofs.choice.decide_opt.Goals as goal

pub returns-in-Var-clause-kept : goal.returns-in-Var-clause-kept
returns-in-Var-clause-kept c = rw c.in-Var.is c.decide.ensures.kept
