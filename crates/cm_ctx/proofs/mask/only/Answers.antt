use Rattle.cm_ctx.proofs.Masks.{one_alone}
use Rattle.cm_ctx.proofs.mask.only.Goals as goal

pub returns : goal.returns
returns c = one_alone c.args.outcome c.requires
