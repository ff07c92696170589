use Rattle.std.proofs.Common.{◌≡◌}
use Rattle.cm_ctx.proofs.Decided.{known_exact}
use Rattle.cm_ctx.proofs.Lifting.{tags_implied}
use Rattle.cm_ctx.proofs.Through.{through}
use Rattle.cm_ctx.proofs.context.Ctx.tag_of.Goals as goal

pub returns-clause-known : goal.returns-clause-known
returns-clause-known c = λ n.
    let here = rw c.as_slice.ensures.value at c.at.ensures in
    rw (← c.self.view_is)
    (through (known_exact c.self.inside.tags.items c.args.x.0 c.at.result c.self.invariant.tags here n)
    (tags_implied _ _ c.self.invariant (λ t. t c.args.x.0 ≡ n)))
