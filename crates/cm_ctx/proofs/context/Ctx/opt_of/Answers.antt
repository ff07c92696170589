use Rattle.std.proofs.Common.{◌≡◌, ◌≢◌}
use Rattle.cm_ctx.proofs.Decided.{none_exact, some_exact}
use Rattle.cm_ctx.proofs.Lifting.{options_implied}
use Rattle.cm_ctx.proofs.Through.{through}
use Rattle.cm_ctx.proofs.context.Ctx.opt_of.Goals as goal

pub returns-clause-none : goal.returns-clause-none
returns-clause-none c =
    let here = rw c.as_slice.ensures.value at c.at.ensures in
    rw (c.what_is_known.ensures, ← c.self.view_is)
    (through (none_exact c.self.inside.options.items c.args.o.0 c.at.result c.self.invariant.options here)
    (options_implied _ _ c.self.invariant (λ t. t c.args.o.0 ≡ 0)))

pub returns-clause-some : goal.returns-clause-some
returns-clause-some c =
    let here = rw c.as_slice.ensures.value at c.at.ensures in
    rw (c.what_is_known.ensures, ← c.self.view_is)
    (through (some_exact c.self.inside.options.items c.args.o.0 c.at.result c.self.invariant.options here)
    (options_implied _ _ c.self.invariant (λ t. t c.args.o.0 ≢ 0)))
