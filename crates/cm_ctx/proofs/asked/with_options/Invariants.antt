use Rattle.std.proofs.Common.{◌≡◌, ◌++◌, replicate}
use Rattle.cm_ctx.proofs.asked.with_options.Given as goal

abbrev pub invariant-more : goal.invariant-more
invariant-more l = l.grown.items ≡ l.options ++ replicate l.added l.number
