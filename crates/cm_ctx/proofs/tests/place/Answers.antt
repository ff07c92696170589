use Rattle.std.proofs.Common.{◌≡◌, ◌<◌, ◌≤ℤ◌, ℤ, pos, negsuc, arith}
use Rattle.std.proofs.lemmas.Int.{ints}
use Rattle.cm_ctx.specs.Contexts.{IsSmall}
use Rattle.cm_ctx.proofs.Outcomes.{same_small}
use Rattle.cm_ctx.proofs.tests.place.Goals as goal

pub returns-clause-well : goal.returns-clause-well
returns-clause-well c = λ k lt. (
  (lt, rw (same_small c.args.plus c.requires) c.requires),
  (omega (arith, ints), omega (arith, ints)),
  (omega (arith, ints), omega (arith, ints)),
  omega (arith, ints),
)
