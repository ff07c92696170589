use Rattle.std.proofs.Common.{neg_ℤ, arith}
use Rattle.std.proofs.lemmas.Int.{ints}
use Rattle.cm_order.specs.Differences.{difference}
use Rattle.cm_order.proofs.Valuations.{least_of}
use Rattle.cm_order.proofs.bounds.Bounds.least.Goals as goal

pub returns : goal.returns
returns c =
    let rows = c.args.self.now in
    let most = c.most.ensures.value in
    ((λ i. neg_ℤ (difference rows 0 i)), least_of rows c.most.ensures.closed c.most.ensures.some, omega (arith, ints))
