use Rattle.std.proofs.Common.{arith}
use Rattle.std.proofs.lemmas.Int.{ints}
use Rattle.cm_order.proofs.bounds.Bounds.add_gt.Goals as goal

pub returns-clause-kept : goal.returns-clause-kept
returns-clause-kept c = λ v. (
  (λ s. let kept = (c.add_edge.ensures.kept v).0 s in let edge = kept.1 in (kept.0, omega (arith, ints))),
  (λ s. let greater = s.1 in (c.add_edge.ensures.kept v).1 (s.0, omega (arith, ints))),
)
