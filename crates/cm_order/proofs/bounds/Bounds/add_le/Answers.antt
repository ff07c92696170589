use Rattle.std.proofs.Common.{arith}
use Rattle.std.proofs.lemmas.Int.{ints}
use Rattle.cm_order.proofs.bounds.Bounds.add_le.Goals as goal

pub add_edge-requires-clause-may : goal.add_edge-requires-clause-may
add_edge-requires-clause-may c = let may = c.requires.may.2 in (c.requires.may.0, c.requires.may.1, omega (arith, ints))

pub returns-clause-kept : goal.returns-clause-kept
returns-clause-kept c = λ v. (
  (λ s. let kept = (c.add_edge.ensures.kept v).0 s in let edge = kept.1 in (kept.0, omega (arith, ints))),
  (λ s. let less = s.1 in (c.add_edge.ensures.kept v).1 (s.0, omega (arith, ints))),
)
