use Rattle.std.proofs.Common.{arith}
use Rattle.std.proofs.lemmas.Int.{ints}
use Rattle.cm_order.proofs.bounds.Bounds.add_eq.Goals as goal

pub add_edge-requires-clause-may : goal.add_edge-requires-clause-may
add_edge-requires-clause-may c =
    let v = c.requires.may.0 in
    let same = c.requires.may.2 in
    (v, (c.add_le.ensures.kept v).1 (c.requires.may.1, omega (arith, ints)), omega (arith, ints))

pub returns-clause-kept : goal.returns-clause-kept
returns-clause-kept c = λ v. (
  (λ s.
      let second = (c.add_edge.ensures.kept v).0 s in
      let first = (c.add_le.ensures.kept v).0 second.0 in
      let high = first.1 in
      let low = second.1 in
      (first.0, omega (arith, ints))),
  (λ s. let same = s.1 in (c.add_edge.ensures.kept v).1 (
    (c.add_le.ensures.kept v).1 (s.0, omega (arith, ints)),
    omega (arith, ints),
  )),
)
