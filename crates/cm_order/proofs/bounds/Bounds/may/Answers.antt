use Rattle.std.proofs.Common.{◌≡◌, ◌-ℤ◌, pos, neg_ℤ, to_z, of_z, FitsSigned, w64, arith, rules}
use Rattle.std.proofs.lemmas.Int.{ints, to_z-of_z}
use Rattle.cm_order.specs.Differences.{difference}
use Rattle.cm_order.proofs.Valuations.{allows_eq, allows_gt, allows_lt, lt_test}
use Rattle.cm_order.proofs.bounds.Bounds.may.Goals as goal

pub returns-clause-lt : goal.returns-clause-lt
returns-clause-lt c =
    let rows = c.args.self.now in
    let most : FitsSigned w64 c.most-most.result = search rules in
    let exact = allows_lt rows c.most-most.ensures.closed c.most-most.ensures.some c.args.x.0 c.args.y.0
    c.args.c c.requires.x c.requires.y in
    rw (to_z-of_z w64 c.args.c c.ranges.c, to_z-of_z w64 c.most-most.result most, c.most-most.ensures.value) (
      (λ t. exact.0 ((lt_test c.args.c (difference rows c.args.y.0 c.args.x.0)).0 t)),
      (λ w. (lt_test c.args.c (difference rows c.args.y.0 c.args.x.0)).1 (exact.1 w)),
    )

pub returns-clause-eq : goal.returns-clause-eq
returns-clause-eq c =
    let rows = c.args.self.now in
    let value = c.most-least.ensures.value in
    let low = c.most-least.ensures.low in
    let high = c.most-least.ensures.high in
    let most : FitsSigned w64 c.most-most.result = search rules in
    let least : to_z w64 (of_z w64 (pos 0 -ℤ to_z w64 (of_z w64 c.most-least.result)))
    ≡ neg_ℤ (difference rows c.args.x.0 c.args.y.0) = omega (arith, ints) in
    let exact = allows_eq rows c.most-most.ensures.closed c.most-most.ensures.some c.args.x.0 c.args.y.0
    c.args.c c.requires.x c.requires.y in
    let test = rw (
      least,
      to_z-of_z w64 c.args.c c.ranges.c,
      to_z-of_z w64 c.most-most.result most,
      c.most-most.ensures.value,
    ) at c.is_between.ensures in
    ((λ t. exact.0 (test.0 t)), (λ w. test.1 (exact.1 w)))

pub returns-clause-gt : goal.returns-clause-gt
returns-clause-gt c =
    let rows = c.args.self.now in
    let value = c.most-least.ensures.value in
    let low = c.most-least.ensures.low in
    let high = c.most-least.ensures.high in
    let least : to_z w64 (of_z w64 (pos 0 -ℤ to_z w64 (of_z w64 c.most-least.result)))
    ≡ neg_ℤ (difference rows c.args.x.0 c.args.y.0) = omega (arith, ints) in
    let exact = allows_gt rows c.most-most.ensures.closed c.most-most.ensures.some c.args.x.0 c.args.y.0
    c.args.c c.requires.x c.requires.y in
    rw (to_z-of_z w64 c.args.c c.ranges.c, least) (
      (λ t. exact.0 ((lt_test (neg_ℤ (difference rows c.args.x.0 c.args.y.0)) c.args.c).0 t)),
      (λ w. (lt_test (neg_ℤ (difference rows c.args.x.0 c.args.y.0)) c.args.c).1 (exact.1 w)),
    )
