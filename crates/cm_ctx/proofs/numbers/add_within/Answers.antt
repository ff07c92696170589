use Rattle.std.proofs.Common.{◌+ℤ◌, ◌≤ℤ◌, arith, refl}
use Rattle.std.proofs.lemmas.Int.{ints}
use Rattle.cm_ctx.proofs.Outcomes.{passed}
use Rattle.cm_ctx.proofs.numbers.add_within.Goals as goal
use Rattle.cm_ctx.proofs.numbers.add_within.Goals.{After-add_le-2}

pub add_le-requires-clause-may : goal.add_le-requires-clause-may
add_le-requires-clause-may c =
    let w = c.requires.may in
    let above = passed c.args.above c.args.above refl c.requires.above_low c.requires.above_high in
    let fact = w.2.0 in
    let zero = w.1.zero in
    (w.0, w.1, rw above (omega (arith, ints)))

pub add_le-requires-2-clause-may : goal.add_le-requires-2-clause-may
add_le-requires-2-clause-may c =
    let w = c.requires.may in
    let above = passed c.args.above c.args.above refl c.requires.above_low c.requires.above_high in
    let below = passed c.args.below c.args.below refl c.requires.below_low c.requires.below_high in
    let first = w.2.0 in
    let second = w.2.1 in
    let zero = w.1.zero in
    (w.0, (c.add_le.ensures.kept w.0).1 (w.1, rw above (omega (arith, ints))), rw below (omega (arith, ints)))

pub returns-clause-kept : goal.returns-clause-kept
returns-clause-kept c = λ v.
    let above = passed c.args.above c.args.above refl c.requires.above_low c.requires.above_high in
    let below = passed c.args.below c.args.below refl c.requires.below_low c.requires.below_high in (
      (λ s.
          let k = (c.add_le-2.ensures.kept v).0 s in
          let m = (c.add_le.ensures.kept v).0 k.0 in
          let zero = m.0.zero in
          let first : (v c.args.x.0 +ℤ c.args.above) ≤ℤ v 0 = rw (← above) m.1 in
          let second : (v 0 +ℤ c.args.below) ≤ℤ v c.args.x.0 = rw (← below) k.1 in
          (m.0, (omega (arith, ints), omega (arith, ints)))),
      (λ s.
          let zero = s.0.zero in
          let first = s.1.0 in
          let second = s.1.1 in
          (c.add_le-2.ensures.kept v).1 (
            (c.add_le.ensures.kept v).1 (s.0, rw above (omega (arith, ints))),
            rw below (omega (arith, ints)),
          )),
    )
