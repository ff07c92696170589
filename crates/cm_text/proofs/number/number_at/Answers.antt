use Rattle.std.proofs.Common.{arith, ℕ, ◌<◌, ◌≤◌, ◌^◌, subst, length}
use Rattle.std.proofs.lemmas.Slice.{between_to_end}
use Rattle.std.proofs.Math.Nat.{pow-le-pow_left}
use Rattle.cm_text.specs.Run.{IsRun}
use Rattle.cm_text.proofs.Fronts.{none_at_more, none_at_none, none_at_zero, run_numeral}
use Rattle.cm_text.proofs.number.number_at.Goals as goal

room : (base : ℕ) → 2 ≤ base → 2 ^ 64 ≤ base ^ 64
room base low = pow-le-pow_left low 64

pub returns-in_default : goal.returns-in_default
returns-in_default c =
    let m = c.in_default.ensures in
    none_at_more c.args.base c.args.most c.args.text.now m.0 c.requires.low c.requires.high
    (omega (arith, room c.args.base c.requires.low, c.ranges.most.fits)) m.1

pub returns-then-count-eq0 : goal.returns-then-count-eq0
returns-then-count-eq0 c =
    let run = subst (λ k. IsRun c.args.base c.args.text.now k c.in-Some.n) c.if-count-eq0.true c.in-Some.ensures.0 in
    none_at_none c.args.base c.args.most c.args.text.now c.in-Some.n c.requires.low c.requires.high
    (omega (arith, room c.args.base c.requires.low, c.ranges.most.fits)) run

pub returns-then-not-is_plain : goal.returns-then-not-is_plain
returns-then-not-is_plain c =
    let zero = c.if-not-is_plain.ensures in
    none_at_zero c.args.base c.args.most c.args.text.now c.in-Some.count c.in-Some.n c.requires.low c.requires.high
    (omega (arith, room c.args.base c.requires.low, c.ranges.most.fits)) c.in-Some.ensures.0 zero.0 zero.1

pub returns : goal.returns
returns c =
    let run = c.in-Some.ensures.0 in
    let fits : c.in-Some.n < c.args.base ^ 64 = omega (
      arith,
      room c.args.base c.requires.low,
      c.ranges.most.fits,
      c.in-Some.ensures.1,
    ) in
    rw (between_to_end c.args.text.now c.in-Some.count (length c.args.text.now) (omega arith)) (
      run_numeral c.args.base c.args.text.now c.in-Some.count c.in-Some.n c.requires.low c.requires.high
          fits run (omega (arith, c.if-count-eq0.false)) c.if-not-is_plain.ensures,
      c.in-Some.ensures.1,
      run.ends,
    )
