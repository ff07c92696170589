use Rattle.std.proofs.Common.{arith, ◌+◌}
use Rattle.cm_tokens.proofs.Runs.{value_more, value_short}
use Rattle.cm_tokens.proofs.number.value.Goals as goal

pub overflow_mul-n : goal.overflow_mul-n
overflow_mul-n c =
    omega (
      arith,
      c.loop-digit.invariant,
      value_more c.args.digits.now c.loop-digit.digit-index c.requires.digits
          c.loop-digit-test.true,
      value_short c.args.digits.now (c.loop-digit.digit-index + 1) c.requires.digits
          c.requires.short,
    )

pub overflow_add-n : goal.overflow_add-n
overflow_add-n c =
    let more = value_more c.args.digits.now c.loop-digit.digit-index c.requires.digits c.loop-digit-test.true in
    omega (
      arith,
      c.loop-digit.invariant,
      more.2,
      c.from.ensures,
      value_short c.args.digits.now (c.loop-digit.digit-index + 1) c.requires.digits c.requires.short,
    )

pub loop-digit-preserved : goal.loop-digit-preserved
loop-digit-preserved c =
    let more = value_more c.args.digits.now c.loop-digit.digit-index c.requires.digits c.loop-digit-test.true in
    omega (arith, c.loop-digit.invariant, more.2, c.from.ensures)
