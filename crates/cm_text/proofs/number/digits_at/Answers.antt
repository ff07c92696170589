use Rattle.std.proofs.Common.{arith, ◌+◌, ◌∙◌, sym}
use Rattle.cm_text.proofs.Fronts.{one_more}
use Rattle.cm_text.proofs.number.digits_at.Goals as goal

pub returns-in_default-with_digit : goal.returns-in_default-with_digit
returns-in_default-with_digit c =
    let more = one_more c.args.base c.args.text.now c.loop-i.i c.loop-i.n c.in-Some.d c.loop-i-test.true
    c.loop-i.invariant.digits c.loop-i.invariant.written c.in-Some.ensures.0 c.in-Some.ensures.1 in (
      c.loop-i.i + 1,
      record {
        within = omega (arith, c.loop-i-test.true);
        digits = more.0;
        above =
            omega (arith, more.1, c.in_default-with_digit.ensures);
      },
    )

pub loop-i-preserved : goal.loop-i-preserved
loop-i-preserved c =
    let more = one_more c.args.base c.args.text.now c.loop-i.i c.loop-i.n c.in-Some.d c.loop-i-test.true
    c.loop-i.invariant.digits c.loop-i.invariant.written c.in-Some.ensures.0 c.in-Some.ensures.1 in
    record {
      digits = more.0;
      written = more.1 ∙ sym c.in-Some-with_digit.ensures.0;
      fits = c.in-Some-with_digit.ensures.1;
    }
