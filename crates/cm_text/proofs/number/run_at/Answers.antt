use Rattle.std.proofs.Common.{◌+◌, ◌*◌, ◌%◌, ◌^◌, ◌∙◌, ap, refl, sym}
use Rattle.std.specs.Str.Parse.{digits_value}
use Rattle.std.proofs.Common.{take}
use Rattle.cm_text.proofs.Fronts.{digit_modulo, one_more}
use Rattle.cm_text.proofs.number.run_at.Goals as goal

pub loop-i-preserved : goal.loop-i-preserved
loop-i-preserved c =
    let v = digits_value c.args.base (take c.loop-i.i c.args.text.now) in
    let more = one_more c.args.base c.args.text.now c.loop-i.i v c.in-Some.d c.loop-i-test.true
    c.loop-i.invariant.digits refl c.in-Some.ensures.0 c.in-Some.ensures.1 in
    record {
      digits = more.0;
      value =
          ap (λ n. (n * c.args.base % 2 ^ 64 + c.in-Some.d) % 2 ^ 64) c.loop-i.invariant.value
          ∙ digit_modulo v c.args.base c.in-Some.d (2 ^ 64)
          ∙ ap (λ n. n % 2 ^ 64) (sym more.1);
    }
