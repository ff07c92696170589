use Rattle.std.proofs.Common.{ap, sym, ◌∙◌, arith}
use Rattle.cm_model.specs.declared.body.Expr.TheVariants as expr
use Rattle.cm_samples.proofs.Deep.{negations-none, negations-more}
use Rattle.cm_samples.proofs.depth.in_negations.Goals as goal

pub negations-init : goal.negations-init
negations-init c = (omega arith, sym (negations-none c.args.e))

pub negations-preserved : goal.negations-preserved
negations-preserved c =
    let below = c.negations-test.true in (
      omega (arith, below),
      c.in_ok-whole.ensures.exact ∙ ap expr.Not c.negations.invariant.1
          ∙ sym (negations-more c.negations.n c.args.e),
    )
