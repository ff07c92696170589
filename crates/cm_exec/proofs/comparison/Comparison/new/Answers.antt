use Rattle.std.proofs.Common.{◌∙◌, ap, reverse}
use Rattle.cm_exec.specs.Asking.{bound, asks_of}
use Rattle.cm_exec.specs.Comparing.{after}
use Rattle.cm_exec.proofs.Asking.{said}
use Rattle.cm_exec.proofs.comparison.Comparison.new.Goals as goal

pub returns : goal.returns
returns c = record {
  asks = λ ps.
      ap (λ fs. bound (asks_of ps c.args.sides.left c.args.sides.right) (after ps (reverse fs))) c.new.ensures
      ∙ said ps (asks_of ps c.args.sides.left c.args.sides.right);
}
