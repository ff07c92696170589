-- A comparison in a run.
use Rattle.cm_eval.proofs.Natural.{compared_decided}
use Rattle.cm_eval.proofs.decide.compare_values.Goals as goal

pub returns : goal.returns
returns c = record {
  decided = compared_decided c.args.left.now c.args.right.now c.in_ok-r.r c.args.steps.now c.compare.new.steps
      c.in_ok-r.ensures.compares;
}
