use Rattle.std.proofs.Common.{rules, arith}
use Rattle.cm_cells.proofs.Fields.{short, ended}
use Rattle.cm_cells.proofs.compare.+compare.Goals as goal

-- src/compare.rt:40:13
pub compare_all-returns-then-i-right : goal.compare_all-returns-then-i-right
compare_all-returns-then-i-right t c =
    record {
      compares = short c.args.left.now c.args.right.now c.loop-i.i c.loop-i.rest.now c.args.answers.now
          c.loop-i-test.true c.if-i-right.true c.loop-i.invariant;
    }

-- src/compare.rt:33:1
pub compare_all-returns : goal.compare_all-returns
compare_all-returns t c =
    record {
      compares = ended c.args.left.now c.args.right.now c.loop-i.i c.loop-i.rest.now c.args.answers.now _
          c.loop-i-test.false (λ h. search rules) (λ h. search rules) c.loop-i.invariant;
    }
