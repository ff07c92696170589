use Rattle.std.proofs.Common.{arith, Some, ◌∙◌, ap}
use Rattle.cm_eval.proofs.Fields.{on, out, stop, short, long, whole}
use Rattle.cm_eval.proofs.compare.+compare.Goals as goal

-- src/compare.rt:70:13
pub compare_all-returns-then-i-right : goal.compare_all-returns-then-i-right
compare_all-returns-then-i-right t c =
    record {
      compares = short c.args.left.now c.args.right.now c.loop-i.i c.loop-i.steps c.args.steps.now
          c.loop-i-test.true c.if-i-right.true c.loop-i.invariant;
    }

-- src/compare.rt:74:28
pub compare_all-returns-in-Some-false : goal.compare_all-returns-in-Some-false
compare_all-returns-in-Some-false t c =
    record {
      compares = out c.args.left.now c.args.right.now c.loop-i.i c.index-left-i.result c.index-right-i.result
          c.loop-i-test.true (omega (arith, c.if-i-right.false))
          c.index-left-i.is c.index-right-i.is c.in_ok-compare.field-0 c.loop-i.steps c.compare.new.steps
          c.args.steps.now c.loop-i.invariant c.in_ok-compare.ensures.compares
          (c.in-Some-false.is ∙ ap Some c.in-Some-false.field-0-test);
    }

-- src/compare.rt:75:21
pub compare_all-returns-in-None : goal.compare_all-returns-in-None
compare_all-returns-in-None t c =
    record {
      compares = stop c.args.left.now c.args.right.now c.loop-i.i c.index-left-i.result c.index-right-i.result
          c.loop-i-test.true (omega (arith, c.if-i-right.false))
          c.index-left-i.is c.index-right-i.is c.in_ok-compare.field-0 c.loop-i.steps c.compare.new.steps
          c.args.steps.now c.loop-i.invariant c.in_ok-compare.ensures.compares
          c.in-None.is;
    }

-- src/compare.rt:68:5
pub compare_all-loop-i-preserved : goal.compare_all-loop-i-preserved
compare_all-loop-i-preserved t c =
    on c.args.left.now c.args.right.now c.loop-i.i c.index-left-i.result c.index-right-i.result c.loop-i-test.true
    (omega (arith, c.if-i-right.false))
    c.index-left-i.is c.index-right-i.is c.in_ok-compare.field-0 c.loop-i.steps c.compare.new.steps c.args.steps.now
    c.loop-i.invariant c.in_ok-compare.ensures.compares
    (c.in-Some-true.is ∙ ap Some c.in-Some-true.field-0-test)

-- src/compare.rt:79:9
pub compare_all-returns-then-left-right : goal.compare_all-returns-then-left-right
compare_all-returns-then-left-right t c =
    record {
      compares = long c.args.left.now c.args.right.now c.loop-i.i c.loop-i.steps c.args.steps.now c.loop-i-test.false
          (omega (arith, c.if-left-right.true, c.loop-i.auto.i-end)) c.loop-i.invariant;
    }

-- src/compare.rt:60:1
pub compare_all-returns : goal.compare_all-returns
compare_all-returns t c =
    record {
      compares = whole c.args.left.now c.args.right.now c.loop-i.i c.loop-i.steps c.args.steps.now c.loop-i-test.false
          (omega (arith, c.if-left-right.false, c.loop-i-test.false)) c.loop-i.invariant;
    }
