use Rattle.std.proofs.Common.{arith}
use Rattle.cm_world.proofs.Fields.{short, out}
use Rattle.cm_world.proofs.path.+inspect.Goals as goal

pub inspect_fields-returns-then-i-right : goal.inspect_fields-returns-then-i-right
inspect_fields-returns-then-i-right t c =
    record {
      inspects = short c.args.left.now c.args.right.now c.loop-i.i c.args.steps.now c.loop-i.steps
          c.if-i-right.true c.loop-i.invariant;
    }

pub inspect_fields-returns-then-not-branch : goal.inspect_fields-returns-then-not-branch
inspect_fields-returns-then-not-branch t c =
    record {
      inspects = out c.args.left.now c.args.right.now c.loop-i.i c.index-left-i.result c.index-right-i.result
          c.loop-i-test.true (omega (arith, c.if-i-right.false))
          c.index-left-i.is c.index-right-i.is c.in_ok-inspect.field-0 c.args.steps.now c.loop-i.steps
          c.inspect.new.steps c.loop-i.invariant c.in_ok-inspect.ensures.inspects
          c.if-not-branch.true;
    }
