use Rattle.std.proofs.Common.{arith}
use Rattle.cm_model.proofs.Pairs.{begins, goes_on, ends}
use Rattle.cm_model.proofs.model.pair_at.Goals as goal

-- src/model.rt:137:5
pub rows-init : goal.rows-init
rows-init c = begins c.args.calls c.args.k c.requires.below

-- src/model.rt:137:5
pub rows-preserved : goal.rows-preserved
rows-preserved c = goes_on c.rows.a c.args.calls c.rows.left c.from-left.result _ c.from-left.ensures
    (omega (arith, c.from-left.ensures, c.from.ensures, c.rows-test.true)) c.rows.invariant

-- src/model.rt:128:1
pub returns-clause-pair : goal.returns-clause-pair
returns-clause-pair c = ends c.rows.a c.args.calls c.rows.left c.from.result _ c.from.ensures c.rows-test.false
    c.rows.invariant
