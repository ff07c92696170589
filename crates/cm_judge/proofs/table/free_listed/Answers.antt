use Rattle.cm_judge.proofs.Listed.{listed_all, listed_first, listed_next}
use Rattle.cm_judge.proofs.table.free_listed.Goals as goal

pub loop-k-init : goal.loop-k-init
loop-k-init c = listed_first c.args.slots.now c.args.used.now c.requires

pub loop-k-preserved : goal.loop-k-preserved
loop-k-preserved c = listed_next c.loop-k.slots c.args.used.now c.loop-k.k-index c.free.result c.loop-k-test.true
    c.free.ensures c.loop-k.invariant

pub returns : goal.returns
returns c = listed_all c.loop-k.slots c.args.used.now c.loop-k.k-index c.loop-k-test.false c.loop-k.invariant
