-- Something is declared in the place of each value, and one more is made.
use Rattle.cm_twin.specs.Names.{exchange}
use Rattle.cm_twin.proofs.Building.{part_type, within, is_typed, one_more}
use Rattle.cm_twin.proofs.worlds.relabel_values.Goals as goal

pub bounds-params-i : goal.bounds-params-i
bounds-params-i c =
    within c.args.model.now (exchange c.args.swap.now) part_type c.args.params.now c.args.values.now c.loop-i.i
    c.requires.typed c.loop-i-test.true

pub relabel_one-requires : goal.relabel_one-requires
relabel_one-requires c =
    record {
      typed = is_typed c.args.model.now (exchange c.args.swap.now) part_type c.args.params.now c.args.values.now
          c.loop-i.i c.index-params-i.result c.index-values-i.result c.requires.typed c.loop-i-test.true
          c.index-values-i.is;
    }

pub loop-i-preserved : goal.loop-i-preserved
loop-i-preserved c =
    one_more c.args.model.now (exchange c.args.swap.now) part_type c.args.params.now c.args.values.now c.loop-i.i
    c.index-params-i.result c.index-values-i.result c.in_ok-other.other c.loop-i.others c.push.new.self _
    c.requires.typed c.loop-i-test.true c.index-values-i.is c.in_ok-other.ensures.exact c.in_ok-push.ensures.ok
    c.loop-i.invariant
