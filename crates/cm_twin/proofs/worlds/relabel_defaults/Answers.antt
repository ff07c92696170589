-- Something is declared in the place of each value, and one more is made.
use Rattle.std.proofs.Common.{rules}
use Rattle.cm_twin.specs.Names.{exchange}
use Rattle.cm_twin.proofs.Building.{cell_type, within, is_typed, one_more}
use Rattle.cm_twin.proofs.worlds.relabel_defaults.Goals as goal

pub bounds-states-i : goal.bounds-states-i
bounds-states-i c =
    within c.args.model.now (exchange c.args.swap.now) cell_type c.args.states.now c.args.values.now c.loop-i.i
    c.requires.typed c.loop-i-test.true

pub offset_bounds-states-i : goal.offset_bounds-states-i
offset_bounds-states-i c =
    let lt = within c.args.model.now (exchange c.args.swap.now) cell_type c.args.states.now c.args.values.now c.loop-i.i
    c.requires.typed c.loop-i-test.true in
    search (rules, lt)

pub relabel_one-requires : goal.relabel_one-requires
relabel_one-requires c =
    record {
      typed = is_typed c.args.model.now (exchange c.args.swap.now) cell_type c.args.states.now c.args.values.now
          c.loop-i.i c.index-states-i.result c.index-values-i.result c.requires.typed c.loop-i-test.true
          c.index-values-i.is;
    }

pub loop-i-preserved : goal.loop-i-preserved
loop-i-preserved c =
    one_more c.args.model.now (exchange c.args.swap.now) cell_type c.args.states.now c.args.values.now c.loop-i.i
    c.index-states-i.result c.index-values-i.result c.in_ok-other.other c.loop-i.others c.push.new.self _
    c.requires.typed c.loop-i-test.true c.index-values-i.is c.in_ok-other.ensures.exact c.in_ok-push.ensures.ok
    c.loop-i.invariant
