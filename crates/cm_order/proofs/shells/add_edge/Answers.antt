use Rattle.std.proofs.Common.{◌≤ℤ◌, FitsSigned, w32, rules}
use Rattle.cm_order.specs.inner.Shells.{entry}
use Rattle.cm_order.proofs.Closing.{edge_known, not_below_bits}
use Rattle.cm_order.proofs.Places.{place_in}
use Rattle.cm_order.proofs.shells.add_edge.Goals as goal

pub entry-requires-clause-within : goal.entry-requires-clause-within
entry-requires-clause-within c = place_in c.args.count c.args.x c.args.y c.args.entries.now c.requires.x
    c.requires.y c.requires.proper.long

pub returns-else-most-entry : goal.returns-else-most-entry
returns-else-most-entry c =
    let known : entry c.args.entries.now c.args.x c.args.y ≤ℤ c.args.most =
    let result : FitsSigned w32 c.entry.result = search rules in
    rw (← c.entry.ensures) (not_below_bits c.args.most c.entry.result c.ranges.most result c.if-most-entry.false)
    in
    edge_known c.args.count (entry c.args.entries.now) c.args.x c.args.y c.args.most c.requires.proper.closed
    c.requires.x c.requires.y known
