use Rattle.std.proofs.Common.{◌∙◌, w32}
use Rattle.std.proofs.lemmas.Int.{to_z-of_z}
use Rattle.cm_order.specs.inner.Shells.{entry}
use Rattle.cm_order.proofs.Closing.{sum_fits, sums_fit}
use Rattle.cm_order.proofs.Places.{edge_after, entry_front}
use Rattle.cm_order.proofs.shells.spread.Goals as goal

pub gather-requires-clause-fits : goal.gather-requires-clause-fits
gather-requires-clause-fits c = λ k h.
    let n = c.args.count in
    let within = rw c.split_at_mut-column.ensures.front_len at h in
    rw (
      to_z-of_z w32 c.args.most c.ranges.most,
      c.split_at_mut-cells.ensures.front,
      entry_front n k c.args.x c.args.entries.now within c.requires.x,
    )
    (sum_fits n (entry c.args.entries.now) c.args.most c.requires.proper.closed c.requires.proper.some
    c.requires.low c.requires.high k c.args.x within c.requires.x)

pub relax-requires-clause-fits : goal.relax-requires-clause-fits
relax-requires-clause-fits c = λ i j p q.
    let n = c.args.count in
    let d = entry c.args.entries.now in
    let columns = rw (
      to_z-of_z w32 c.args.most c.ranges.most,
      c.split_at_mut-column.ensures.front_len,
      c.split_at_mut-cells.ensures.front,
    ) at c.gather.ensures.column in
    let rows = rw (c.split_at_mut-column.ensures.front_len, c.split_at_mut-cells.ensures.front) at c.gather.ensures.row
    in
    let pn = rw (c.gather.auto.column, c.split_at_mut-column.ensures.front_len) at p in
    let qn = rw (c.gather.auto.column, c.split_at_mut-column.ensures.front_len) at q in
    rw (
      columns i pn,
      rows j qn,
      entry_front n i c.args.x c.args.entries.now pn c.requires.x,
      entry_front n c.args.y j c.args.entries.now c.requires.y qn,
    )
    (sums_fit n d c.args.most c.requires.proper.closed c.requires.proper.some c.requires.low c.requires.high
    i c.args.x c.args.y j pn c.requires.x c.requires.y qn)

pub returns : goal.returns
returns c =
    let columns = rw (
      to_z-of_z w32 c.args.most c.ranges.most,
      c.split_at_mut-column.ensures.front_len,
      c.split_at_mut-cells.ensures.front,
    ) at c.gather.ensures.column in
    let rows = rw (c.split_at_mut-column.ensures.front_len, c.split_at_mut-cells.ensures.front) at c.gather.ensures.row
    in
    let lowers = rw (c.gather.auto.column, c.split_at_mut-column.ensures.front_len, c.split_at_mut-cells.ensures.front)
    at c.relax.ensures in
    edge_after c.args.count c.args.entries.now c.relax.new.cells c.gather.new.column c.gather.new.row
    c.args.x c.args.y c.args.most c.requires.x c.requires.y
    (c.relax.auto.cells ∙ c.split_at_mut-cells.ensures.front_len) columns rows lowers
