use Rattle.std.proofs.Common.{arith, ◌∷◌, ◌++◌, []}
use Rattle.cm_mtrace.specs.Trace.{line_of}
use Rattle.cm_mtrace.specs.declared.item.Item.TheVariants as items
use Rattle.cm_mtrace.proofs.Items.{item_line}
use Rattle.cm_mtrace.proofs.Stepping.{item_gives, reads_push, shorter}
use Rattle.cm_mtrace.proofs.step.read_entries.Goals as goal

pub entries-preserved : goal.entries-preserved
entries-preserved c =
    let e = c.in-Some.ensures in
    let inv = c.entries.invariant in
    let item = items.Entry c.in-Some.entry in
    let less = shorter c.entries.rest.now (line_of item) c.in-Some.after.now e.1 in
    record {
      two = omega (arith, inv.two);
      room = omega (arith, inv.room, less);
      shorter = omega (arith, inv.shorter, less);
      goes = λ first all whole old reads.
          let g = inv.goes first all whole old reads in (
            g.0 ++ line_of item ∷ [],
            reads_push first all g.0 c.entries.rest.now (line_of item) c.in-Some.after.now
                old c.entries.to.items c.push.new.self.items (item ∷ []) c.entries.lines g.1 (item_line item e.0)
                e.1 (item_gives c.entries.lines item inv.two e.0) c.in_ok-push.ensures.items,
          );
    }
