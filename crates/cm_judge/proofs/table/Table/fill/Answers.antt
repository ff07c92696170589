use Rattle.std.proofs.Common.{subst, sym}
use Rattle.cm_judge.proofs.Found.{found_filled}
use Rattle.cm_judge.proofs.Listed.{lists_filled}
use Rattle.cm_judge.specs.inner.Table.{IsFreeFor}
use Rattle.cm_judge.proofs.table.Table.fill.Goals as goal

pub invariant_of-self : goal.invariant_of-self
invariant_of-self c =
    let slots = c.self.inside.slots.items in
    let r = c.begin.new.self in
    let free = rw (← c.self.view_is) at c.requires.free in
    record {
      found = found_filled slots c.args.k r
          (subst (λ n. IsFreeFor slots n c.args.k) (sym c.begin.ensures.first.line_is) free) c.self.invariant.found;
      listed = λ t.
          let lists = c.list_slot-self-inside.ensures t in
          rw lists.1 (lists_filled slots c.self.inside.used.items c.args.k r free.in_table
          (c.self.invariant.listed lists.0));
    }
