use Rattle.std.proofs.Common.{◌+ℤ◌, pos, FitsSigned, w32, arith, rules}
use Rattle.std.proofs.lemmas.Int.{to_z-of_z}
use Rattle.std.proofs.lemmas.List.Edits.{fill_by_more}
use Rattle.cm_order.specs.inner.Shells.{entry}
use Rattle.cm_order.proofs.Places.{place_within}
use Rattle.cm_order.proofs.shells.gather.Goals as goal

pub entry-requires-clause-within : goal.entry-requires-clause-within
entry-requires-clause-within c = rw c.requires.cells (place_within _ c.lines.k c.args.x (omega arith) (omega arith))

pub entry-requires-in-lines-clause-within : goal.entry-requires-in-lines-clause-within
entry-requires-in-lines-clause-within c = rw c.requires.cells (place_within _ c.args.y c.lines.k (omega arith)
    (omega arith))

pub lines-preserved : goal.lines-preserved
lines-preserved c =
    let first : FitsSigned w32 c.entry.result = search rules in
    let second : FitsSigned w32 c.entry-in-lines.result = search rules in
    let sum = c.requires.fits c.lines.k c.lines-test.true in
    record {
      column = λ k h. rw (
        to_z-of_z w32 c.entry.result first,
        to_z-of_z w32 c.args.most c.ranges.most,
        c.entry.ensures,
        to_z-of_z w32 (entry c.args.cells.now c.lines.k c.args.x +ℤ c.args.most) sum,
      )
          (fill_by_more (λ i. entry c.args.cells.now i c.args.x +ℤ c.args.most) c.lines.column c.lines.k
          (pos 0) (omega arith) (rw (to_z-of_z w32 c.args.most c.ranges.most) at c.lines.invariant.column) k h);
      row = λ k h. rw (to_z-of_z w32 c.entry-in-lines.result second, c.entry-in-lines.ensures)
          (fill_by_more (entry c.args.cells.now c.args.y) c.lines.row c.lines.k (pos 0) (omega arith)
          c.lines.invariant.row k h);
    }
