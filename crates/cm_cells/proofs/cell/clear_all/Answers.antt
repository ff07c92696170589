use Rattle.std.proofs.Common.{refl, length, ap, ◌∙◌, sym, slice_set, slice_get, Some, subst, ◌≡◌, arith}
use Rattle.cm_cells.proofs.Tables.{at_place, anew_to, anew_more, anew_length, begun_anew}
use Rattle.cm_cells.specs.inner.Kept.{cleared}
use Rattle.cm_cells.proofs.cell.clear_all.Goals as goal

-- src/cell.rt:138:5
pub loop-i-preserved : goal.loop-i-preserved
loop-i-preserved c =
    ap (λ d. slice_set c.loop-i.cells.items c.loop-i.i d) c.clear.ensures.cleared
    ∙ ap (λ cs. slice_set cs c.loop-i.i (cleared c.args.order c.index_mut.result.now)) c.loop-i.invariant
    ∙ anew_more c.args.order c.loop-i.i c.args.cells.now.items c.index_mut.result.now
    (subst (λ cs. slice_get cs c.loop-i.i ≡ Some c.index_mut.result.now) c.loop-i.invariant
    (at_place c.loop-i.cells.items c.loop-i.i c.loop-i.i c.index_mut.result.now refl
    (let same = ap length c.loop-i.invariant ∙ anew_length c.args.order c.loop-i.i c.args.cells.now.items in
    omega arith)
    c.index_mut.ensures.value))

-- src/cell.rt:134:1
pub returns-clause-anew : goal.returns-clause-anew
returns-clause-anew c =
    begun_anew c.args.order c.loop-i.i c.args.cells.now.items c.loop-i.cells.items
    (let same = anew_length c.args.order c.loop-i.i c.args.cells.now.items in omega arith) c.loop-i.invariant
