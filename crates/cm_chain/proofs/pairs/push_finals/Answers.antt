use Rattle.std.proofs.Common.{◌<◌, length, get_or, true, false, sym, ap, ◌∙◌, Some, arith}
use Rattle.std.proofs.lemmas.List.{append-nil}
use Rattle.std.proofs.lemmas.Option.{slice_get-get_or}
use Rattle.cm_term.specs.declared.term.Term.TheVariants as term
use Rattle.cm_chain.proofs.Finals.{cell_put}
use Rattle.cm_chain.proofs.pairs.push_finals.Goals as goal
use Rattle.cm_chain.proofs.pairs.push_finals.Goals.{then-written+in_ok-left+in_ok-right+in_ok-push, else-written}

pub cells-preserved : goal.cells-preserved
cells-preserved c =
    let t = c.args.cells.now in
    elim c.if-written.branch [
      | then-written+in_ok-left+in_ok-right+in_ok-push w ↦
          cell_put c.cells.cell t.written t.ab t.ba true w.in_ok-left.left w.in_ok-right.right
          (c.written.ensures.written ∙ ap Some w.if-written.true)
          (w.value.ensures.term ∙ ap Some (sym w.in_ok-left.ensures.same))
          (w.value-then-written.ensures.term ∙ ap Some (sym w.in_ok-right.ensures.same))
          c.cells.pairs c.if-written.pairs _ (w.pairs-is ∙ w.in_ok-push.ensures.ok) c.cells.invariant
      | else-written w ↦
          let table = c.len-count.ensures.table in
          let within : c.cells.cell < length t.places = omega (arith, c.cells-test.true, c.len-count.ensures.count) in
          cell_put c.cells.cell t.written t.ab t.ba false (get_or t.ab c.cells.cell term.None)
          (get_or t.ba c.cells.cell term.None) (c.written.ensures.written ∙ ap Some w.if-written.false)
          (slice_get-get_or t.ab c.cells.cell term.None (omega (arith, within, table.ab)))
          (slice_get-get_or t.ba c.cells.cell term.None (omega (arith, within, table.ba)))
          c.cells.pairs c.if-written.pairs _ (w.pairs-is ∙ sym (append-nil c.cells.pairs)) c.cells.invariant
    ]
