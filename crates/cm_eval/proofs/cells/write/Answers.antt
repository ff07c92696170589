-- A write by a touch.
use Rattle.std.proofs.Common.{sym, ap, ◌∙◌, subst, slice_get}
use Rattle.cm_eval.specs.State.{look_up, put}
use Rattle.cm_eval.specs.Evaluation.{named}
use Rattle.cm_eval.specs.Run.{logged, run}
use Rattle.cm_eval.specs.inner.Going.{Touches}
use Rattle.cm_eval.proofs.Touching.{declared_of, write_goes, write_halts}
use Rattle.cm_eval.proofs.cells.write.Goals as goal

pub returns-in_ok-set-in-Some-2 : goal.returns-in_ok-set-in-Some-2
returns-in_ok-set-in-Some-2 c = record {
  puts = λ t is more.
      let d = declared_of t c.args.code.now c.args.cell.state c.in-Some.invariant.now is
      (ap (slice_get c.args.code.now.invariants) (sym c.from.ensures) ∙ sym c.in-Some.ensures.value) in
      write_goes t c.args.cell c.in-Some.invariant.now c.in-Some-value.before.now c.args.state.now c.args.log.now
      c.touch.new.log c.in_ok-at.field-0 d
      (ap (λ k. look_up c.args.state.now (named c.args.cell.state k)) (sym c.as_ref.ensures.value)
      ∙ sym c.in-Some-value.ensures.value)
      (subst (λ n. Touches t.ints d.state.inv c.in-Some-value.before.now n c.in_ok-at.field-0 c.args.log.now
      c.touch.new.log) c.in_ok-name.ensures.equal
      (c.in_ok-at.ensures.touches t.ints d.state.inv d.coded)) c.args.value c.in-Some-2.at c.in-Some-2.is more
      ∙ ap (λ w. logged c.touch.new.log.steps (run t.ints t.states (put c.args.state.now c.args.cell c.args.value)
      (record { cells = c.touch.new.log.cells; written = w }) more)) (sym c.mark.ensures.marked)
      ∙ ap (λ u. logged c.touch.new.log.steps (run t.ints t.states u
      (record { cells = c.touch.new.log.cells; written = c.mark.new.written }) more))
      (sym c.in_ok-set-in-Some-2.ensures.ok);
}

pub returns-in-None : goal.returns-in-None
returns-in-None c = record {
  puts = λ t is.
      let d = declared_of t c.args.code.now c.args.cell.state c.in-Some.invariant.now is
      (ap (slice_get c.args.code.now.invariants) (sym c.from.ensures) ∙ sym c.in-Some.ensures.value) in
      write_halts t c.args.cell c.in-Some.invariant.now c.in-Some-value.before.now c.args.state.now c.args.log.now
      c.touch.new.log c.in_ok-at.field-0 d
      (ap (λ k. look_up c.args.state.now (named c.args.cell.state k)) (sym c.as_ref.ensures.value)
      ∙ sym c.in-Some-value.ensures.value)
      (subst (λ n. Touches t.ints d.state.inv c.in-Some-value.before.now n c.in_ok-at.field-0 c.args.log.now
      c.touch.new.log) c.in_ok-name.ensures.equal
      (c.in_ok-at.ensures.touches t.ints d.state.inv d.coded)) c.args.value c.in-None.is;
}
