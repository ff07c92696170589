-- A read by a touch.
use Rattle.std.proofs.Common.{Some, sym, ap, ◌∙◌, subst, slice_get}
use Rattle.cm_eval.specs.State.{look_up}
use Rattle.cm_eval.specs.Evaluation.{named}
use Rattle.cm_eval.specs.Script.{Reads}
use Rattle.cm_eval.specs.inner.Going.{Gives}
use Rattle.cm_eval.proofs.Touching.{declared_of, read_gives, read_halts}
use Rattle.cm_eval.proofs.cells.read.Goals as goal

pub returns-in_ok-value-in-Some-2 : goal.returns-in_ok-value-in-Some-2
returns-in_ok-value-in-Some-2 c = record {
  gives = λ t is.
      let d = declared_of t c.args.code.now c.args.cell.state c.in-Some.invariant.now is
      (ap (slice_get c.args.code.now.invariants) (sym c.from.ensures) ∙ sym c.in-Some.ensures.value) in
      subst (λ o. Gives t (Reads c.args.cell) o c.args.state.now c.args.log.now c.touch.new.log)
      (ap Some (sym c.in_ok-value-in-Some-2.ensures.equal))
      (read_gives t c.args.cell c.in-Some.invariant.now c.in-Some-value.value.now c.args.state.now c.args.log.now
      c.touch.new.log c.in_ok-touch.field-0 d
      (ap (λ k. look_up c.args.state.now (named c.args.cell.state k)) (sym c.as_ref.ensures.value)
      ∙ sym c.in-Some-value.ensures.value)
      (c.in_ok-touch.ensures.touches t.ints d.state.inv d.coded) c.in-Some-2.field-0 c.in-Some-2.is);
}

pub returns-in-None : goal.returns-in-None
returns-in-None c = record {
  gives = λ t is.
      let d = declared_of t c.args.code.now c.args.cell.state c.in-Some.invariant.now is
      (ap (slice_get c.args.code.now.invariants) (sym c.from.ensures) ∙ sym c.in-Some.ensures.value) in
      read_halts t c.args.cell c.in-Some.invariant.now c.in-Some-value.value.now c.args.state.now c.args.log.now
      c.touch.new.log c.in_ok-touch.field-0 d
      (ap (λ k. look_up c.args.state.now (named c.args.cell.state k)) (sym c.as_ref.ensures.value)
      ∙ sym c.in-Some-value.ensures.value)
      (c.in_ok-touch.ensures.touches t.ints d.state.inv d.coded) c.in-None.is;
}
