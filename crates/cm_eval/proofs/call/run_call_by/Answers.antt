-- A call by its code.
use Rattle.std.proofs.Common.{Some, sym, ap, ◌∙◌, slice_get}
use Rattle.cm_eval.specs.Run.{Ended}
use Rattle.cm_eval.specs.Ended.{touched_of, stopped}
use Rattle.cm_eval.specs.inner.Going.{ended_by, goes_on}
use Rattle.cm_eval.specs.Evaluation.{body_of, meanings}
use Rattle.cm_eval.specs.Script.{Replies}
use Rattle.cm_eval.proofs.Running.{call_ran}
use Rattle.cm_eval.proofs.call.run_call_by.Goals as goal

pub returns-in-Some-2 : goal.returns-in-Some-2
returns-in-Some-2 c = record {
  run = λ t is.
      call_ran t c.args.code.now c.args.call c.in-Some.body.now c.args.args.now.vals c.args.state.now
      c.args.log.now _ is
      (ap (slice_get c.args.code.now.calls) (sym c.from.ensures) ∙ sym c.in-Some.ensures.value)
      (λ t stmts is same.
      ap (λ vs. goes_on t c.args.state.now c.args.log.now (body_of t.ints (meanings t.ints t.funs) stmts vs Replies))
      (sym (c.in_ok-args.ensures.equal ∙ c.as_slice.ensures))
      ∙ c.in_ok-v.ensures.ran t stmts is (c.as_slice-2.ensures ∙ same)
      ∙ ap (λ o. ended_by o (λ v. Ended v c.run_body.new.state (touched_of c.run_body.new.log) c.run_body.new.log.steps)
      (stopped c.run_body.new.log)) c.in-Some-2.is);
}

pub returns-in-None : goal.returns-in-None
returns-in-None c = record {
  run = λ t is.
      call_ran t c.args.code.now c.args.call c.in-Some.body.now c.args.args.now.vals c.args.state.now
      c.args.log.now _ is
      (ap (slice_get c.args.code.now.calls) (sym c.from.ensures) ∙ sym c.in-Some.ensures.value)
      (λ t stmts is same.
      ap (λ vs. goes_on t c.args.state.now c.args.log.now (body_of t.ints (meanings t.ints t.funs) stmts vs Replies))
      (sym (c.in_ok-args.ensures.equal ∙ c.as_slice.ensures))
      ∙ c.in_ok-v.ensures.ran t stmts is (c.as_slice-2.ensures ∙ same)
      ∙ ap (λ o. ended_by o (λ v. Ended v c.run_body.new.state (touched_of c.run_body.new.log) c.run_body.new.log.steps)
      (stopped c.run_body.new.log)) c.in-None.is);
}
