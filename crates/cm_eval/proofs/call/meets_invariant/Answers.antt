-- An invariant asked alone.
use Rattle.std.proofs.Common.{sym, ap, ◌∙◌, slice_get, subst}
use Rattle.cm_eval.specs.inner.Going.{Asks}
use Rattle.cm_eval.specs.Compiled.{invariant_code_of}
use Rattle.cm_eval.proofs.Touching.{meets}
use Rattle.cm_eval.proofs.call.meets_invariant.Goals as goal

pub returns : goal.returns
returns c = record {
  meets = meets c.args.model.now c.args.state c.in-Some.declared.now c.args.v.now c.in_ok-r.r c.new-log.result
      c.ask.new.log
      (ap (λ xs. slice_get xs c.args.state) (sym c.states.ensures.states) ∙ ap (slice_get c.states.result.now)
      (sym c.from.ensures) ∙ sym c.in-Some.ensures.value)
      (c.in_ok-r.ensures.asks c.args.model.now.ints c.in-Some.declared.now.inv
      (c.in_ok-code.ensures ∙ ap (λ ints. invariant_code_of ints c.in-Some.declared.now.inv) (c.as_slice.ensures
      ∙ c.ints.ensures.ints)));
}
