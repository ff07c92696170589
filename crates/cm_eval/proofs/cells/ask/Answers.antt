-- A cell's invariant by its code.
use Rattle.std.proofs.Common.{sym, ◌∙◌}
use Rattle.cm_eval.proofs.Touching.{asks_coded}
use Rattle.cm_eval.proofs.cells.ask.Goals as goal

pub returns : goal.returns
returns c = record {
  asks = λ ints e is.
      asks_coded ints e c.in-Some.code c.args.value.now c.in_ok-holds.holds c.args.log.now c.run_invariant.new.steps
      (sym c.in-Some.is ∙ is) (λ ints e same. c.in_ok-holds.ensures.ran ints e (c.as_slice.ensures ∙ same));
}
