-- The types are those of the declared state.
use Rattle.std.proofs.Common.{◌∙◌, ap, option_copied}
use Rattle.std.specs.Prelude.{option_map}
use Rattle.cm_twin.specs.Names.{named, exchange}
use Rattle.cm_twin.proofs.Building.{found, except_built}
use Rattle.cm_twin.proofs.worlds.relabel_exception.Goals as goal

pub returns : goal.returns
returns c =
    let at = c.in-Some.ensures.lookup in
    let t = c.args.model.now in
    let f = exchange c.args.swap.now in
    record {
      exact = except_built t f c.args.exception.now c.in-Some.declared.now c.in_ok-key.key c.in_ok-value.value
          (found t.states c.states.result.now c.as_slice.result.now c.args.exception.now.cell.state c.from.result
          c.in-Some.declared.now c.as_slice.ensures c.states.ensures.states c.from.ensures at.3.0 at.1)
          (c.in_ok-key.ensures.exact
          ∙ ap (λ o. option_map (λ v. named t f v o) (option_copied c.as_ref-2.result)) c.as_ref.ensures.value
          ∙ ap (option_map (λ v. named t f v c.in-Some.declared.now.key)) c.as_ref-2.ensures.value)
          c.in_ok-value.ensures.exact;
    }
