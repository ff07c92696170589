-- The parameters are those of the call.
use Rattle.std.proofs.Common.{rules, ◌∙◌, sym, ap}
use Rattle.cm_twin.specs.Names.{exchange}
use Rattle.cm_twin.specs.Twins.{arguments_named}
use Rattle.cm_twin.proofs.Building.{found, arguments_typed}
use Rattle.cm_twin.proofs.worlds.relabel_arguments.Goals as goal

pub relabel_values-requires : goal.relabel_values-requires
relabel_values-requires c =
    let at = c.in-Some.ensures.lookup in
    let t = c.args.model.now in
    let d = c.in-Some.declared.now in
    let here = found t.calls c.calls.result.now c.as_slice.result.now c.args.call c.from.result d c.as_slice.ensures
    c.calls.ensures.calls c.from.ensures at.3.0 at.1 in
    let typed = arguments_typed t c.args.call d c.args.args.now.vals here c.requires.typed in
    record { typed = search (rules, typed) }

pub returns : goal.returns
returns c =
    let at = c.in-Some.ensures.lookup in
    let t = c.args.model.now in
    let f = exchange c.args.swap.now in
    let d = c.in-Some.declared.now in
    let here = found t.calls c.calls.result.now c.as_slice.result.now c.args.call c.from.result d c.as_slice.ensures
    c.calls.ensures.calls c.from.ensures at.3.0 at.1 in
    record {
      exact = rw (c.as_slice-2.ensures, c.as_slice-params.ensures) at c.in_ok-vals.ensures.exact
          ∙ sym (ap (λ o. arguments_named t f o c.args.args.now.vals) here);
    }
