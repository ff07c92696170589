use Rattle.std.proofs.Common.{rules, arith, IsTrue, ◌≡◌, ◌<◌, length, get_or, List, sym, subst, ap, ◌∙◌}
use Rattle.cm_model.specs.Types.{IsType}
use Rattle.cm_model.specs.declared.body.StateDecl.{StateDecl}
use Rattle.cm_eval.proofs.Declared.{cell_type}
use Rattle.cm_eval.proofs.state.least_values.Goals as goal

-- src/state.rt:112:21
pub least-requires : goal.least-requires
least-requires c =
    let place : c.loop-state.state-index < length c.args.model.now.states =
    subst (λ (ds : List StateDecl). c.loop-state.state-index < length ds) c.requires c.loop-state-test.true in
    let item : c.state-item.result ≡ get_or c.args.model.now.states c.loop-state.state-index c.state-item.result =
    c.state-item.is ∙ ap (λ (ds : List StateDecl). get_or ds c.loop-state.state-index c.state-item.result) c.requires in
    subst (λ (d : StateDecl). IsType c.args.model.now d.value) (sym item)
    (cell_type c.args.model.now c.well_typed.ensures.well_typed c.loop-state.state-index c.state-item.result place)
