use Rattle.std.proofs.Common.{sym, ap, ◌∙◌}
use Rattle.std.specs.Prelude.{slice_get}
use Rattle.cm_types.proofs.Checking.{state_type}
use Rattle.cm_types.proofs.model.least_meets.Goals as goal

pub least-requires : goal.least-requires
least-requires c =
    let at = c.in-Some.ensures.value ∙ ap (λ states. slice_get states c.from.result) c.states.ensures.states in
    state_type c.args.model.now c.well_typed.ensures.well_typed c.from.result c.in-Some.declared.now (sym at)
