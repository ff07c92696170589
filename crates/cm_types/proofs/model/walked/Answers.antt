use Rattle.std.proofs.Common.{sym, subst}
use Rattle.cm_model.specs.WellTyped.{IsWellTyped}
use Rattle.cm_types.proofs.FromSource.{read_is_well_typed}
use Rattle.cm_types.proofs.model.walked.Goals as goal

pub model_of-requires : goal.model_of-requires
model_of-requires c =
    let a = c.in_ok-draft.ensures.answer in
    subst IsWellTyped (sym a.1) (read_is_well_typed c.args.tree.now c.requires a.0)
