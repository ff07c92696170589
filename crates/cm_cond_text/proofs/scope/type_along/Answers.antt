use Rattle.std.proofs.Common.{List, ◌+◌, drop, get_or, Option, sym, ap, ◌∙◌}
use Rattle.std.specs.Option.{option_copied}
use Rattle.std.proofs.lemmas.List.{at_drop_more}
use Rattle.cm_model.specs.declared.ty.Ty.{Ty}
use Rattle.cm_term.specs.declared.symbol.Step.{Step}
use Rattle.cm_term.specs.declared.symbol.Step.TheVariants as step
use Rattle.cm_cond.specs.Typing.{type_along}
use Rattle.cm_cond_text.proofs.Types.{step_on}
use Rattle.cm_cond_text.proofs.scope.type_along.Goals as goal

pub steps-preserved : goal.steps-preserved
steps-preserved c =
    let path = c.args.path.now in
    let i = c.steps.step-index in
    let t = c.args.model.now in
    let o = option_copied c.steps.part in
    sym (at_drop_more (λ (ss : List Step). type_along t ss o) path i (step.Field 0) c.steps-test.true
    ∙ step_on t (get_or path i (step.Field 0)) (drop (i + 1) path) o
    ∙ ap (λ (u : Option Ty). type_along t (drop (i + 1) path) u) (sym c.type_after-part.ensures)) ∙ c.steps.invariant
