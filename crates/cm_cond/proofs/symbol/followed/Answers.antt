use Rattle.std.proofs.Common.{List, ◌+◌, drop, Option, Some, sym, ap, ◌∙◌}
use Rattle.std.proofs.lemmas.List.{at_drop_more}
use Rattle.cm_value.specs.declared.value.Value.{Value}
use Rattle.cm_term.specs.declared.symbol.Step.{Step}
use Rattle.cm_term.specs.declared.symbol.Step.TheVariants as step
use Rattle.cm_term.specs.Symbols.{followed}
use Rattle.cm_cond.proofs.Symbols.{followed_none}
use Rattle.cm_cond.proofs.symbol.followed.Goals as goal

pub returns-in-None : goal.returns-in-None
returns-in-None c =
    let path = c.args.path.now in
    let i = c.steps.step-index in
    sym (sym c.steps.invariant
    ∙ at_drop_more (λ (ss : List Step). followed ss (Some c.steps.part.now)) path i (step.Field 0) c.steps-test.true
    ∙ ap (λ (o : Option Value). followed (drop (i + 1) path) o) (sym c.in-None.ensures)
    ∙ followed_none (drop (i + 1) path))
