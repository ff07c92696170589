use Rattle.std.proofs.Common.{pos, [], ◌∷◌, ap, ◌∙◌}
use Rattle.cm_value.specs.declared.value.Value.TheVariants as value
use Rattle.cm_term.specs.declared.symbol.Step.TheVariants as step
use Rattle.cm_term.specs.Symbols.{followed, field_in, payload_in}
use Rattle.cm_term.proofs.Values.{out_rec, out_none, out_some}
use Rattle.cm_term.proofs.tests.symbols_of_examples.Goals as goal

pub returns-clause-there : goal.returns-clause-there
returns-clause-there c =
    ap (λ x. followed (step.Field 1 ∷ []) (payload_in x)) (out_some (value.Rec (value.Elem 4 ∷ value.Int (pos 2) ∷ [])))
    ∙ ap (field_in 1) (out_rec (value.Elem 4 ∷ value.Int (pos 2) ∷ []))

pub returns-clause-none : goal.returns-clause-none
returns-clause-none c = simp out_none
