use Rattle.std.proofs.Common.{rules}
use Rattle.cm_term.specs.declared.term.Term.TheViews.{the_lemmas}
use Rattle.cm_term.proofs.Values.{field_value}
use Rattle.cm_term.proofs.term.Term.field.Goals as goal

-- src/term.rt:66:5
pub returns-clause-value : goal.returns-clause-value
returns-clause-value c = λ v.
    field_value v c.args.self.now c.nth.result.now c.args.n c.requires.of_record (search (rules, the_lemmas))
