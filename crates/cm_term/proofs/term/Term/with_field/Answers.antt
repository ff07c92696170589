use Rattle.std.proofs.Common.{rules}
use Rattle.cm_term.specs.declared.term.Term.TheViews.{the_lemmas}
use Rattle.cm_term.proofs.Values.{with_field_value}
use Rattle.cm_term.proofs.term.Term.with_field.Goals as goal

-- src/term.rt:82:5
pub returns-clause-value : goal.returns-clause-value
returns-clause-value c = λ v.
    with_field_value v c.args.self.now c.args.t c.in_ok-fields-in-Rec.fields c.args.n (search (rules, the_lemmas))
