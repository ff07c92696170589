use Rattle.std.proofs.Common.{◌∙◌}
use Rattle.cm_term.specs.declared.term.Term.TheVariants as term
use Rattle.cm_exec.proofs.Asking.{elsewhere}
use Rattle.cm_exec.proofs.comparison.look.Goals as goal

pub returns-in-Elem-clause-looked : goal.returns-in-Elem-clause-looked
returns-in-Elem-clause-looked c = λ ps.
    elsewhere ps c.args.frames.now c.args.pair (term.Elem c.in-Elem.x) c.in-Elem.is
    ∙ c.look_at_element.ensures ps c.args.frames.now c.args.pair.below

pub returns-in-Num-clause-looked : goal.returns-in-Num-clause-looked
returns-in-Num-clause-looked c = λ ps.
    elsewhere ps c.args.frames.now c.args.pair (term.Num c.in-Num.a) c.in-Num.is
    ∙ c.look_at_number.ensures ps c.args.frames.now c.args.pair.below

pub returns-in-Tag-clause-looked : goal.returns-in-Tag-clause-looked
returns-in-Tag-clause-looked c = λ ps.
    elsewhere ps c.args.frames.now c.args.pair (term.Tag c.in-Tag.a) c.in-Tag.is
    ∙ c.look_at_tag.ensures ps c.args.frames.now c.args.pair.below
