use Rattle.std.proofs.Common.{◌≡◌, ◌∙◌, List, map, string_bytes, codes, sym, ap, subst}
use Rattle.clap.specs.Words.{App, Text, first_of, found_of, matches_of, rows_of, app_of}
use Rattle.clap.specs.declared.parser.matches.Found.{Found}
use Rattle.cm_words.specs.Forms.{IsTaken, is_true, value_at}
use Rattle.cm_words.specs.Values.{IsNumberOr, IsPairOr}
use Rattle.cm_words.specs.inner.Sample.{sample_form}
use Rattle.cm_words.proofs.tests.sample.read.Goals as goal

-- the text of an argument, as the form has it
value_is : (found : Found) (command : App) (words : List Text) (id : Text) → rows_of found ≡ matches_of command words
    → command ≡ sample_form
    → first_of id (rows_of found) ≡ value_at sample_form words id
value_is found command words id rows is = ap (first_of id) (rows ∙ ap (λ (a : App). matches_of a words) is)

pub returns-in_default-number_or-clause-usage : goal.returns-in_default-number_or-clause-usage
returns-in_default-number_or-clause-usage c e first second count pair all is =
    let words = map string_bytes c.args.words.now in
    let text = value_is (found_of c.in-Ok-take.matches) (app_of c.in-Ok.command) words (codes "count")
    c.in-Ok-take.ensures.matches c.in-Ok.ensures in
    c.in_default-number_or.ensures count (subst (λ t. IsNumberOr 7 1 100 t count) (sym (c.text_of.ensures ∙ text)) is.3)

pub returns-clause-sample : goal.returns-clause-sample
returns-clause-sample c =
    let words = map string_bytes c.args.words.now in
    let text = λ (id : Text). value_is (found_of c.in-Ok-take.matches) (app_of c.in-Ok.command) words
    id c.in-Ok-take.ensures.matches c.in-Ok.ensures in (
      subst (λ (a : App). IsTaken a words) c.in-Ok.ensures c.in-Ok-take.ensures.taken,
      sym (text (codes "FIRST")) ∙ c.in-Ok-name_of.ensures.name,
      sym (text (codes "SECOND")) ∙ c.in-Ok-name_of-2.ensures.name,
      subst (λ t. IsNumberOr 7 1 100 t c.in-Some.count) (c.text_of.ensures ∙ text (codes "count")) c.in-Some.ensures,
      subst (λ t. IsPairOr t c.in-Ok-pair_or.pair) (c.text_of-2.ensures ∙ text (codes "pair"))
          c.in-Ok-pair_or.ensures.pair,
      c.is_set-all.ensures ∙ ap is_true (text (codes "all")),
    )
