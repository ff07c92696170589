use Rattle.std.proofs.Common.{Some, None, arith}
use Rattle.std.proofs.lemmas.Str.Pattern.{split_after, split_parts}
use Rattle.cm_words.proofs.Pairs.{name_lacks_comma}
use Rattle.cm_words.proofs.pair.cut.Goals as goal

pub returns-in-Some : goal.returns-in-Some
returns-in-Some c =
    let text = c.args.text.now in
    let found = Some (c.in-Some.first, c.in-Some.second) in
    record {
      around = (split_parts 44 text found c.in-Some.ensures.cases (omega arith)).0;
      only = λ first second name is.
          split_after 44 text first second found c.in-Some.ensures.cases (omega arith) is (name_lacks_comma first name);
    }

pub returns-in-None : goal.returns-in-None
returns-in-None c = record {
  around = tt;
  only = λ first second name is.
      split_after 44 c.args.text.now first second None c.in-None.ensures.cases (omega arith) is
      (name_lacks_comma first name);
}
