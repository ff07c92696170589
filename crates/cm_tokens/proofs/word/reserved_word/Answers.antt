use Rattle.std.proofs.Common.{arith, ◌≡◌, [], ap, sym}
use Rattle.std.proofs.lemmas.List.{nil_from_length}
use Rattle.cm_tokens.specs.First.{spelled_or}
use Rattle.cm_tokens.specs.Spellings.{reserved_words}
use Rattle.cm_tokens.proofs.word.reserved_word.Goals as goal

pub returns-in-empty : goal.returns-in-empty
unfolding reserved_words
returns-in-empty c =
    let empty : c.args.run.now ≡ [] = nil_from_length c.args.run.now (omega (arith, c.in-empty.len_below)) in
    λ other. ap (spelled_or other reserved_words) (sym empty)
