use Rattle.std.proofs.Common.{refl}
use Rattle.cm_tokens.specs.Spellings.{reserved_words}
use Rattle.cm_tokens.proofs.laws.reserved_words_are_no_names.Goals as goal

pub returns : goal.returns
unfolding reserved_words
returns c = refl
