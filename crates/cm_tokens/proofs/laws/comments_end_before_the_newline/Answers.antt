use Rattle.std.proofs.Common.{refl}
use Rattle.cm_text.specs.Place.{place_in}
use Rattle.cm_tokens.specs.First.{first_token, mark_of, number_of, word_of}
use Rattle.cm_tokens.specs.Gap.{gap_of}
use Rattle.cm_tokens.specs.Listing.{tokens_behind, tokens_of, tokens_within}
use Rattle.cm_tokens.specs.Spellings.{marks, reserved_words}
use Rattle.cm_tokens.proofs.laws.comments_end_before_the_newline.Goals as goal

pub returns : goal.returns
unfolding tokens_of tokens_behind tokens_within gap_of first_token word_of number_of mark_of marks reserved_words
    place_in
returns c = refl
