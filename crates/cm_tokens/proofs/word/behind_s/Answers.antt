use Rattle.std.proofs.Common.{List, ℕ, [], ◌∷◌, ◌∙◌, codes}
use Rattle.cm_tokens.specs.First.{spelled_or}
use Rattle.cm_tokens.specs.Spellings.{reserved_words}
use Rattle.cm_tokens.specs.declared.token.Token.{Token}
use Rattle.cm_tokens.specs.declared.token.Token.TheVariants as token
use Rattle.cm_tokens.proofs.word.behind_s.Goals as goal

-- what the third word leaves
later : Token → List ℕ → Token
later other run = spelled_or other ((codes "tate", token.State) ∷ []) run

pub returns-in-Some : goal.returns-in-Some
unfolding reserved_words later
returns-in-Some c = λ other. c.in-Some.ensures (later other c.args.run.now)

pub returns-in-None : goal.returns-in-None
unfolding reserved_words later
returns-in-None c = λ other. c.exactly.ensures other ∙ c.in-None.ensures (later other c.args.run.now)
