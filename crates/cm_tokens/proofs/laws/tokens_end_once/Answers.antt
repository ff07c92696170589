use Rattle.cm_tokens.proofs.Ends.{all_end_once}
use Rattle.cm_tokens.proofs.laws.tokens_end_once.Goals as goal

pub returns : goal.returns
returns c = all_end_once
