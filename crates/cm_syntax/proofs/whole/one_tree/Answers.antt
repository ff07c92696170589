use Rattle.cm_syntax.proofs.Laws.{unique}
use Rattle.cm_syntax.proofs.whole.one_tree.Goals as goal

pub returns : goal.returns
returns c = unique
