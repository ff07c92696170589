use Rattle.cm_sorts.proofs.Triangle.{mark_at}
use Rattle.cm_sorts.proofs.pairs.mark.Goals as goal

pub returns : goal.returns
returns c = mark_at _ _ c.args.x c.args.y c.requires.differ (rw c.place.ensures at c.set.ensures)
