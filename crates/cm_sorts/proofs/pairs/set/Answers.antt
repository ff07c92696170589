use Rattle.cm_sorts.proofs.Triangle.{set_bit}
use Rattle.cm_sorts.proofs.pairs.set.Goals as goal

pub returns : goal.returns
returns c = set_bit c.args.words.now c.args.place c.requires
