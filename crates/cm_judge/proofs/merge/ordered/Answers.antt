use Rattle.std.proofs.Common.{eqb}
use Rattle.std.proofs.lemmas.List.Filters.{dedup_is}
use Rattle.cm_judge.proofs.Merges.{all_found}
use Rattle.cm_judge.proofs.merge.ordered.Goals as goal

pub returns : goal.returns
returns c records entries found stands =
    let sorted = c.sort_unstable.new.self.items in
    all_found records c.args.found.items sorted c.dedup.new.self.items c.sort_unstable.ensures.permutation
    c.sort_unstable.ensures.sorted
    (dedup_is eqb sorted c.dedup.new.self.items c.dedup.ensures.filtered) found entries stands
