-- Some world has the path 00.
use Rattle.std.proofs.Common.{false, refl, [], ◌∷◌}
use Rattle.fork_cases.proofs.rows.show_counted.Goals as goal

pub new-paths-requires-clause-some : goal.new-paths-requires-clause-some
new-paths-requires-clause-some g c = (0 ∷ 0 ∷ [], (false, false, false, (λ e. cc), refl))
