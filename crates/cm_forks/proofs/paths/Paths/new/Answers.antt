-- At the root, before anything is given.
use Rattle.std.proofs.Common.{refl}
use Rattle.cm_forks.specs.inner.Sound.{Fine}
use Rattle.cm_forks.proofs.Told.{sane_start, open_here}
use Rattle.cm_forks.proofs.paths.Paths.new.Goals as goal

pub invariant_of-result : goal.invariant_of-result
invariant_of-result g c =
    let P = g.N.Node.has_path (g.N.Node.about c.args.root) in
    let F = Fine (g.N.Node.shown (g.N.Node.about c.args.root)) c.args.limits.decisions in
    let start = sane_start P F c.args.limits.paths c.requires.some in
    rw (c.requires.root, c.subject.ensures.about, c.new.ensures.items) (record {
      sane = λ _. start;
      waiting_nodes = λ _. (tt, refl, c.requires.fresh);
      are_open = open_here P F _ _ _ _ _ _ start;
      right = tt;
    })
