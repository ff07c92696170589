-- Turns follow each other.
use Rattle.std.proofs.Common.{◌≡◌, arith, true}
use Rattle.cm_forks.proofs.Forks.{same_trans, open_now, on_err}
use Rattle.cm_forks.proofs.descent.descend.Goals as goal

pub returns-in_err-more-clause-are_open : goal.returns-in_err-more-clause-are_open
returns-in_err-more-clause-are_open g c = on_err c.from_residual.result _ (rw c.in_err-more.ensures.not_added
    (open_now (g.N.Node.has_path (g.N.Node.about c.args.node)) _ _ _ c.turns.invariant.ready))

pub returns-then-not-more-clause-same : goal.returns-then-not-more-clause-same
returns-then-not-more-clause-same g c =
    let P = g.N.Node.has_path (g.N.Node.about c.args.node) in
    same_trans P _ _ _ c.turns.invariant.same (rw c.turns.invariant.about at c.in_ok-more.ensures.same)

pub turns-preserved : goal.turns-preserved
turns-preserved g c =
    let P = g.N.Node.has_path (g.N.Node.about c.args.node) in
    let here = c.turns.invariant.about in
    let more : c.in_ok-more.more ≡ true = c.if-not-more.false in
    record {
      about = rw here at c.in_ok-more.ensures.about;
      fresh = c.in_ok-more.ensures.fresh more;
      ready = rw here at c.in_ok-more.ensures.ready;
      same = same_trans P _ _ _ c.turns.invariant.same (rw here at c.in_ok-more.ensures.same);
      all_wait = rw here at c.in_ok-more.ensures.all_wait;
      few = omega (
        arith,
        c.in_ok-more.ensures.short,
        c.in_ok-more.ensures.deeper more,
        c.in_ok-more.ensures.added more,
      );
      slow = omega (
        arith,
        c.in_ok-more.ensures.short,
        c.in_ok-more.ensures.deeper more,
        c.in_ok-more.ensures.added more,
      );
      steps = omega (arith, c.turn.ensures.steps, c.turns.invariant.steps);
    }
