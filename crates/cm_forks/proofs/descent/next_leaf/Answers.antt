-- What is left on the stack, and the fork on its top.
use Rattle.cm_forks.proofs.Forks.{open_now, top_left}
use Rattle.cm_forks.proofs.descent.next_leaf.Goals as goal

pub returns-then-full-clause-are_open : goal.returns-then-full-clause-are_open
returns-then-full-clause-are_open g c = open_now (g.N.Node.has_path c.args.subject) _ _ _ c.requires.ready

pub returns-then-full-2-clause-are_open : goal.returns-then-full-2-clause-are_open
returns-then-full-2-clause-are_open g c = open_now (g.N.Node.has_path c.args.subject) _ _ _ c.requires.ready

pub returns-then-full-2-clause-right : goal.returns-then-full-2-clause-right
returns-then-full-2-clause-right g c =
    let P = g.N.Node.has_path c.args.subject in
    let ready = rw (c.in-None.is, c.in-Some-pop_fork.ensures.top) at c.requires.ready in
    let left = top_left P _ _ _ ready in
    rw (c.in-None.is, c.in-Some-pop_fork.ensures.top) (c.if-full-2.true, left.0, left.1, left.2)
