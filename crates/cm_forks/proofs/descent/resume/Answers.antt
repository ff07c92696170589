-- The next outcome of a fork is taken.
use Rattle.std.proofs.Common.{◌++◌, ◌∷◌, [], Some, None}
use Rattle.cm_forks.specs.inner.Stack.{Ready, Same, Remains}
use Rattle.cm_forks.specs.inner.View.{fork, forks}
use Rattle.cm_forks.proofs.Forks.{same_trans, open_now, on_err, if_ok_map, taken_to, top_live}
use Rattle.cm_forks.proofs.descent.resume.Given.{Over}
use Rattle.cm_forks.proofs.descent.resume.Goals.{After-descend, In_ok-branch}
use Rattle.cm_forks.proofs.descent.resume.Goals as goal

pub branch-node-requires-clause-begins : goal.branch-node-requires-clause-begins
branch-node-requires-clause-begins g c =
    (top_live (g.N.Node.has_path (g.N.Node.about c.args.pending.node)) _ _ _ c.requires.ready).begins

pub branch-node-requires-clause-several : goal.branch-node-requires-clause-several
branch-node-requires-clause-several g c =
    (top_live (g.N.Node.has_path (g.N.Node.about c.args.pending.node)) _ _ _ c.requires.ready).other

pub returns-in_err-branch-clause-are_open : goal.returns-in_err-branch-clause-are_open
returns-in_err-branch-clause-are_open g c = on_err c.from_residual.result _ (rw c.in_err-branch.ensures.not_added
    (open_now (g.N.Node.has_path (g.N.Node.about c.args.pending.node)) _ _ _ c.requires.ready))

went : (g : Over) (c : In_ok-branch g)
    → Ready (g.N.Node.has_path (g.N.Node.about c.args.pending.node)) (Some (g.N.Node.prefix c.branch-node.new.node))
    (forks g.N.Node.prefix c.branch-node.new.stack.items) c.branch-node.new.added
    × Same (g.N.Node.has_path (g.N.Node.about c.args.pending.node))
    (Remains None (forks g.N.Node.prefix c.args.stack.now.items
    ++ fork (g.N.Node.prefix c.args.pending.node) c.args.pending.mask.0 c.args.pending.from ∷ []))
    (Remains (Some (g.N.Node.prefix c.branch-node.new.node)) (forks g.N.Node.prefix c.branch-node.new.stack.items))
went g c =
    let node = g.N.Node in
    let it = c.args.pending in
    taken_to (node.has_path (node.about it.node)) (forks node.prefix c.args.stack.now.items)
    (forks node.prefix c.branch-node.new.stack.items) (fork (node.prefix it.node) it.mask.0 it.from)
    (node.prefix c.branch-node.new.node) c.args.added.now c.branch-node.new.added c.requires.ready
    c.in_ok-branch.ensures.kept c.in_ok-branch.ensures.prefix c.in_ok-branch.ensures.added

pub descend-requires-clause-ready : goal.descend-requires-clause-ready
descend-requires-clause-ready g c =
    let here = (goal.at.descend-requires-clause-ready g c).In_ok-branch in
    rw here.in_ok-branch.ensures.about (went g here).0

pub returns-clause-same : goal.returns-clause-same
returns-clause-same g c =
    let here = (goal.at.returns-clause-same g c).In_ok-branch in
    let P = g.N.Node.has_path (g.N.Node.about here.args.pending.node) in
    if_ok_map c.descend.result _ _ (λ leaf h. same_trans P _ _ _ (went g here).1 h)
    (rw here.in_ok-branch.ensures.about at c.descend.ensures.same)
