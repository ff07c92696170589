-- Each turn goes on from where the descent began.
use Rattle.std.proofs.Common.{◌≡◌, ◌≤◌, ◌+◌, ◌-◌, length, Some}
use Rattle.cm_forks.specs.inner.Stack.{Ready, Same, Remains}
use Rattle.cm_forks.specs.inner.View.{forks, AllWait}
use Rattle.cm_forks.proofs.descent.descend.Given as goal

abbrev pub invariant-turns : goal.invariant-turns
invariant-turns g l =
    let node = g.N.Node in
    let P = node.has_path (node.about l.fn.node) in
    let before = forks node.prefix l.fn.stack.items in
    let now = forks node.prefix l.stack.items in record {
      about : node.about l.node ≡ node.about l.fn.node;
      fresh : node.fresh l.node;
      ready : Ready P (Some (node.prefix l.node)) now l.added;
      same : Same P (Remains (Some (node.prefix l.fn.node)) before) (Remains (Some (node.prefix l.node)) now);
      all_wait : AllWait node.waits node.about (node.about l.fn.node) l.stack.items;
      few : l.added ≤ l.fn.added + 65536;
      slow : l.added + length (node.prefix l.fn.node) ≤ l.fn.added + length (node.prefix l.node);
      steps : l.steps + l.fn.added ≡ l.fn.steps + l.added;
    }

abbrev pub decreases-turns : goal.decreases-turns
decreases-turns g l = l.longest + 1 - length (g.N.Node.prefix l.node)
