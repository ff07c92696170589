use Rattle.std.proofs.Common.{ap, ◌∙◌}
use Rattle.cm_cells.specs.declared.order.Order.TheVariants as order
use Rattle.cm_cells.specs.CellTable.{no_cells}
use Rattle.cm_exec.specs.Run.{tale_of}
use Rattle.cm_beside.specs.Beside.{followed_by}
use Rattle.cm_chain.specs.declared.chain.Calls.{Calls}
use Rattle.cm_chain.specs.declared.chain.Replies.TheVariants as replies
use Rattle.cm_chain.specs.Chains.{behind}
use Rattle.cm_chain.proofs.chain.Chain.new.Goals as goal

pub returns-clause-begins : goal.returns-clause-begins
returns-clause-begins c t is ps =
    let k = c.args.calls in
    ap (λ s. followed_by s (behind t c.in_ok-calls.calls ps replies.None))
    (c.in_ok-run.ensures.begins t is ps no_cells)
    ∙ ap (λ (x : Calls). followed_by (tale_of t k.pair.a k.a order.Ab ps no_cells) (behind t x ps replies.None))
    c.in_ok-calls.ensures.value
