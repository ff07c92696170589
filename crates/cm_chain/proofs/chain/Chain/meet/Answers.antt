use Rattle.cm_chain.proofs.Chains.{limit_met, needs}
use Rattle.cm_chain.proofs.chain.Chain.meet.Goals as goal

pub returns-in-Cells-clause-comes : goal.returns-in-Cells-clause-comes
returns-in-Cells-clause-comes c t coded met =
    let m = rw (c.in-Cells.is) at met in (
      limit_met t c.args.self.now.stage c.args.cells.now coded.runs m,
      λ ps. needs t c.args.self.now.calls c.args.self.now.replies ps c.args.self.now.stage c.args.cells.now coded.runs m,
    )
