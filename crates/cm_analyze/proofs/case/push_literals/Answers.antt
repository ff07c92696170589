-- Each fact has a literal.
use Rattle.cm_case.specs.Named.{IsSayable}
use Rattle.cm_analyze.proofs.Lists.{all_index}
use Rattle.cm_analyze.proofs.case.push_literals.Goals as goal

pub literal-requires-clause-named : goal.literal-requires-clause-named
literal-requires-clause-named c =
    (all_index (IsSayable c.args.ctx.now.pieces) c.args.facts.now c.loop-fact.fact-index _ c.requires.named
    c.loop-fact-test.true).0
