use Rattle.std.proofs.Common.{rules}
use Rattle.cm_pick.proofs.tests.ask.Goals as goal

pub fresh_of-requires-clause-new : goal.fresh_of-requires-clause-new
fresh_of-requires-clause-new c = λ p among is.
    let asked = c.has.ensures.asked.1 (p, among, is) in absurd (search (rules, asked, c.if-not-has.true))
