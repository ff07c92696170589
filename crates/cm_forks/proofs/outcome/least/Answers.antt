-- No bit is set from 64 on.
use Rattle.std.proofs.Common.{rules, arith, ◌<◌, ◌^◌}
use Rattle.std.proofs.lemmas.Int.{ints}
use Rattle.cm_forks.proofs.Forks.{outcome_small}
use Rattle.cm_forks.proofs.outcome.least.Goals as goal

pub returns-clause-none : goal.returns-clause-none
returns-clause-none c = λ x le has.
    let small : c.args.bits < 2 ^ 64 = search (rules, ints) in
    let below = outcome_small c.args.bits x small has in
    c.loop-outcome.invariant x le (omega (arith, below)) has
