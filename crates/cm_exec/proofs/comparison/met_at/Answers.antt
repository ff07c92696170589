use Rattle.std.proofs.Common.{rules, reverse}
use Rattle.cm_exec.specs.Asking.{Says, bound}
use Rattle.cm_exec.specs.Comparing.{after}
use Rattle.cm_exec.proofs.comparison.met_at.Goals as goal

pub returns-in-Waits-Equality-clause-heads : goal.returns-in-Waits-Equality-clause-heads
returns-in-Waits-Equality-clause-heads c = λ ps fs.
    (λ s. bound (Says s) (after ps (reverse fs)), search (rules))
