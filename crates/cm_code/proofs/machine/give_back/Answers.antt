-- The caller's steps were counted.
use Rattle.std.proofs.Common.{ap, arith}
use Rattle.cm_code.specs.Steps.{steps_in}
use Rattle.cm_code.proofs.Going.{steps_push}
use Rattle.cm_code.proofs.machine.give_back.Goals as goal

pub returns-in_ok-push-in-Some-clause-left : goal.returns-in_ok-push-in-Some-clause-left
returns-in_ok-push-in-Some-clause-left g c = λ codes.
    omega (arith, ap (steps_in codes) c.in-Some.ensures, steps_push codes c.pop.new.self c.in-Some.caller)
