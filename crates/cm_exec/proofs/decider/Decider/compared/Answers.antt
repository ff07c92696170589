use Rattle.std.proofs.Common.{◌*◌, ◌+◌, arith}
use Rattle.cm_code.specs.Steps.{steps_left}
use Rattle.cm_exec.proofs.Playing.{goes_further}
use Rattle.cm_exec.proofs.decider.Decider.compared.Goals as goal

pub returns-in_ok-on-in-Says-clause-left : goal.returns-in_ok-on-in-Says-clause-left
returns-in_ok-on-in-Says-clause-left c = λ codes.
    goes_further codes (2 * steps_left codes c.tell_on.new.m + 1) (2 * steps_left codes c.args.self.now.machine + 1)
    c.go_if.result c.go_if.new.self (omega (arith, c.in_ok-on-in-Says.ensures.left codes)) (c.go_if.ensures.left codes)
