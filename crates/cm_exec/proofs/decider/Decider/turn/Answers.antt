use Rattle.std.proofs.Common.{◌*◌, ◌+◌, ap, arith}
use Rattle.cm_code.specs.Machine.{with_body}
use Rattle.cm_code.specs.Steps.{steps_left}
use Rattle.cm_exec.specs.Deciding.{left_in, waits_left}
use Rattle.cm_exec.proofs.Playing.{goes_further}
use Rattle.cm_exec.proofs.decider.Decider.turn.Goals as goal

pub returns-in_ok-on-in-Answered-clause-left : goal.returns-in_ok-on-in-Answered-clause-left
returns-in_ok-on-in-Answered-clause-left g c =
    let one = ap (waits_left (with_body c.args.funs.now c.args.body.now)) c.in-Answered.is in
    goes_further (with_body c.args.funs.now c.args.body.now)
    (2 * steps_left (with_body c.args.funs.now c.args.body.now) c.resolve.new.m + 1)
    (left_in (with_body c.args.funs.now c.args.body.now) c.args.self.now)
    c.go_if.result c.go_if.new.self
    (omega (arith, one, c.in_ok-on-in-Answered.ensures.left (with_body c.args.funs.now c.args.body.now)))
    (c.go_if.ensures.left (with_body c.args.funs.now c.args.body.now))
