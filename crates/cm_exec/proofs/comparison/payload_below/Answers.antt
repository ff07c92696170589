use Rattle.std.proofs.Common.{refl}
use Rattle.cm_exec.proofs.Payloads.{payload_asked}
use Rattle.cm_exec.proofs.comparison.payload_below.Goals as goal

pub returns : goal.returns
returns g c = λ ps more.
    payload_asked ps c.args.below c.args.o.0 c.in_ok-payload.payload (c.if-not-is_below.ensures.0 refl)
    (c.in_ok-payload.ensures ps more)
