use Rattle.std.proofs.Common.{arith}
use Rattle.exec_cases.proofs.chain.follow_calls.Goals as goal

pub follow_both-requires : goal.follow_both-requires
follow_both-requires c = record {
  roomy = λ i le p among is. c.in_ok-arguments-2.ensures.roomy i (omega arith) p among is;
}
