use Rattle.std.proofs.Common.{arith, ◌∙◌}
use Rattle.cm_sorts.proofs.Sharing.{zero_set}
use Rattle.cm_sorts.proofs.words.make_room.Goals as goal

pub returns-in_err-push-clause-kept : goal.returns-in_err-push-clause-kept
returns-in_err-push-clause-kept c = rw c.in_err-push.ensures.items c.zeros.invariant.same

pub zeros-preserved : goal.zeros-preserved
zeros-preserved c = record {
  same = λ k. rw c.in_ok-push.ensures.items (zero_set c.zeros.words.items k ∙ c.zeros.invariant.same k);
  long = omega (arith, c.in_ok-push.ensures.len);
  longer = omega (arith, c.in_ok-push.ensures.len);
}
