use Rattle.cm_world.proofs.Agreeing.{agreeing, all_agree}
use Rattle.cm_world.proofs.states.same_states.Goals as goal

pub returns-then-agree_at : goal.returns-then-agree_at
returns-then-agree_at c =
    record {
      same = (
        (λ h.
            agreeing c.args.model.now c.args.left.now c.args.right.now c.requires.defaults
            (c.agree_at.ensures.agree.0 c.if-agree_at.true)
            (c.agree_at-then-agree_at.ensures.agree.0 h)),
        λ same. c.agree_at-then-agree_at.ensures.agree.1 (all_agree c.args.model.now c.args.left.now
            c.args.right.now c.args.right.now.exceptions same),
      );
    }
