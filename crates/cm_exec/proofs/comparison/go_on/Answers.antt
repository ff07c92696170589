use Rattle.std.proofs.Common.{◌∙◌, sym, ap}
use Rattle.cm_exec.specs.Comparing.{staged, at}
use Rattle.cm_exec.proofs.Asking.{answered_at}
use Rattle.cm_exec.proofs.comparison.go_on.Goals as goal

pub returns-in_ok-landed-in-Answered : goal.returns-in_ok-landed-in-Answered
returns-in_ok-landed-in-Answered g c = record {
  landed = λ ps more.
      ap (λ s. staged ps s c.args.frames.now) c.in-Answered.is
      ∙ answered_at ps c.args.frames.now c.in-Answered.waiting c.in-Answered.outcome
      ∙ ap (at ps c.args.frames.now) (sym (c.tell-told.ensures ps))
      ∙ c.in_ok-landed-in-Answered.ensures.landed ps more;
}
