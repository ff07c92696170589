use Rattle.std.proofs.Common.{◌∙◌, ap}
use Rattle.cm_exec.specs.Comparing.{looked}
use Rattle.cm_exec.proofs.comparison.step_into.Goals as goal

pub returns-in-Waits-clause-stepped : goal.returns-in-Waits-clause-stepped
returns-in-Waits-clause-stepped c = λ ps.
    c.in_ok-w.ensures.looked ps ∙ ap (λ r. looked ps r c.look.new.frames) c.in-Waits.is

pub returns-in-Deeper-clause-stepped : goal.returns-in-Deeper-clause-stepped
returns-in-Deeper-clause-stepped c = λ ps.
    c.in_ok-w.ensures.looked ps ∙ ap (λ r. looked ps r c.look.new.frames) c.in-Deeper.is

pub returns-in-Stops-clause-stepped : goal.returns-in-Stops-clause-stepped
returns-in-Stops-clause-stepped c = λ ps.
    c.in_ok-w.ensures.looked ps ∙ ap (λ r. looked ps r c.look.new.frames) c.in-Stops.is
