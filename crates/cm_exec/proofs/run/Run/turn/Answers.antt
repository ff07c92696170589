use Rattle.std.proofs.Common.{length, ap}
use Rattle.cm_exec.proofs.Going.{roomy_still}
use Rattle.cm_exec.proofs.Growing.{keeps_none}
use Rattle.cm_exec.proofs.run.Run.turn.Goals as goal

pub returns-in_ok-a-in-Checks-clause-new : goal.returns-in_ok-a-in-Checks-clause-new
returns-in_ok-a-in-Checks-clause-new g c =
    roomy_still _ (length c.args.cells.now.places) (length c.check.new.cells.places) c.requires.new
    (ap length c.in_ok-a-in-Checks.ensures.places)

pub returns-in_ok-a-in-Goes-clause-satisfied : goal.returns-in_ok-a-in-Goes-clause-satisfied
returns-in_ok-a-in-Goes-clause-satisfied g c = keeps_none _ _

pub returns-in_ok-note-in-Told-clause-satisfied : goal.returns-in_ok-note-in-Told-clause-satisfied
returns-in_ok-note-in-Told-clause-satisfied g c = keeps_none _ _

pub returns-in_ok-a-in-Checks-clause-satisfied : goal.returns-in_ok-a-in-Checks-clause-satisfied
returns-in_ok-a-in-Checks-clause-satisfied g c = keeps_none _ _

pub returns-in_ok-t-in-Replied-clause-satisfied : goal.returns-in_ok-t-in-Replied-clause-satisfied
returns-in_ok-t-in-Replied-clause-satisfied g c = keeps_none _ _

pub returns-in-Blocked-clause-satisfied : goal.returns-in-Blocked-clause-satisfied
returns-in-Blocked-clause-satisfied g c = keeps_none _ _
