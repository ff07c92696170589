-- Right reports are spelled as reports are.
use Rattle.cm_case.proofs.Reports.{report_spelled}
use Rattle.cm_case.proofs.laws.right_reports_are_spelled.Goals as goal

pub returns : goal.returns
returns w = record { spelled = λ limit r u world right few. report_spelled _ _ limit r u world right few }
