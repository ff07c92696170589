-- The ledger of a row's counter.
use Rattle.analyze_cases.proofs.rows.report_of.Given as goal

abbrev pub ghosts-report_counted : goal.ghosts-report_counted
ghosts-report_counted a = record { name = a.blank.name; parts = a.blank.parts }
