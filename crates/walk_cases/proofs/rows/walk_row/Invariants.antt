-- The ledger of a row's counter.
use Rattle.walk_cases.proofs.rows.walk_row.Given as goal

abbrev pub ghosts-walk_counted : goal.ghosts-walk_counted
ghosts-walk_counted a = record { name = a.blank.name; parts = a.blank.parts }
