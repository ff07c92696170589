-- The ledger of a row's counter.
use Rattle.fork_cases.proofs.rows.show_row.Given as goal

abbrev pub ghosts-show_counted : goal.ghosts-show_counted
ghosts-show_counted a = record { name = a.blank.name; parts = a.blank.parts }
