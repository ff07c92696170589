use Rattle.cm_ctx.proofs.tests.all_rows.Given as goal

abbrev pub ghosts-number_rows : goal.ghosts-number_rows
ghosts-number_rows a = record { name = a.blank.name; parts = a.blank.parts }

abbrev pub ghosts-option_rows : goal.ghosts-option_rows
ghosts-option_rows a = record { name = a.blank.name; parts = a.blank.parts }
