use Rattle.mj_counted_tests.proofs.rows.rows_are_found_by_their_keys.Given as goal

abbrev pub ghosts-keeps_rows : goal.ghosts-keeps_rows
ghosts-keeps_rows g a = record { name = a.blank.name; parts = a.blank.parts }
