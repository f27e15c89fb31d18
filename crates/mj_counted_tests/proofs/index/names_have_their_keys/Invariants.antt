use Rattle.mj_counted_tests.proofs.index.names_have_their_keys.Given as goal

abbrev pub ghosts-keeps_names : goal.ghosts-keeps_names
ghosts-keeps_names g a = record { name = a.blank.name; parts = a.blank.parts }
