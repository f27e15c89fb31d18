use Rattle.mj_hall_tests.proofs.hall.both_halls_refuse_alike.Given as goal

abbrev pub ghosts-alike_until : goal.ghosts-alike_until
ghosts-alike_until g a = record { name = a.blank.name; parts = a.blank.parts }
