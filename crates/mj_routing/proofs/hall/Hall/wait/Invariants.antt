use Rattle.mj_routing.proofs.hall.Hall.wait.Given as goal

abbrev pub ghosts-wait : goal.ghosts-wait
ghosts-wait a = record { name = a.blank.name; parts = a.blank.parts }
