use Rattle.mj_routing.proofs.hall.Hall.has_worker.Given as goal

abbrev pub ghosts-has_worker : goal.ghosts-has_worker
ghosts-has_worker a = record { name = a.blank.name; parts = a.blank.parts }
