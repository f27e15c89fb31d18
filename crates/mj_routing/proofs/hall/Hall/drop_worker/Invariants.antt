use Rattle.mj_routing.proofs.hall.Hall.drop_worker.Given as goal

abbrev pub ghosts-drop_worker : goal.ghosts-drop_worker
ghosts-drop_worker a = record { name = a.blank.name; parts = a.blank.parts }
