use Rattle.mj_routing.proofs.hall.Hall.drop_client.Given as goal

abbrev pub ghosts-drop_client : goal.ghosts-drop_client
ghosts-drop_client a = record { name = a.blank.name; parts = a.blank.parts }
