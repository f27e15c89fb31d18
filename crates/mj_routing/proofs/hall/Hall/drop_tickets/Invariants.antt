use Rattle.mj_routing.proofs.hall.Hall.drop_tickets.Given as goal

abbrev pub ghosts-drop_tickets : goal.ghosts-drop_tickets
ghosts-drop_tickets a = record { name = a.blank.name; parts = a.blank.parts }
