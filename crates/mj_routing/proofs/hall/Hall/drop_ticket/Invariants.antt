use Rattle.mj_routing.proofs.hall.Hall.drop_ticket.Given as goal

abbrev pub ghosts-drop_ticket : goal.ghosts-drop_ticket
ghosts-drop_ticket a = record { name = a.blank.name; parts = a.blank.parts }
