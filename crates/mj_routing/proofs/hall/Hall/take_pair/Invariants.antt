use Rattle.mj_routing.proofs.hall.Hall.take_pair.Given as goal

abbrev pub ghosts-take_pair : goal.ghosts-take_pair
ghosts-take_pair a = record { name = a.blank.name; parts = a.blank.parts }
