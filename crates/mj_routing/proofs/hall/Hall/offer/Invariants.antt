use Rattle.mj_routing.proofs.hall.Hall.offer.Given as goal

abbrev pub ghosts-offer : goal.ghosts-offer
ghosts-offer a = record { name = a.blank.name; parts = a.blank.parts }
