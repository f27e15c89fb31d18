use Rattle.mj_routing.proofs.leases.Leases.due.Given as goal

abbrev pub ghosts-due : goal.ghosts-due
ghosts-due a = record { name = a.blank.name; parts = a.blank.parts }
