use Rattle.mj_routing.proofs.hall.Hall.queue.Given as goal

abbrev pub ghosts-queue : goal.ghosts-queue
ghosts-queue a = record { name = a.blank.name; parts = a.blank.parts }
