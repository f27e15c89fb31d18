use Rattle.mj_counted_tests.proofs.order.pairs_stand_in_rising_order.Given as goal

abbrev pub ghosts-keeps_order : goal.ghosts-keeps_order
ghosts-keeps_order g a = record { name = a.blank.name; parts = a.blank.parts }
