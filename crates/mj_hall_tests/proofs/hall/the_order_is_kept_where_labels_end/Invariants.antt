use Rattle.mj_hall_tests.proofs.hall.the_order_is_kept_where_labels_end.Given as goal

abbrev pub ghosts-alike_until : goal.ghosts-alike_until
ghosts-alike_until g a = record { name = a.blank.name; parts = a.blank.parts }
