use Rattle.mj_copy_law.proofs.Runs.{follows_one, follows_one_store, gives_up, ships_in_pieces, ships_one, ships_three}
use Rattle.mj_copy_law.proofs.worked.the_worked_copies.Goals as goal

pub returns : goal.returns
returns c = record { ships = ships_three; in_pieces = ships_in_pieces; follows = follows_one; one_store = follows_one_store; gives_up = gives_up; world = ships_one }
