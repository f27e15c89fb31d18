-- The reading of a stored reply, with the reply that is told behind it.
use Rattle.std.proofs.Common.{◌≡◌, ◌∷◌, ℕ, Bool, true, false, List, Option, None, refl, sym, ap, ◌∙◌}
use Rattle.std.specs.Prelude.{codes}
use Rattle.mj_disk.specs.declared.disk.Disk.{Ghosts}
use Rattle.mj_queue.specs.declared.request.Request.{Request}
use Rattle.mj_tickets.specs.Fold.{ticket_of}
use Rattle.mj_machine.specs.StoreState.{tickets_of}
use Rattle.mj_machine.specs.MachineState.{Act, Whole}
use Rattle.mj_machine.specs.Acts.{quiet, ◌then◌}
use Rattle.mj_machine.specs.DiskActs.{attempted, fails, reading, routes}
use Rattle.mj_machine.specs.TitanicStep.{answers, fails_to}
use Rattle.mj_keeper.specs.Standing.{IsTicketReply, is_open, reply_of}
use Rattle.mj_titanic.specs.Acting.{IsAt, Parts}
use Rattle.mj_titanic.specs.Services.{frames_in, showing}
use Rattle.mj_titanic.proofs.Continuing.{after}
use Rattle.mj_titanic.proofs.Following.{reading-are}

-- the reply that the machine has
abbrev pub tells_it : ℕ → Request → ℕ → Act
tells_it n request ticket v = routes (answers n request (codes "200" ∷ frames_in (reply_of (ticket_of ticket (tickets_of v.store))))) v

showing-it : (n : ℕ) (request : Request) (ticket : ℕ) (w : Whole) → showing n request ticket w ≡ reading (fails_to n request) (tells_it n request ticket) w
showing-it n request ticket w = by (fails w)
  where
    by : (b : Bool) → attempted b None (fails_to n request) (routes (answers n request (codes "200" ∷ frames_in (reply_of (ticket_of ticket (tickets_of w.store)))))) w ≡ attempted b None (fails_to n request) (tells_it n request ticket) w
    by true = refl
    by false = refl

module _ {D : Type 0} (disks : Ghosts D) (old : Parts) (disk : D) (n : ℕ) (request : Request) (ticket : ℕ) (open_is : is_open old.keeper.shelf ≡ true) where
  pub showing-are : (w : Whole) → IsAt disks old disk w → showing n request ticket w ≡ (reading quiet quiet w then after (fails_to n request) (tells_it n request ticket))
  showing-are w at = showing-it n request ticket w ∙ reading-are disks old disk (fails_to n request) (tells_it n request ticket) open_is w at

  pub showing-read : (frames : List (List ℕ)) → IsTicketReply disks ticket old.keeper disk frames
      → (w : Whole) → IsAt disks old disk w → showing n request ticket w ≡ (reading quiet quiet w then after (fails_to n request) (routes (answers n request (codes "200" ∷ frames))))
  showing-read frames is w at =
      ap (λ (o : Option (List (List ℕ))). reading (fails_to n request) (routes (answers n request (codes "200" ∷ frames_in o))) w) (sym (is w.store at.store))
      ∙ reading-are disks old disk (fails_to n request) (routes (answers n request (codes "200" ∷ frames))) open_is w at
