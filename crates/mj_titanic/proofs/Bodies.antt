-- What was read is the machine's ticket's.
use Rattle.std.proofs.Common.{◌≡◌, ◌≢◌, ℕ, List, Option, None, sym, ap, ◌∙◌}
use Rattle.std.specs.Prelude.{option_and_then}
use Rattle.mj_disk.specs.declared.disk.Disk.{Ghosts}
use Rattle.mj_tickets.specs.declared.place.Place.{Place}
use Rattle.mj_tickets.specs.Fold.{Fold, Ticket, ticket_of}
use Rattle.mj_store.specs.Bodies.{GivesBody, GivesReply, reply_at}
use Rattle.mj_store.specs.Standing.{StoreValue}
use Rattle.mj_machine.specs.StoreState.{body_in, tickets_of}
use Rattle.mj_keeper.specs.declared.keeper.Keeper.{Keeper}
use Rattle.mj_keeper.specs.declared.keeper.Shelf.TheVariants as shelves
use Rattle.mj_keeper.specs.Standing.{IsTicketBody, IsTicketReply, reply_of}
use Rattle.mj_titanic.proofs.Alike.{has-both}
use Rattle.mj_titanic.proofs.Attempts.{opens-on}

pub replied-open : (n : ℕ) (f : Fold Place) → reply_at n f ≢ None → ticket_of n f ≢ None
replied-open n f some none = some (ap (λ (o : Option (Ticket Place)). option_and_then (λ (t : Ticket Place). t.reply) o) none)

module _ {D : Type 0} (disks : Ghosts D) (number : ℕ) (keeper : Keeper) (held : StoreValue) (disk : D) (frames : List (List ℕ)) (is : keeper.shelf ≡ shelves.Open held) (there : ticket_of number held.index ≢ None) where
  pub body-is : GivesBody disks number held disk frames → IsTicketBody disks number keeper disk frames
  body-is gives store sees =
      let o = opens-on disks keeper.limits keeper.shelf held disk store is sees.stands.by in
      let both = has-both store held.index o.holds.knows.index_is number there in
      gives (sees.telling o.stored) store.base store.commands o.holds (tickets_of store) both.ticket both.fold both.found ∙ sym (ap body_in both.found)

  pub reply-is : GivesReply disks number held disk frames → IsTicketReply disks number keeper disk frames
  reply-is gives store sees =
      let o = opens-on disks keeper.limits keeper.shelf held disk store is sees.stands.by in
      let both = has-both store held.index o.holds.knows.index_is number there in
      gives (sees.telling o.stored) store.base store.commands o.holds (tickets_of store) both.ticket both.fold both.found ∙ sym (ap reply_of both.found)
