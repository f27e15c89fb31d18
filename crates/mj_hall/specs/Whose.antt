-- Whose requests leave, and which ones stay then.
use Rattle.std.specs.Prelude.{Bool, not}
use Rattle.mj_queue.specs.declared.request.Request.{Request}
use Rattle.mj_queue.specs.Settling.{is_client, is_of_client, is_ticket}
use Rattle.mj_hall.specs.declared.leaving.Whose.{Whose}
use Rattle.mj_hall.specs.declared.leaving.Whose.TheVariants.{Client, Ticket, Tickets}

-- the request stays
abbrev pub stays : Whose → Request → Bool
stays (Client n) r = not (is_client n r.origin)
stays (Ticket n) r = not (is_ticket n r.origin)
stays Tickets r = is_of_client r.origin
