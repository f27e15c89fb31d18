-- Which commands make the open tickets of a file anew.
use Rattle.std.specs.Prelude.{◌≡◌, ℕ, List, [], ◌∷◌, ◌++◌, filter, nat_le, Option, Some, None}
use Rattle.mj_tickets.specs.declared.command.TicketCmd.{TicketCmd}
use Rattle.mj_tickets.specs.declared.command.TicketCmd.TheVariants.{Accept, Store}
use Rattle.mj_tickets.specs.Fold.{Fold, Ticket, fold_of}

abbrev pub kept_reply : ℕ → Option (List (List ℕ)) → List TicketCmd
kept_reply number None = []
kept_reply number (Some reply) = Store number reply ∷ []

-- its accept, and where a reply is stored, its store
abbrev pub kept_ticket : Ticket (List (List ℕ)) → List TicketCmd
kept_ticket t = Accept t.id t.service t.body ∷ kept_reply t.number t.reply

abbrev pub kept_all : List (Ticket (List (List ℕ))) → List TicketCmd
kept_all [] = []
kept_all (t ∷ ts) = kept_ticket t ++ kept_all ts

-- those of each open ticket, by number
abbrev pub kept : Fold (List (List ℕ)) → List TicketCmd
kept f = kept_all f.tickets

-- the open tickets up to this number, and their commands
abbrev pub upto : ℕ → Fold (List (List ℕ)) → List (Ticket (List (List ℕ)))
upto n f = filter (λ t. nat_le t.number n) f.tickets

abbrev pub kept_upto : ℕ → Fold (List (List ℕ)) → List TicketCmd
kept_upto n f = kept_all (upto n f)

-- the commands leave these tickets, behind a file with their next number as its base
abbrev pub LeavesTickets : Fold (List (List ℕ)) → List TicketCmd → Type 0
LeavesTickets f cmds = (g : Fold (List (List ℕ))) × (fold_of f.next cmds ≡ Some g) × (g.tickets ≡ f.tickets) × (g.next ≡ f.next)
