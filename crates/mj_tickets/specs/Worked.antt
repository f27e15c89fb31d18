-- Some commands worked out by hand: their payloads, and the tickets that they leave.
use Rattle.std.specs.Prelude.{ℕ, ◌≡◌, List, [], ◌∷◌, ◌++◌, map, Option, Some, None, option_map, is_some, Bool, true, false, codes, replicate}
use Rattle.mj_ids.specs.Ids.{id_of}
use Rattle.mj_tickets.specs.declared.command.TicketCmd.{TicketCmd}
use Rattle.mj_tickets.specs.declared.command.TicketCmd.TheVariants.{Accept, Store, Close}
use Rattle.mj_tickets.specs.Payload.{payload_of}
use Rattle.mj_tickets.specs.Fold.{Ticket, Fold, fold_of}

-- the id of a ticket under a seed of zeros
abbrev pub id : ℕ → List ℕ
id number = id_of (replicate 32 0) number

abbrev pub accept : ℕ → TicketCmd
accept number = Accept (id number) (codes "echo") (codes "hi" ∷ [])

abbrev pub store : ℕ → TicketCmd
store number = Store number (codes "hi!" ∷ [])

abbrev pub AcceptIsWritten : Type 0
AcceptIsWritten = payload_of (accept 1) ≡ 65 ∷ 229 ∷ 106 ∷ 93 ∷ 64 ∷ 40 ∷ 189 ∷ 134 ∷ 83 ∷ 128 ∷ 0 ∷ 0 ∷ 0 ∷ 0 ∷ 0 ∷ 0 ∷ 1 ∷ 4 ∷ codes "echo" ++ 0 ∷ 1 ∷ 0 ∷ 0 ∷ 0 ∷ 2 ∷ codes "hi"

abbrev pub StoreIsWritten : Type 0
StoreIsWritten = payload_of (store 1) ≡ 83 ∷ 0 ∷ 0 ∷ 0 ∷ 0 ∷ 0 ∷ 0 ∷ 0 ∷ 1 ∷ 0 ∷ 1 ∷ 0 ∷ 0 ∷ 0 ∷ 3 ∷ codes "hi!"

abbrev pub CloseIsWritten : Type 0
CloseIsWritten = payload_of (Close 1) ≡ 67 ∷ 0 ∷ 0 ∷ 0 ∷ 0 ∷ 0 ∷ 0 ∷ 0 ∷ 1 ∷ []

-- number, and whether the reply is stored
abbrev pub seen : Ticket (List (List ℕ)) → ℕ × Bool
seen t = (t.number, is_some t.reply)

-- the open tickets, and the next number
abbrev pub outcome : Fold (List (List ℕ)) → List (ℕ × Bool) × ℕ
outcome f = (map seen f.tickets, f.next)

abbrev pub left : ℕ → List TicketCmd → Option (List (ℕ × Bool) × ℕ)
left base cmds = option_map outcome (fold_of base cmds)

-- these commands leave these tickets, and this next number
abbrev pub Leave : ℕ → List TicketCmd → List (ℕ × Bool) → ℕ → Type 0
Leave base cmds tickets next = left base cmds ≡ Some (tickets, next)

abbrev pub AreRefused : ℕ → List TicketCmd → Type 0
AreRefused base cmds = left base cmds ≡ None

-- a ticket is kept, its reply is stored, and it is closed
abbrev pub TicketsComeAndGo : Type 0
TicketsComeAndGo =
    Leave 1 (accept 1 ∷ accept 2 ∷ []) ((1, false) ∷ (2, false) ∷ []) 3
    × Leave 1 (accept 1 ∷ accept 2 ∷ store 1 ∷ []) ((1, true) ∷ (2, false) ∷ []) 3
    × Leave 1 (accept 1 ∷ store 1 ∷ Close 1 ∷ accept 2 ∷ []) ((2, false) ∷ []) 3
    × AreRefused 1 (accept 1 ∷ store 1 ∷ store 1 ∷ [])
    × AreRefused 1 (accept 1 ∷ Close 1 ∷ store 1 ∷ [])
    × AreRefused 1 (accept 1 ∷ Close 1 ∷ Close 1 ∷ [])

-- a file that begins with tickets of an earlier one has its base above them
abbrev pub KeptNumbersAreTaken : Type 0
KeptNumbersAreTaken =
    Leave 3 (accept 1 ∷ store 1 ∷ accept 2 ∷ []) ((1, true) ∷ (2, false) ∷ []) 3
    × Leave 3 (accept 2 ∷ accept 3 ∷ accept 4 ∷ []) ((2, false) ∷ (3, false) ∷ (4, false) ∷ []) 5
    × Leave 9 (accept 9 ∷ []) ((9, false) ∷ []) 10

abbrev pub OtherNumbersAreRefused : Type 0
OtherNumbersAreRefused =
    AreRefused 1 (accept 2 ∷ [])
    × AreRefused 1 (accept 1 ∷ accept 1 ∷ [])
    × AreRefused 3 (accept 2 ∷ accept 1 ∷ [])
    × AreRefused 3 (accept 0 ∷ [])
    × AreRefused 3 (accept 4 ∷ [])
    × AreRefused 3 (accept 3 ∷ accept 2 ∷ [])
