-- The spelling of worked runs with a store: Titanic's messages (ZeroMQ RFC 9), ids, and notes.
use Rattle.std.specs.Prelude.{ℕ, Bool, List, [], ◌∷◌, replicate, codes}
use Rattle.mj_base.specs.declared.event.Note.TheVariants.{Again, Shut}
use Rattle.mj_base.specs.declared.event.Out.{Out}
use Rattle.mj_base.specs.declared.event.Out.TheVariants.{Note}
use Rattle.mj_tickets.specs.declared.command.TicketCmd.{TicketCmd}
use Rattle.mj_tickets.specs.declared.command.TicketCmd.TheVariants.{Accept}
use Rattle.mj_machine.specs.StoreState.{Store, opened_store}
use Rattle.mj_machine.specs.RunSpelling.{asking, asking_with, worker}

-- ---- the store

abbrev pub zeros : List ℕ
zeros = replicate 32 0

-- over a file with these commands
abbrev pub over : List TicketCmd → Store
over commands = opened_store zeros 1 commands

-- the ids of the first two tickets under a seed of zeros, and their texts
abbrev pub first_id : List ℕ
first_id = 229 ∷ 106 ∷ 93 ∷ 64 ∷ 40 ∷ 189 ∷ 134 ∷ 83 ∷ 128 ∷ 0 ∷ 0 ∷ 0 ∷ 0 ∷ 0 ∷ 0 ∷ 1 ∷ []

abbrev pub second_id : List ℕ
second_id = 184 ∷ 25 ∷ 210 ∷ 189 ∷ 26 ∷ 237 ∷ 141 ∷ 160 ∷ 128 ∷ 0 ∷ 0 ∷ 0 ∷ 0 ∷ 0 ∷ 0 ∷ 2 ∷ []

abbrev pub first : List ℕ
first = codes "e56a5d40-28bd-8653-8000-000000000001"

abbrev pub second : List ℕ
second = codes "b819d2bd-1aed-8da0-8000-000000000002"

abbrev pub accept : List ℕ → List ℕ → List ℕ → TicketCmd
accept id service body = Accept id service (body ∷ [])

-- the store is shut at this act; or open again at it, and the command in doubt was found or not
abbrev pub shut : ℕ → List Out
shut k = Note (Shut k) ∷ []

abbrev pub again : ℕ → Bool → List Out
again k found = Note (Again k found) ∷ []

-- ---- what clients say and hear

abbrev pub submit : List ℕ → List ℕ → List (List ℕ)
submit service body = asking_with (codes "titanic.request") (service ∷ body ∷ [])

abbrev pub submitted : List ℕ → List (List ℕ)
submitted id = asking_with (codes "titanic.request") (codes "200" ∷ id ∷ [])

abbrev pub submit_code : List ℕ → List (List ℕ)
submit_code digits = asking (codes "titanic.request") digits

abbrev pub fetch : List ℕ → List (List ℕ)
fetch id = asking (codes "titanic.reply") id

abbrev pub fetched : List ℕ → List (List ℕ)
fetched body = asking_with (codes "titanic.reply") (codes "200" ∷ body ∷ [])

abbrev pub fetch_code : List ℕ → List (List ℕ)
fetch_code digits = asking (codes "titanic.reply") digits

abbrev pub finish : List ℕ → List (List ℕ)
finish id = asking (codes "titanic.close") id

abbrev pub finish_code : List ℕ → List (List ℕ)
finish_code digits = asking (codes "titanic.close") digits

-- ---- what workers hear and say

-- the address of ticket n
abbrev pub ticket : ℕ → List ℕ
ticket n = 84 ∷ 0 ∷ 0 ∷ 0 ∷ 0 ∷ 0 ∷ 0 ∷ 0 ∷ n ∷ []

abbrev pub order : ℕ → List ℕ → List (List ℕ)
order n body = worker ((2 ∷ []) ∷ ticket n ∷ [] ∷ body ∷ [])

abbrev pub serving : ℕ → List ℕ → List (List ℕ)
serving n body = worker ((3 ∷ []) ∷ ticket n ∷ [] ∷ body ∷ [])
