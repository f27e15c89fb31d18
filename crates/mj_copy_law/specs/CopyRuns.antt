-- Worked runs of both ends, and of the world with a crash inside an append.
use Rattle.std.specs.Prelude.{◌≡◌, ℕ, List, [], ◌∷◌, ◌++◌, length, replicate, take}
use Rattle.mj_base.specs.declared.link.LinkEvent.{LinkEvent}
use Rattle.mj_base.specs.declared.link.LinkEvent.TheVariants as event
use Rattle.mj_copy.specs.FollowRules.{Appended, Met, Opened, follow_runs, new_follow}
use Rattle.mj_copy.specs.Messages.{Base, End, Have, Message, Send, octets_of}
use Rattle.mj_copy.specs.ShipRules.{new_ship, ship_runs}
use Rattle.mj_copy.specs.declared.follow_act.FollowAct.TheVariants as follows
use Rattle.mj_copy.specs.declared.phase.Phase.TheVariants.{Finished}
use Rattle.mj_copy.specs.declared.ship_act.ShipAct.TheVariants as ships
use Rattle.mj_copy_law.specs.World.{FollowCrashes, FollowGets, FollowOpens, Reached, ShipGets, ShipIdles, ShipLoses, Source, Step, World, after, first}
use Rattle.mj_journal.specs.FileText.{header_2, text}

-- payloads of three commands: a ticket is accepted, its reply is stored, and it is closed
abbrev pub accept : List ℕ
accept = 65 ∷ 229 ∷ 106 ∷ 93 ∷ 64 ∷ 40 ∷ 189 ∷ 134 ∷ 83 ∷ 128 ∷ 0 ∷ 0 ∷ 0 ∷ 0 ∷ 0 ∷ 0 ∷ 1 ∷ 4 ∷ 101 ∷ 99 ∷ 104 ∷ 111 ∷ 0 ∷ 1 ∷ 0 ∷ 0 ∷ 0 ∷ 2 ∷ 104 ∷ 105 ∷ []

abbrev pub close : List ℕ
close = 67 ∷ 0 ∷ 0 ∷ 0 ∷ 0 ∷ 0 ∷ 0 ∷ 0 ∷ 1 ∷ []

abbrev pub gave : Message → LinkEvent
gave message = event.Given (octets_of message)

-- Have(0) to Have(3) at three commands with base 1: the base, three commands, the end
abbrev pub ShipsThree : Type 0
ShipsThree =
    ((ship_runs (gave (Have 0) ∷ gave (Have 1) ∷ gave (Have 2) ∷ gave (Have 3) ∷ []) (new_ship 1 3 3)).1
    ≡ ships.Write (0 ∷ 9 ∷ 66 ∷ 0 ∷ 0 ∷ 0 ∷ 0 ∷ 0 ∷ 0 ∷ 0 ∷ 1 ∷ []) ∷ ships.SendAt 0 ∷ ships.SendAt 1 ∷ ships.SendAt 2 ∷ ships.Write (0 ∷ 1 ∷ 69 ∷ []) ∷ ships.Done ∷ [])
    × (take 11 (octets_of (Send 0 accept)) ≡ 0 ∷ 39 ∷ 83 ∷ 0 ∷ 0 ∷ 0 ∷ 0 ∷ 0 ∷ 0 ∷ 0 ∷ 0 ∷ [])

-- the same where a piece ends inside a message
abbrev pub ShipsInPieces : Type 0
ShipsInPieces =
    (ship_runs (event.Given (octets_of (Have 0) ++ octets_of (Have 1) ++ take 5 (octets_of (Have 2))) ∷ event.Given (0 ∷ 0 ∷ 0 ∷ 0 ∷ 0 ∷ 2 ∷ []) ∷ gave (Have 3) ∷ []) (new_ship 1 3 3)).1
    ≡ (ship_runs (gave (Have 0) ∷ gave (Have 1) ∷ gave (Have 2) ∷ gave (Have 3) ∷ []) (new_ship 1 3 3)).1

-- Base(1), Send(0) twice, Send(2) at an empty file: Have(0), Have(1), Have(1), a new link; the file has 52 bytes
abbrev pub FollowsOne : Type 0
FollowsOne =
    ((follow_runs (Met (gave (Base 1)) ∷ Opened 0 ∷ Met (gave (Send 0 accept)) ∷ Appended ∷ Met (gave (Send 0 accept)) ∷ Met (gave (Send 2 close)) ∷ []) (new_follow 3)).1
    ≡ follows.Open 1 ∷ follows.Write (octets_of (Have 0)) ∷ follows.Append accept ∷ follows.Write (octets_of (Have 1)) ∷ follows.Write (octets_of (Have 1)) ∷ follows.Reopen ∷ [])
    × (length (text (header_2 1) (accept ∷ [])) ≡ 52)

-- a Base with another number, and an End on a link without a Base, count as the link's end
abbrev pub FollowsOneStore : Type 0
FollowsOneStore =
    (follow_runs (Met (gave (Base 1)) ∷ Opened 0 ∷ Met (gave (Base 2)) ∷ Met (gave End) ∷ Met (gave (Base 1)) ∷ Met (gave End) ∷ []) (new_follow 3)).1
    ≡ follows.Open 1 ∷ follows.Write (octets_of (Have 0)) ∷ follows.Reopen ∷ follows.Reopen ∷ follows.Write (octets_of (Have 0)) ∷ follows.Done ∷ []

-- a link that is silent uses a try at its 75th Idle; the third try is the last
abbrev pub GivesUp : Type 0
GivesUp = (follow_runs (replicate 225 (Met event.Idle)) (new_follow 3)).1 ≡ follows.Reopen ∷ follows.Reopen ∷ follows.NoAnswer ∷ []

-- ---- the world

-- one command is shipped
abbrev pub one : Source
one = record { base = 1; payloads = close ∷ [] }

abbrev pub empty_file : List ℕ
empty_file = text (header_2 1) []

abbrev pub whole_file : List ℕ
whole_file = text (header_2 1) (close ∷ [])

-- the last byte of a message is late, the follower crashes inside the append, and a new link ends it
abbrev pub steps_of_one : List Step
steps_of_one =
    ShipIdles 0 ∷ FollowGets 10 0 ∷ FollowGets 1 0 ∷ FollowOpens empty_file 0 0 ∷ ShipGets 11 0 ∷ FollowGets 20 0
    ∷ FollowCrashes whole_file 3 0 ∷ ShipLoses 0 ∷ FollowGets 11 0 ∷ FollowOpens whole_file 1 0 ∷ ShipGets 11 0 ∷ FollowGets 3 0 ∷ []

abbrev pub after_all : Source → List Step → World → World
after_all source [] w = w
after_all source (step ∷ steps) w = after_all source steps (after source step w)

-- both are done, on their second link, and the copy is whole; and there is such a run
abbrev pub ShipsOne : Type 0
ShipsOne =
    (final : World)
    × (final ≡ after_all one steps_of_one (first one [] 3 3))
    × (final.shipping.phase ≡ Finished) × (final.following.phase ≡ Finished) × (final.copy ≡ whole_file) × (final.ship_link ≡ 1) × (final.follow_link ≡ 1)
    × Reached one (first one [] 3 3) final
