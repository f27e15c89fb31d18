-- Both ends of a copy, the bytes on the way between them, and the copy's disk: all that may happen, step by step.
use Rattle.std.specs.Prelude.{ℕ, ◌≡◌, ◌+◌, ◌==◌, List, [], ◌∷◌, ◌++◌, length, get_or, take, drop, if◌then◌else◌}
use Rattle.mj_base.specs.declared.link.LinkEvent.TheVariants as event
use Rattle.mj_copy.specs.FollowRules.{Following, FollowTurn, follow_appended, follow_opened, follow_steps, new_follow}
use Rattle.mj_copy.specs.Messages.{Send, octets_of}
use Rattle.mj_copy.specs.ShipRules.{ShipTurn, Shipping, new_ship, ship_steps}
use Rattle.mj_copy.specs.declared.awaits.Awaits.{Awaits}
use Rattle.mj_copy.specs.declared.awaits.Awaits.TheVariants as waits
use Rattle.mj_copy.specs.declared.follow_act.FollowAct.{FollowAct}
use Rattle.mj_copy.specs.declared.follow_act.FollowAct.TheVariants as follows
use Rattle.mj_copy.specs.declared.ship_act.ShipAct.{ShipAct}
use Rattle.mj_copy.specs.declared.ship_act.ShipAct.TheVariants as ships
use Rattle.mj_journal.specs.FileText.{IsHeader, OpensAs, Stands}
use Rattle.mj_journal.specs.Appending.{StandsForEither}

-- a stopped store: its base, and the payloads of its commands
pub record Source : Type 0 where
  pub base : ℕ
  pub payloads : List (List ℕ)

abbrev pub total_of : Source → ℕ
total_of source = length source.payloads

abbrev pub payload_at : Source → ℕ → List ℕ
payload_at source n = get_or source.payloads n []

-- Links have numbers, by which each end goes up. `to_follow` and `to_ship`: on each link, the bytes that were sent and
-- not yet delivered. `copy`: the bytes of the copy's file; outside a call they are all synced.
pub record World : Type 0 where
  pub shipping : Shipping
  pub ship_link : ℕ
  pub following : Following
  pub follow_link : ℕ
  pub copy : List ℕ
  pub to_follow : ℕ → List ℕ
  pub to_ship : ℕ → List ℕ

-- what an end sends, and the link on which it is then
pub record Line : Type 0 where
  pub link : ℕ
  pub sent : ℕ → List ℕ

abbrev pub put : ℕ → List ℕ → (ℕ → List ℕ) → ℕ → List ℕ
put link octets sent k = if k == link then octets else sent k

abbrev pub send : List ℕ → Line → Line
send octets line = record line { sent = put line.link (line.sent line.link ++ octets) line.sent }

-- a new link is a later one
abbrev pub moved : ℕ → Line → Line
moved skip line = record line { link = line.link + 1 + skip }

abbrev pub ship_act : Source → ℕ → ShipAct → Line → Line
ship_act source skip (ships.Write octets) line = send octets line
ship_act source skip (ships.SendAt n) line = send (octets_of (Send n (payload_at source n))) line
ship_act source skip ships.Reopen line = moved skip line
ship_act source skip ships.Done line = line
ship_act source skip ships.NoAnswer line = line

abbrev pub ship_acts : Source → ℕ → List ShipAct → Line → Line
ship_acts source skip [] line = line
ship_acts source skip (act ∷ acts) line = ship_acts source skip acts (ship_act source skip act line)

abbrev pub follow_act : ℕ → FollowAct → Line → Line
follow_act skip (follows.Write octets) line = send octets line
follow_act skip (follows.Open base) line = line
follow_act skip (follows.Append payload) line = line
follow_act skip follows.Reopen line = moved skip line
follow_act skip follows.Done line = line
follow_act skip follows.NoAnswer line = line

abbrev pub follow_acts : ℕ → List FollowAct → Line → Line
follow_acts skip [] line = line
follow_acts skip (act ∷ acts) line = follow_acts skip acts (follow_act skip act line)

-- ---- the copy's disk

-- What a crash may leave, inside the call that the follower makes, too: an opening leaves the list, an append the list
-- or the one with the payload.
abbrev pub Leaves : Awaits → List ℕ → List ℕ → Type 0
Leaves waits.Link copy image = image ≡ copy
Leaves (waits.File base) copy image = (payloads : List (List ℕ)) → OpensAs payloads copy → OpensAs payloads image
Leaves (waits.Append payload) copy image =
    (base : ℕ) (head : List ℕ) (payloads : List (List ℕ)) → IsHeader base head → Stands head payloads copy → StandsForEither head payloads payload image

-- an opening that succeeds, with this base: the file stands for the list as which it opened
pub record Opens (base : ℕ) (copy now : List ℕ) (count : ℕ) : Type 0 where
  pub head : List ℕ
  pub payloads : List (List ℕ)
  pub is_header : IsHeader base head
  pub stands : Stands head payloads now
  pub count_is : count ≡ length payloads
  pub same : (others : List (List ℕ)) → OpensAs others copy → payloads ≡ others

abbrev pub Appends : List ℕ → List ℕ → List ℕ → Type 0
Appends payload copy now =
    (base : ℕ) (head : List ℕ) (payloads : List (List ℕ)) → IsHeader base head → Stands head payloads copy → Stands head (payloads ++ payload ∷ []) now

-- ---- steps

-- `n`: how many of the bytes on the way are delivered; `skip`: how many links are passed over where it starts on a new one
pub data Step : Type 0 where
  ShipGets : (n skip : ℕ) → Step
  ShipIdles : (skip : ℕ) → Step
  ShipLoses : (skip : ℕ) → Step
  ShipRestarts : (tries skip : ℕ) → Step
  FollowGets : (n skip : ℕ) → Step
  FollowIdles : (skip : ℕ) → Step
  FollowLoses : (skip : ℕ) → Step
  FollowOpens : (now : List ℕ) (count skip : ℕ) → Step
  FollowAppends : (now : List ℕ) (skip : ℕ) → Step
  FollowRefuses : (skip : ℕ) → Step
  FollowCrashes : (image : List ℕ) (tries skip : ℕ) → Step

abbrev pub ship_line : World → Line
ship_line w = record { link = w.ship_link; sent = w.to_follow }

abbrev pub follow_line : World → Line
follow_line w = record { link = w.follow_link; sent = w.to_ship }

abbrev pub ship_turned : Source → ℕ → ShipTurn → World → World
ship_turned source skip turn w = record w {
  shipping = turn.0;
  ship_link = (ship_acts source skip turn.1 (ship_line w)).link;
  to_follow = (ship_acts source skip turn.1 (ship_line w)).sent;
}

abbrev pub follow_turned : ℕ → FollowTurn → World → World
follow_turned skip turn w = record w {
  following = turn.0;
  follow_link = (follow_acts skip turn.1 (follow_line w)).link;
  to_ship = (follow_acts skip turn.1 (follow_line w)).sent;
}

abbrev pub ship_front : ℕ → World → List ℕ
ship_front n w = take n (w.to_ship w.ship_link)

abbrev pub follow_front : ℕ → World → List ℕ
follow_front n w = take n (w.to_follow w.follow_link)

abbrev pub without_ship_front : ℕ → World → World
without_ship_front n w = record w { to_ship = put w.ship_link (drop n (w.to_ship w.ship_link)) w.to_ship }

abbrev pub without_follow_front : ℕ → World → World
without_follow_front n w = record w { to_follow = put w.follow_link (drop n (w.to_follow w.follow_link)) w.to_follow }

-- what the follower does in the step
abbrev pub turn_of : Step → World → FollowTurn
turn_of (FollowGets n skip) w = follow_steps (event.Given (follow_front n w)) w.following
turn_of (FollowIdles skip) w = follow_steps event.Idle w.following
turn_of (FollowLoses skip) w = follow_steps event.End w.following
turn_of (FollowOpens now count skip) w = follow_opened count w.following
turn_of (FollowAppends now skip) w = follow_appended w.following
turn_of (FollowRefuses skip) w = follow_steps event.End w.following
turn_of (FollowCrashes image tries skip) w = (new_follow tries, [])
turn_of (ShipGets n skip) w = (w.following, [])
turn_of (ShipIdles skip) w = (w.following, [])
turn_of (ShipLoses skip) w = (w.following, [])
turn_of (ShipRestarts tries skip) w = (w.following, [])

abbrev pub after : Source → Step → World → World
after source (ShipGets n skip) w = ship_turned source skip (ship_steps (event.Given (ship_front n w)) w.shipping) (without_ship_front n w)
after source (ShipIdles skip) w = ship_turned source skip (ship_steps event.Idle w.shipping) w
after source (ShipLoses skip) w = ship_turned source skip (ship_steps event.End w.shipping) w
after source (ShipRestarts tries skip) w = record w { shipping = new_ship source.base (total_of source) tries; ship_link = w.ship_link + 1 + skip }
after source (FollowGets n skip) w = follow_turned skip (follow_steps (event.Given (follow_front n w)) w.following) (without_follow_front n w)
after source (FollowIdles skip) w = follow_turned skip (follow_steps event.Idle w.following) w
after source (FollowLoses skip) w = follow_turned skip (follow_steps event.End w.following) w
after source (FollowOpens now count skip) w = follow_turned skip (follow_opened count w.following) (record w { copy = now })
after source (FollowAppends now skip) w = follow_turned skip (follow_appended w.following) (record w { copy = now })
after source (FollowRefuses skip) w = follow_turned skip (follow_steps event.End w.following) w
after source (FollowCrashes image tries skip) w = record w { following = new_follow tries; follow_link = w.follow_link + 1 + skip; copy = image }

-- which steps there can be: the link is read where nothing is under way, and a disk does what it promises
abbrev pub Allowed : Step → World → Type 0
Allowed (FollowGets n skip) w = w.following.awaits ≡ waits.Link
Allowed (FollowIdles skip) w = w.following.awaits ≡ waits.Link
Allowed (FollowLoses skip) w = w.following.awaits ≡ waits.Link
Allowed (FollowOpens now count skip) w = (base : ℕ) × (w.following.awaits ≡ waits.File base) × Opens base w.copy now count
Allowed (FollowAppends now skip) w = (payload : List ℕ) × (w.following.awaits ≡ waits.Append payload) × Appends payload w.copy now
Allowed (FollowRefuses skip) w = (payload : List ℕ) × (w.following.awaits ≡ waits.Append payload)
Allowed (FollowCrashes image tries skip) w = Leaves w.following.awaits w.copy image
Allowed (ShipGets n skip) w = Unit {0}
Allowed (ShipIdles skip) w = Unit {0}
Allowed (ShipLoses skip) w = Unit {0}
Allowed (ShipRestarts tries skip) w = Unit {0}

abbrev pub first : Source → List ℕ → ℕ → ℕ → World
first source copy ship_tries follow_tries = record {
  shipping = new_ship source.base (total_of source) ship_tries;
  ship_link = 0;
  following = new_follow follow_tries;
  follow_link = 0;
  copy = copy;
  to_follow = λ k. [];
  to_ship = λ k. [];
}

-- the worlds that there can be, from the first one on
pub data Reached (source : Source) (start : World) : World → Type 0 where
  AtFirst : Reached source start start
  Then : (w : World) (step : Step) → Reached source start w → Allowed step w → Reached source start (after source step w)
