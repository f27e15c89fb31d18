-- What follow does at what its link gives. Opening its file and appending are acts; it goes on when they are done.
use Rattle.std.specs.Prelude.{ℕ, zero, suc, ◌+◌, ◌==◌, nat_lt, Bool, true, false, ◌&&◌, List, [], ◌∷◌, ◌++◌, length, if◌then◌else◌}
use Rattle.mj_base.specs.declared.link.LinkEvent.{LinkEvent}
use Rattle.mj_base.specs.declared.link.LinkEvent.TheVariants as event
use Rattle.mj_copy.specs.Messages.{Message, Base, Have, Send, End, Reading, Whole, Short, Wrong, octets_of, reading}
use Rattle.mj_copy.specs.ShipRules.{is_going}
use Rattle.mj_copy.specs.declared.awaits.Awaits.{Awaits}
use Rattle.mj_copy.specs.declared.awaits.Awaits.TheVariants as waits
use Rattle.mj_copy.specs.declared.follow_act.FollowAct.{FollowAct}
use Rattle.mj_copy.specs.declared.follow_act.FollowAct.TheVariants as act
use Rattle.mj_copy.specs.declared.phase.Phase.{Phase}
use Rattle.mj_copy.specs.declared.phase.Phase.TheVariants.{Going, Finished, GivenUp}

abbrev pub awaits_link : Awaits → Bool
awaits_link waits.Link = true
awaits_link (waits.File base) = false
awaits_link (waits.Append payload) = false

-- `based`: a Base was read on this link; `base` and `count`: the base with which its file was opened, and the file's
-- commands, once it is opened
pub record Following : Type 0 where
  pub tries : ℕ
  pub kept : List ℕ
  pub quiet : ℕ
  pub used : ℕ
  pub based : Bool
  pub opened : Bool
  pub base : ℕ
  pub count : ℕ
  pub awaits : Awaits
  pub phase : Phase

abbrev pub new_follow : ℕ → Following
new_follow tries = record { tries = tries; kept = []; quiet = 0; used = 0; based = false; opened = false; base = 0; count = 0; awaits = waits.Link; phase = Going }

-- what it becomes, and its acts
abbrev pub FollowTurn : Type 0
FollowTurn = Following × List FollowAct

-- the link has ended, or counts as ended: one try is used
abbrev pub follow_ends : Following → FollowTurn
follow_ends f =
    if nat_lt (f.used + 1) f.tries
    then (record f { kept = []; quiet = 0; used = f.used + 1; based = false; awaits = waits.Link }, act.Reopen ∷ [])
    else (record f { phase = GivenUp; awaits = waits.Link }, act.NoAnswer ∷ [])

abbrev pub follow_idles : Following → FollowTurn
follow_idles f = if nat_lt (f.quiet + 1) 75 then (record f { quiet = f.quiet + 1 }, []) else follow_ends f

-- after a lawful message: how many commands it has
abbrev pub answers_have : Following → FollowTurn
answers_have f = (record f { quiet = 0; used = 0; based = true; awaits = waits.Link }, act.Write (octets_of (Have f.count)) ∷ [])

-- the first Base opens the file; a later one with another number counts as the link's end, so that no two stores mix
abbrev pub takes_base : ℕ → Following → FollowTurn
takes_base base f =
    if f.opened then (if base == f.base then answers_have f else follow_ends f)
    else (record f { base = base; awaits = waits.File base }, act.Open base ∷ [])

abbrev pub takes_send : ℕ → List ℕ → Following → FollowTurn
takes_send at payload f =
    if nat_lt at f.count then answers_have f
    else (if at == f.count then (record f { awaits = waits.Append payload }, act.Append payload ∷ []) else follow_ends f)

abbrev pub takes_end : Following → FollowTurn
takes_end f = (record f { phase = Finished; quiet = 0; used = 0 }, act.Done ∷ [])

abbrev pub follow_takes : Message → Following → FollowTurn
follow_takes (Base base) f = takes_base base f
follow_takes (Send at payload) f = if f.based then takes_send at payload f else follow_ends f
follow_takes End f = if f.based then takes_end f else follow_ends f
follow_takes (Have count) f = follow_ends f

abbrev pub follow_then : (Following → FollowTurn) → FollowTurn → FollowTurn
follow_then next turn = ((next turn.0).0, turn.1 ++ (next turn.0).1)

abbrev pub follow_read : (Following → FollowTurn) → Reading → Following → FollowTurn
follow_read next Short f = (f, [])
follow_read next Wrong f = follow_ends f
follow_read next (Whole message rest) f = follow_then next (follow_takes message (record f { kept = rest }))

-- the messages that it has, up to one that opens or appends, at most so many
abbrev pub follow_all : ℕ → Following → FollowTurn
follow_all zero f = (f, [])
follow_all (suc most) f =
    if is_going f.phase && awaits_link f.awaits then follow_read (follow_all most) (reading f.kept) f else (f, [])

abbrev pub follow_gains : Following → FollowTurn
follow_gains f = follow_all (length f.kept) f

abbrev pub follow_meets : LinkEvent → Following → FollowTurn
follow_meets (event.Given octets) f = follow_gains (record f { kept = f.kept ++ octets })
follow_meets event.Idle f = follow_idles f
follow_meets event.End f = follow_ends f

abbrev pub follow_steps : LinkEvent → Following → FollowTurn
follow_steps e f = if is_going f.phase then follow_meets e f else (f, [])

-- says how many commands it has, and goes on with what is left
abbrev pub goes_on : Following → FollowTurn
goes_on f = follow_then follow_gains (answers_have f)

-- the file is open and has so many commands
abbrev pub follow_opened : ℕ → Following → FollowTurn
follow_opened count f = goes_on (record f { opened = true; count = count })

-- the payload is appended
abbrev pub follow_appended : Following → FollowTurn
follow_appended f = goes_on (record f { count = f.count + 1 })

-- ---- runs

-- what the end is told: what its link gave, that its file is open and has so many commands, that the payload is appended
pub data Told : Type 0 where
  Met : (e : LinkEvent) → Told
  Opened : (count : ℕ) → Told
  Appended : Told

abbrev pub follow_turn : Told → Following → FollowTurn
follow_turn (Met e) f = follow_steps e f
follow_turn (Opened count) f = follow_opened count f
follow_turn Appended f = follow_appended f

-- one after the other
abbrev pub follow_runs : List Told → Following → FollowTurn
follow_runs [] f = (f, [])
follow_runs (told ∷ more) f = ((follow_runs more (follow_turn told f).0).0, (follow_turn told f).1 ++ (follow_runs more (follow_turn told f).0).1)
