-- The rules of a client's end: from what was asked of it and what its link gave, what it does.
use Rattle.std.specs.Prelude.{ℕ, ◌+◌, ◌-◌, nat_lt, Bool, true, false, ◌&&◌, List, [], ◌∷◌, ◌++◌, Option, None, Some, is_some, if◌then◌else◌}
use Rattle.std.specs.Str.{bytes_eq}
use Rattle.mj_base.specs.declared.link.LinkEvent.{LinkEvent}
use Rattle.mj_base.specs.declared.link.LinkEvent.TheVariants as event
use Rattle.mj_base.specs.declared.version.Version.{Version}
use Rattle.mj_client_cmd.specs.declared.command.ClientReply.{ClientReply}
use Rattle.mj_peer.specs.PeerTexts.{client_type, hello, reply_in, request_text, same_version}
use Rattle.mj_peer.specs.Sweeping.{beyond, is_ready, sweep}
use Rattle.mj_peer.specs.declared.act.Act.{Act}
use Rattle.mj_peer.specs.declared.act.Act.TheVariants as act
use Rattle.mj_peer.specs.declared.verdict.Verdict.{Verdict}
use Rattle.mj_peer.specs.declared.verdict.Verdict.TheVariants.{Stay, Again, Lost}
use Rattle.mj_peer.specs.declared.talk.Talk.{Talk}
use Rattle.mj_wire.specs.declared.item.WireItem.{WireItem}
use Rattle.mj_wire.specs.declared.item.WireItem.TheVariants as item

-- what it was told and has counted, and the stream of the present link
pub record Client : Type 0 where
  pub talk : Talk
  pub stream : List ℕ

-- the client after a call, with the call's acts
abbrev pub Turn : Type 0
Turn = Client × List Act

-- ---- a link begins

abbrev pub greets : Version → List Act
greets version = act.Write (hello (client_type version)) ∷ []

abbrev pub reopens : Client → Turn
reopens c = (record { talk = record c.talk { linked = true }; stream = [] }, act.Reopen ∷ greets c.talk.version)

-- ---- quiet events: `Idle`, the link's end, a fault of its stream

-- with no request open an end opens the link anew. A try has `wait` quiet events: behind the last one of the last try the
-- request is given up, behind the last one of another the link is opened anew. An end opens it anew in the same try, too
abbrev pub verdict : Bool → Option (List (List ℕ)) → Talk → Verdict
verdict ended None t = if ended then Again else Stay
verdict ended (Some body) t =
    if nat_lt t.quiet (t.wait - 1) then (if ended then Again else Stay)
    else if nat_lt t.tried (t.tries - 1) then Again
    else Lost

abbrev pub counted : Option (List (List ℕ)) → Talk → Talk
counted None t = t
counted (Some body) t =
    if nat_lt t.quiet (t.wait - 1) then record t { quiet = t.quiet + 1 }
    else if nat_lt t.tried (t.tries - 1) then record t { tried = t.tried + 1; quiet = 0 }
    else record t { over = true; request = None }

abbrev pub follows : Verdict → Client → Turn
follows Stay c = (c, [])
follows Again c = reopens c
follows Lost c = (c, act.NoAnswer ∷ [])

abbrev pub quiets : Bool → Client → Turn
quiets ended c = follows (verdict ended c.talk.request c.talk) (record c { talk = counted c.talk.request c.talk })

-- ---- what the broker says

-- the open request, once the broker's READY was read
abbrev pub request_acts : Option (List (List ℕ)) → Talk → List Act
request_acts None t = []
request_acts (Some body) t = act.Write (request_text t.version t.service body) ∷ []

-- a reply to the open request: its version's and its service's
abbrev pub is_its : Talk → ClientReply → Bool
is_its t r = is_some t.request && (same_version r.version t.version && bytes_eq r.service t.service)

abbrev pub answers : Bool → List (List ℕ) → Client → Turn
answers true body c = (record c { talk = record c.talk { request = None } }, act.Done body ∷ [])
answers false body c = (c, act.Part body ∷ [])

abbrev pub hears : Option ClientReply → Client → Turn
hears None c = (c, [])
hears (Some r) c = if is_its c.talk r then answers r.last r.body c else (c, [])

abbrev pub meets : WireItem → Client → Turn
meets item.Accepted c = (c, [])
meets (item.Ready kind) c = (c, request_acts c.talk.request c.talk)
meets (item.Message message) c = hears (reply_in message) c
meets (item.Ended reason at) c = quiets true c

-- ---- calls

abbrev pub gives : List ℕ → Client → Turn
gives piece c = sweep meets (beyond c.stream piece) (record c { stream = c.stream ++ piece })

abbrev pub happens : LinkEvent → Client → Turn
happens (event.Given piece) c = gives piece c
happens event.Idle c = quiets false c
happens event.End c = quiets true c

-- what the link gave; after `NoAnswer` nothing is done any more
abbrev pub steps : LinkEvent → Client → Turn
steps e c = if c.talk.over then (c, []) else happens e c

abbrev pub asked : List (List ℕ) → Talk → Talk
asked body t = record t { linked = true; request = Some body; tried = 0; quiet = 0 }

-- the first request of an end whose link was never opened anew begins the link
abbrev pub begins : Bool → Version → List Act
begins linked version = if linked then [] else greets version

abbrev pub opened : Bool → Talk → List Act
opened ready t = if ready then request_acts t.request t else []

abbrev pub opens : List (List ℕ) → Client → Turn
opens body c = (record c { talk = asked body c.talk }, begins c.talk.linked c.talk.version ++ opened (is_ready c.stream) (asked body c.talk))

-- a request
abbrev pub asks : List (List ℕ) → Client → Turn
asks body c = if c.talk.over then (c, []) else opens body c

-- ---- runs

-- what is done to an end: a request is asked, or its link gives something
pub data Call : Type 0 where
  Asked : (body : List (List ℕ)) → Call
  Met : (event : LinkEvent) → Call

abbrev pub turn_of : Call → Client → Turn
turn_of (Asked body) c = asks body c
turn_of (Met e) c = steps e c

-- the client behind these calls
abbrev pub after : List Call → Client → Client
after [] c = c
after (call ∷ calls) c = after calls (turn_of call c).0

-- the acts of these calls
abbrev pub acts_of : List Call → Client → List Act
acts_of [] c = []
acts_of (call ∷ calls) c = (turn_of call c).1 ++ acts_of calls (turn_of call c).0

abbrev pub fresh_talk : Version → List ℕ → ℕ → ℕ → Talk
fresh_talk version service tries wait =
    record { version = version; service = service; tries = tries; wait = wait; linked = false; request = None; tried = 0; quiet = 0; over = false }

-- an end of which nothing was asked
abbrev pub fresh : Version → List ℕ → ℕ → ℕ → Client
fresh version service tries wait = record { talk = fresh_talk version service tries wait; stream = [] }
