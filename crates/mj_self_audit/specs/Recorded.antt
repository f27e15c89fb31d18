-- The transcript of a run of the machine: what comes in, as it comes, and what each step does to the lanes.
use Rattle.std.specs.Prelude.{ℕ, List, [], ◌∷◌, ◌++◌, flat_map, Option, None, Some}
use Rattle.mj_base.specs.declared.event.Event.{Event}
use Rattle.mj_base.specs.declared.event.Event.TheVariants as events
use Rattle.mj_base.specs.declared.event.Out.{Out}
use Rattle.mj_base.specs.declared.event.Out.TheVariants as outs
use Rattle.mj_base.specs.declared.limits.Limits.{Limits}
use Rattle.mj_queue.specs.declared.request.Origin.TheVariants.{Client}
use Rattle.mj_machine.specs.declared.connection.Connection.{Connection}
use Rattle.mj_machine.specs.Connections.{connection_of, number_on}
use Rattle.mj_machine.specs.EventStep.{Noted, state_after}
use Rattle.mj_machine.specs.MachineState.{Machine, State}
use Rattle.mj_machine.specs.Sending.{address}
use Rattle.mj_machine.specs.Steps.{Cause, Closing, Opening, Report, Item, Time, Expiry, Beat, Paired, Step, event_steps}
use Rattle.mj_transcript.specs.declared.line.Line.{Line}
use Rattle.mj_transcript.specs.declared.line.Line.TheVariants.{Open, In, Out as Sends, Close, Lapse}

-- ---- what comes

-- who is on the lane leaves it
abbrev pub closed : ℕ → Option ℕ → List Line
closed lane None = []
closed lane (Some n) = Close lane ∷ []

-- bytes for nobody are not received
abbrev pub received : ℕ → List ℕ → Option ℕ → List Line
received lane octets None = []
received lane octets (Some n) = In lane octets ∷ []

abbrev pub heard : State → Event → List Line
heard s (events.Open lane) = closed lane (number_on lane s.connections) ++ Open lane (address (Client s.next)) ∷ []
heard s (events.Bytes lane piece) = received lane piece (number_on lane s.connections)
heard s (events.Sent lane) = []
heard s (events.Close lane) = closed lane (number_on lane s.connections)
heard s (events.Tick ms) = []
heard s events.Stop = []

-- ---- what is done

abbrev pub lapsed : Option Connection → List Line
lapsed None = []
lapsed (Some c) = Lapse c.lane ∷ []

-- a lease ends in a step of its own
abbrev pub ended : Cause → State → List Line
ended (Closing lane) s = []
ended (Opening lane) s = []
ended (Report lane) s = []
ended (Item n item) s = []
ended (Time ms) s = []
ended (Expiry n) s = lapsed (connection_of n s.connections)
ended (Beat n) s = []
ended (Paired p) s = []

abbrev pub told : Out → List Line
told (outs.Piece lane octets) = Sends lane octets ∷ []
told (outs.End lane reason at) = Close lane ∷ []
told (outs.Note note) = []

abbrev pub done : Step → List Line
done t = ended t.cause t.before.routing ++ flat_map told t.outs

-- ---- a run

abbrev pub recorded : Limits → Machine → List Noted → List Line
recorded limits m [] = []
recorded limits m (e ∷ es) = heard m.state e.event ++ (flat_map done (event_steps limits m e) ++ recorded limits (state_after limits m e) es)
