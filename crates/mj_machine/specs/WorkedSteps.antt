-- A worked run in its single acts, written out by hand from the standards' rules.
use Rattle.std.specs.Prelude.{ℕ, ◌≡◌, true, List, [], ◌∷◌, ◌++◌, map, codes}
use Rattle.mj_base.specs.StandardLimits.{standard_limits}
use Rattle.mj_base.specs.declared.limits.Limits.{Limits}
use Rattle.mj_base.specs.declared.version.Version.TheVariants.{One}
use Rattle.mj_handshake.specs.declared.socket_type.SocketType.TheVariants.{Dealer}
use Rattle.mj_queue.specs.Settling.{Pair}
use Rattle.mj_queue.specs.declared.request.Origin.TheVariants.{Client}
use Rattle.mj_wire.specs.declared.item.WireItem.TheVariants.{Accepted, Message, Ready}
use Rattle.mj_machine.specs.StoreState.{Store, no_store, ticket_request}
use Rattle.mj_machine.specs.Acts.{each}
use Rattle.mj_machine.specs.EventStep.{Closes, Gains, Happening, Reports, Ticks}
use Rattle.mj_machine.specs.MachineState.{between, start_with}
use Rattle.mj_machine.specs.Steps.{Beat, Cause, Closing, Expiry, Item, Opening, Paired, Report, Time, happening_steps}
use Rattle.mj_machine.specs.RunSpelling.{client, joins}
use Rattle.mj_machine.specs.StoreSpelling.{accept, first_id, over}

abbrev pub MakesWith : Limits → Store → List Happening → List Cause → Type 0
MakesWith limits store happenings causes = map (λ t. t.cause) (each happening_steps happenings (between (start_with limits store))).1 ≡ causes

abbrev pub Makes : Limits → List Happening → List Cause → Type 0
Makes limits happenings causes = MakesWith limits no_store happenings causes

abbrev pub joining : ℕ → ℕ → List Cause
joining lane n = Closing lane ∷ Opening lane ∷ Item n Accepted ∷ Item n (Ready Dealer) ∷ []

abbrev pub ready : List (List ℕ)
ready = [] ∷ codes "MDPW01" ∷ (1 ∷ []) ∷ codes "echo" ∷ []

abbrev pub asked : List ℕ → List (List ℕ)
asked frame = [] ∷ codes "MDPC01" ∷ codes "echo" ∷ frame ∷ []

abbrev pub replied : List (List ℕ)
replied = [] ∷ codes "MDPW01" ∷ (3 ∷ []) ∷ client 2 ∷ [] ∷ codes "A" ∷ []

-- the one worker gets this request, and nothing is left
abbrev pub gets : List ℕ → Pair
gets frame = record {
  waiter = record { worker = 1; service = codes "echo" };
  request = record { origin = Client 2; service = codes "echo"; version = One; lead = true; body = frame ∷ [] };
  waiting = [];
  requests = [];
}

-- a worker, two requests in one piece, a reply; a heartbeat, the end of the busy lease, and the client leaves: each
-- message is settled before the next
abbrev pub RunIsInSteps : Type 0
RunIsInSteps = Makes standard_limits
    ((joins 0).0 ++ ((joins 1).0 ++ (Gains 0 (Message ready ∷ []) ∷ Gains 1 (Message (asked (codes "a")) ∷ Message (asked (codes "b")) ∷ [])
    ∷ Gains 0 (Message replied ∷ []) ∷ Reports 0 ∷ Ticks 2500 ∷ Ticks 60000 ∷ Closes 1 ∷ [])))
    (joining 0 1 ++ (joining 1 2 ++ (Item 1 (Message ready) ∷ Item 2 (Message (asked (codes "a"))) ∷ Paired (gets (codes "a")) ∷ Item 2 (Message (asked (codes "b")))
    ∷ Item 1 (Message replied) ∷ Paired (gets (codes "b")) ∷ Report 0 ∷ Time 2500 ∷ Beat 1 ∷ Time 60000 ∷ Expiry 1 ∷ Closing 1 ∷ [])))

-- this worker gets the first ticket
abbrev pub gets_ticket : ℕ → Pair
gets_ticket n = record { waiter = record { worker = n; service = codes "echo" }; request = ticket_request 1 (codes "echo"); waiting = []; requests = [] }

-- a worker's lease ends in the middle of a tick and gives its ticket back while another worker waits for it: the other's
-- heartbeat comes first
abbrev pub TicketIsGivenBackInSteps : Type 0
TicketIsGivenBackInSteps = MakesWith standard_limits (over (accept first_id (codes "echo") (codes "hi") ∷ []))
    ((joins 0).0 ++ (Gains 0 (Message ready ∷ []) ∷ Ticks 59000 ∷ (joins 1).0 ++ (Gains 1 (Message ready ∷ []) ∷ Ticks 61500 ∷ [])))
    (joining 0 1 ++ (Item 1 (Message ready) ∷ Paired (gets_ticket 1) ∷ Time 59000 ∷ Beat 1 ∷ joining 1 2
    ++ (Item 2 (Message ready) ∷ Time 61500 ∷ Expiry 1 ∷ Beat 2 ∷ Paired (gets_ticket 2) ∷ [])))
