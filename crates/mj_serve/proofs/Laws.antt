-- What holds of every run holds of this one.
use Rattle.std.proofs.Common.{◌≡◌, ◌<◌, ◌^◌, ◌&&◌, ℕ, Bool, true, false, nat_le, List, [], ◌∷◌, ◌++◌, refl, sym, ap, ◌∙◌, arith}
use Rattle.std.proofs.lemmas.Bool.{leb-true}
use Rattle.mj_base.specs.LawfulLimits.{are_lawful, is_within}
use Rattle.mj_base.specs.declared.limits.Limits.{Limits}
use Rattle.mj_laws.specs.Kept.{IsOpenable}
use Rattle.mj_laws.specs.Soundness.{IsBegun}
use Rattle.mj_laws.proofs.CalmLemmas.{notes_come_with_a_failure}
use Rattle.mj_laws.proofs.CommandLemmas.{commands_grow}
use Rattle.mj_laws.proofs.ConservedLemmas.{lists_are_lawful, tickets_are_conserved}
use Rattle.mj_laws.proofs.LeaseLemmas.{leases_end_in_time}
use Rattle.mj_laws.proofs.PairedLemmas.{requests_are_paired}
use Rattle.mj_laws.proofs.ReplyLemmas.{replies_are_owned, replies_are_owned_without}
use Rattle.mj_laws.proofs.RequestLemmas.{one_request_at_a_time}
use Rattle.mj_laws.proofs.SettledLemmas.{events_settle, nobody_waits}
use Rattle.mj_laws.proofs.SoundLemmas.{stays-sound}
use Rattle.mj_laws.proofs.StorelessLemmas.{nothing_is_kept}
use Rattle.mj_base.specs.declared.event.Note.{Note}
use Rattle.mj_machine.specs.DiskActs.{notes_in}
use Rattle.mj_machine.specs.MachineRun.{AreGiven, plain, plainly}
use Rattle.mj_machine.specs.Steps.{Step, event_steps, outs_in, run_steps}
use Rattle.mj_machine.proofs.ListLemmas.{all-front, all-rest}
use Rattle.mj_machine.proofs.StepLemmas.{event-outs}
use Rattle.mj_laws.specs.Storeless.{StaysStoreless}
use Rattle.mj_titanic.proofs.Composing.{notes-append}
use Rattle.mj_serve.specs.Given.{events_in}
use Rattle.std.specs.List.{AllByRecursion}
use Rattle.mj_machine.specs.EventStep.{Noted, state_after}
use Rattle.mj_machine.specs.MachineState.{Machine, start_with}
use Rattle.mj_machine.specs.StoreState.{Store, no_store, opened_store}
use Rattle.mj_store.specs.Commands.{IsLawful}
use Rattle.mj_tickets.specs.declared.command.TicketCmd.{TicketCmd}
use Rattle.mj_titanic.proofs.Alike.{are-alike}
use Rattle.mj_serve.specs.RunLaws.{KeepsLaws, KeepsNothing, KeepsTickets, SettlesOver}

settles-over : (limits : Limits) (m : Machine) (events : List Noted) → SettlesOver limits m events
settles-over limits m [] = tt
settles-over limits m (e ∷ events) = (events_settle limits m e, settles-over limits (state_after limits m e) events)

pub keeps-laws : (limits : Limits) (store : Store) (events : List Noted) → IsBegun store → KeepsLaws limits store events
keeps-laws limits store events begun = record {
  replies = replies_are_owned limits store events;
  requests = one_request_at_a_time limits store events;
  paired = requests_are_paired limits store events;
  leases = leases_end_in_time limits store events;
  settled = settles-over limits (start_with limits store) events;
  sound = stays-sound limits store events begun;
}

-- ---- without a store

notes-of : (steps : List Step) → AllByRecursion StaysStoreless steps → notes_in (outs_in steps) ≡ []
notes-of [] all = refl
notes-of (t ∷ steps) all = notes-append t.outs (outs_in steps) ∙ ap (λ (ns : List Note). ns ++ notes_in (outs_in steps)) all.0.2 ∙ notes-of steps all.1

plain-run : (limits : Limits) (m : Machine) (events : List Noted) → AllByRecursion StaysStoreless (run_steps limits m events) → AreGiven limits m events → events ≡ plainly (events_in events)
plain-run limits m [] all given = refl
plain-run limits m (e ∷ events) all given =
    let now = event_steps limits m e in
    let rest = run_steps limits (state_after limits m e) events in
    let none : e.notes ≡ [] = sym given.0 ∙ ap notes_in (sym (event-outs limits m e)) ∙ notes-of now (all-front StaysStoreless now rest all) in
    ap (λ (ns : List Note). record { event = e.event; notes = ns } ∷ events) none
    ∙ ap (λ (es : List Noted). plain e.event ∷ es) (plain-run limits (state_after limits m e) events (all-rest StaysStoreless now rest all) given.1)

pub keeps-nothing : (limits : Limits) (events : List Noted) → AreGiven limits (start_with limits no_store) events → KeepsNothing limits events
keeps-nothing limits events given = record {
  nothing = nothing_is_kept limits events;
  waiting = nobody_waits limits events;
  replies = replies_are_owned_without limits events;
  plain = plain-run limits (start_with limits no_store) events (nothing_is_kept limits events).0 given;
}

-- ---- over a file

and-first : (a b : Bool) → (a && b) ≡ true → a ≡ true
and-first true b is = refl
and-first false b is = absurd (cc is)

and-second : (a b : Bool) → (a && b) ≡ true → b ≡ true
and-second true b is = is
and-second false b is = absurd (cc is)

-- a lawful limit of the file's bytes
small-file : (limits : Limits) → are_lawful limits ≡ true → limits.file < 2 ^ 61
small-file limits lawful =
    let one = and-second (is_within (λ l. l.frames) limits) _ lawful in
    let two = and-second (is_within (λ l. l.message) limits) _ one in
    let three = and-second (is_within (λ l. l.command) limits) _ two in
    let four = and-second (is_within (λ l. l.lanes) limits) _ three in
    let five = and-second (is_within (λ l. l.queued) limits) _ four in
    let six = and-second (is_within (λ l. l.queued_weight) limits) _ five in
    let seven = and-second (is_within (λ l. l.tickets) limits) _ six in
    let eight : nat_le limits.file 4294967296 ≡ true = and-first (is_within (λ l. l.file) limits) _ seven in
    let few = leb-true limits.file 4294967296 eight in
    omega (arith, few)

pub openable : (limits : Limits) (base : ℕ) (commands : List TicketCmd) → are_lawful limits ≡ true → IsLawful base commands → IsOpenable limits base commands
openable limits base commands lawful list =
    let alike = are-alike base commands list.index list.index_is in
    record {
      lawful = (_, alike.bodies);
      from_one = list.based.0;
      based = list.based.1;
      sized = small-file limits lawful;
    }

pub keeps-tickets : (limits : Limits) (seed : List ℕ) (base : ℕ) (commands : List TicketCmd) (events : List Noted) → IsOpenable limits base commands → KeepsTickets limits seed base commands events
keeps-tickets limits seed base commands events openable = record {
  conserved = tickets_are_conserved limits seed base commands events openable;
  grow = commands_grow limits (start_with limits (opened_store seed base commands)) events;
  lawful = lists_are_lawful limits seed base commands events openable;
  quiet = notes_come_with_a_failure limits (start_with limits (opened_store seed base commands)) events;
}
