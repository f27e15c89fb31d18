-- Lists of events and outs that grow at the end.
use Rattle.std.proofs.Common.{◌≡◌, ◌+◌, ◌-◌, ◌≤◌, ◌^◌, min, ℕ, true, false, List, [], ◌∷◌, ◌++◌, map, length, refl, sym, ap, ◌∙◌, subst, arith, append_assoc}
use Rattle.std.proofs.lemmas.List.{append-nil}
use Rattle.mj_base.specs.declared.event.Event.{Event}
use Rattle.mj_base.specs.declared.event.Event.TheVariants as events
use Rattle.mj_base.specs.declared.event.Out.{Out}
use Rattle.mj_base.specs.declared.event.Out.TheVariants as outs
use Rattle.mj_base.specs.EventBounds.{IsTakenBy, IsWithin}
use Rattle.mj_base.specs.declared.limits.Limits.{Limits}
use Rattle.mj_machine.specs.DiskActs.{notes_in}
use Rattle.mj_machine.specs.EventStep.{Noted, outs_of, state_after}
use Rattle.mj_machine.specs.MachineRun.{AreGiven, run_outs, run_state}
use Rattle.mj_machine.specs.MachineState.{Machine}
use Rattle.mj_tickets.specs.declared.command.TicketCmd.{TicketCmd}
use Rattle.mj_titanic.specs.Acting.{RoseBy, shut_count}
use Rattle.mj_titanic.proofs.Composing.{count-append, notes-append}
use Rattle.mj_serve.specs.Counts.{Counts, pieces_in}
use Rattle.mj_serve.specs.Given.{Entry, entry_at, events_in, is_stop, outs_given, taken_as}
use Rattle.mj_serve.specs.Running.{Gives}
use Rattle.mj_serve.specs.Stability.{marked}
use Rattle.mj_serve.specs.declared.summary.Summary.{Summary}

-- ---- events

pub taken-whole : (event : Event) → is_stop event ≡ false → taken_as event ≡ event ∷ []
taken-whole (events.Open lane) is = refl
taken-whole (events.Bytes lane piece) is = refl
taken-whole (events.Sent lane) is = refl
taken-whole (events.Close lane) is = refl
taken-whole (events.Tick ms) is = refl
taken-whole events.Stop is = absurd (cc is)

pub taken-none : (event : Event) → is_stop event ≡ true → taken_as event ≡ []
taken-none (events.Open lane) is = absurd (cc is)
taken-none (events.Bytes lane piece) is = absurd (cc is)
taken-none (events.Sent lane) is = absurd (cc is)
taken-none (events.Close lane) is = absurd (cc is)
taken-none (events.Tick ms) is = absurd (cc is)
taken-none events.Stop is = refl

-- ports of fewer lanes than the limit
pub is-taken : (lanes most : ℕ) (event : Event) → lanes ≤ most → is_stop event ≡ false → IsWithin lanes event → IsTakenBy most event
is-taken lanes most (events.Open lane) few is within = omega (arith, few, within)
is-taken lanes most (events.Bytes lane piece) few is within = (omega (arith, few, within.0), within.1, within.2)
is-taken lanes most (events.Sent lane) few is within = omega (arith, few, within)
is-taken lanes most (events.Close lane) few is within = omega (arith, few, within)
is-taken lanes most (events.Tick ms) few is within = within
is-taken lanes most events.Stop few is within = absurd (cc is)

pub events-append : (front rest : List Noted) → events_in (front ++ rest) ≡ events_in front ++ events_in rest
events-append [] rest = refl
events-append (e ∷ front) rest = ap (λ (es : List Event). e.event ∷ es) (events-append front rest)

pub length-more : (front : List Noted) (e : Noted) → length (front ++ e ∷ []) ≡ length front + 1
length-more [] e = omega arith
length-more (f ∷ front) e = let rest = length-more front e in omega (arith, rest)

-- ---- entries

entry-out : (moment : ℕ) (out : Out) → (entry_at moment out).out ≡ out
entry-out moment (outs.Piece lane octets) = refl
entry-out moment (outs.End lane reason at) = refl
entry-out moment (outs.Note note) = refl

pub outs-given : (moment : ℕ) (given : List Entry) (added : List Out) → outs_given (given ++ map (entry_at moment) added) ≡ outs_given given ++ added
outs-given moment [] [] = refl
outs-given moment [] (out ∷ added) = ap (λ (o : Out). o ∷ outs_given (map (entry_at moment) added)) (entry-out moment out) ∙ ap (λ (os : List Out). out ∷ os) (outs-given moment [] added)
outs-given moment (entry ∷ given) added = ap (λ (os : List Out). entry.out ∷ os) (outs-given moment given added)

pub pieces-append : (front rest : List Out) → pieces_in (front ++ rest) ≡ pieces_in front + pieces_in rest
pieces-append [] rest = omega arith
pieces-append (outs.Piece lane octets ∷ front) rest = let more = pieces-append front rest in omega (arith, more)
pieces-append (outs.End lane reason at ∷ front) rest = pieces-append front rest
pieces-append (outs.Note note ∷ front) rest = pieces-append front rest

-- ---- what ports are given

map-append : {A B : Type 0} (f : A → B) (xs ys : List A) → map f (xs ++ ys) ≡ map f xs ++ map f ys
map-append f [] ys = refl
map-append f (x ∷ xs) ys = ap (λ bs. f x ∷ bs) (map-append f xs ys)

pub gives-then : {P : Type 0} (stand : P → P → List Event → List Entry → Type 0) (old mid new : P) (moment : ℕ) (xs ys : List Out) → Gives stand old mid moment xs → Gives stand mid new moment ys → Gives stand old new moment (xs ++ ys)
gives-then stand old mid new moment xs ys one two origin taken given stands =
    subst (λ (g : List Entry). stand origin new taken g)
    (append_assoc given (map (entry_at moment) xs) (map (entry_at moment) ys) ∙ ap (λ (more : List Entry). given ++ more) (sym (map-append (entry_at moment) xs ys)))
    (two origin taken (given ++ map (entry_at moment) xs) (one origin taken given stands))

-- ---- a run of one event more

pub outs-more : (limits : Limits) (m : Machine) (events : List Noted) (e : Noted) → run_outs limits m (events ++ e ∷ []) ≡ run_outs limits m events ++ outs_of limits (run_state limits m events) e
outs-more limits m [] e = append-nil (outs_of limits m e)
outs-more limits m (first ∷ events) e =
    ap (λ (os : List Out). outs_of limits m first ++ os) (outs-more limits (state_after limits m first) events e)
    ∙ sym (append_assoc (outs_of limits m first) (run_outs limits (state_after limits m first) events) (outs_of limits (run_state limits (state_after limits m first) events) e))

pub state-more : (limits : Limits) (m : Machine) (events : List Noted) (e : Noted) → run_state limits m (events ++ e ∷ []) ≡ state_after limits (run_state limits m events) e
state-more limits m [] e = refl
state-more limits m (first ∷ events) e = state-more limits (state_after limits m first) events e

pub marked-more : (limits : Limits) (m : Machine) (events : List Noted) (e : Noted)
    → marked limits m (events ++ e ∷ []) ≡ marked limits m events ++ map (λ (out : Out). (state_after limits (run_state limits m events) e).store.commands) (outs_of limits (run_state limits m events) e)
marked-more limits m [] e = append-nil (map (λ (out : Out). (state_after limits m e).store.commands) (outs_of limits m e))
marked-more limits m (first ∷ events) e =
    ap (λ (ms : List (List TicketCmd)). map (λ (out : Out). (state_after limits m first).store.commands) (outs_of limits m first) ++ ms) (marked-more limits (state_after limits m first) events e)
    ∙ sym (append_assoc (map (λ (out : Out). (state_after limits m first).store.commands) (outs_of limits m first)) (marked limits (state_after limits m first) events)
    (map (λ (out : Out). (state_after limits (run_state limits (state_after limits m first) events) e).store.commands) (outs_of limits (run_state limits (state_after limits m first) events) e)))

pub given-more : (limits : Limits) (m : Machine) (events : List Noted) (e : Noted) → AreGiven limits m events → notes_in (outs_of limits (run_state limits m events) e) ≡ e.notes → AreGiven limits m (events ++ e ∷ [])
given-more limits m [] e given is = (is, tt)
given-more limits m (first ∷ events) e given is = (given.0, given-more limits (state_after limits m first) events e given.1 is)

-- ---- counts

-- both counts, each up to its greatest value
pub counts-more : (old new : Summary) (happened : List Noted) (e : Noted) (before added : List Out) → Counts old happened before
    → new.events ≡ min (old.events + 1) (2 ^ 64 - 1) → new.pieces ≡ min (old.pieces + pieces_in added) (2 ^ 64 - 1) → Counts new (happened ++ e ∷ []) (before ++ added)
counts-more old new happened e before added counts events pieces = record {
  events = omega (arith, events, counts.events, length-more happened e);
  pieces = omega (arith, pieces, counts.pieces, pieces-append before added);
}

rose-both : (m n before middle now : ℕ) → RoseBy m before middle → RoseBy n middle now → RoseBy (m + n) before now
rose-both m n before middle now one two = (omega (arith, one.0, two.0), omega (arith, one.1, two.1, one.0, two.0))

pub faults-more : (before added : List Out) (first middle now : ℕ) → RoseBy (shut_count (notes_in before)) first middle → RoseBy (shut_count (notes_in added)) middle now → RoseBy (shut_count (notes_in (before ++ added))) first now
faults-more before added first middle now one two =
    subst (λ (n : ℕ). RoseBy n first now) (sym (count-append (notes_in before) (notes_in added)) ∙ ap shut_count (sym (notes-append before added)))
    (rose-both (shut_count (notes_in before)) (shut_count (notes_in added)) first middle now one two)

-- later faults are no fewer
pub faults-later : (n first middle now : ℕ) → RoseBy n first middle → middle ≤ now → RoseBy n first now
faults-later n first middle now rose later = (omega (arith, rose.0, later), omega (arith, rose.1, later))
