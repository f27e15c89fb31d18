-- A ticket that memory finds by its id is the machine's.
use Rattle.std.proofs.Common.{◌≡◌, ◌≢◌, ◌==◌, ◌+◌, ◌||◌, ℕ, Bool, true, false, cond, List, [], ◌∷◌, ◌++◌, map, find, length, nat_le, nat_lt, Option, None, Some, is_some, option_map, refl, sym, ap, ◌∙◌, arith}
use Rattle.std.proofs.lemmas.List.{map-append}
use Rattle.std.specs.Prelude.{option_and_then}
use Rattle.std.specs.Str.{bytes_eq}
use Rattle.mj_base.specs.declared.limits.Limits.{Limits}
use Rattle.mj_disk.specs.declared.disk.Disk.{Ghosts}
use Rattle.mj_ids.specs.Ids.{id_of, number_of}
use Rattle.mj_journal.specs.FileText.{end_of}
use Rattle.mj_journal.proofs.Standing.{ends_add_up}
use Rattle.mj_queue.specs.declared.request.Request.{Request}
use Rattle.mj_tickets.specs.declared.command.TicketCmd.{TicketCmd}
use Rattle.mj_tickets.specs.declared.place.Place.{Place}
use Rattle.mj_tickets.specs.declared.state.TicketState.TheVariants as states
use Rattle.mj_tickets.specs.Payload.{payload_of}
use Rattle.mj_tickets.specs.Fold.{Fold, Ticket, known, numbered, ticket_of}
use Rattle.mj_tickets.specs.Index.{state_in}
use Rattle.mj_tickets.specs.Laws.{Housed, body_at, mapped, place_at}
use Rattle.mj_tickets.proofs.FoldLemmas.{fold_numbered, one_of_number}
use Rattle.mj_store.specs.Bodies.{reply_at}
use Rattle.mj_store.specs.Commands.{payloads_of}
use Rattle.mj_store.specs.Standing.{StoreValue}
use Rattle.mj_machine.specs.StoreState.{Store, file_length, tickets_of}
use Rattle.mj_machine.specs.MachineState.{Whole}
use Rattle.mj_machine.specs.TitanicStep as machine
use Rattle.mj_machine.specs.TitanicStep.{accepts, accepts_as, accepts_by}
use Rattle.mj_machine.proofs.ConnectionLemmas.{agrees}
use Rattle.mj_keeper.specs.declared.keeper.Shelf.TheVariants as shelves
use Rattle.mj_titanic.specs.Acting.{IsAt, Parts}
use Rattle.mj_titanic.specs.Accepting.{accept_of, is_full_for}
use Rattle.mj_titanic.proofs.Alike.{AreAlike, alike, next-alike, open-alike, tickets-are}
use Rattle.mj_titanic.proofs.Attempts.{OpensOn, opens-on}

module _ {B C : Type 0} (h : B → C) where
  known-map : (id : List ℕ) (ts : List (Ticket B)) → find (λ (t : Ticket C). bytes_eq t.id id) (map (mapped h) ts) ≡ option_map (mapped h) (find (λ (t : Ticket B). bytes_eq t.id id) ts)
  known-map id [] = refl
  known-map id (t ∷ ts) = chosen (bytes_eq t.id id) (known-map id ts)
    where
      chosen : (b : Bool) → find (λ (u : Ticket C). bytes_eq u.id id) (map (mapped h) ts) ≡ option_map (mapped h) (find (λ (u : Ticket B). bytes_eq u.id id) ts)
          → cond b (Some (mapped h t)) (find (λ (u : Ticket C). bytes_eq u.id id) (map (mapped h) ts)) ≡ option_map (mapped h) (cond b (Some t) (find (λ (u : Ticket B). bytes_eq u.id id) ts))
      chosen true rest = refl
      chosen false rest = rest

numbered-found : {B : Type 0} (n : ℕ) (ts : List (Ticket B)) (t : Ticket B) → find (numbered n) ts ≡ Some t → t.number ≡ n
numbered-found n [] t is = absurd (cc is)
numbered-found n (u ∷ ts) t is = by (u.number == n) refl is (numbered-found n ts t)
  where
    by : (b : Bool) → (u.number == n) ≡ b → cond b (Some u) (find (numbered n) ts) ≡ Some t → (find (numbered n) ts ≡ Some t → t.number ≡ n) → t.number ≡ n
    by true same is rest = let one : u ≡ t = cc in ap (λ (v : Ticket _). v.number) (sym one) ∙ agrees u.number n same
    by false same is rest = rest is

-- the machine's ticket of an id that memory has found
pub record IsFound (id : List ℕ) (t : Ticket Place) (store : Store) : Type 0 where
  pub ticket : Ticket (List (List ℕ))
  pub by_id : known id (tickets_of store) ≡ Some ticket
  pub by_number : ticket_of (number_of id) (tickets_of store) ≡ Some ticket
  pub number : ticket.number ≡ number_of id
  pub replied : is_some ticket.reply ≡ is_some t.reply

module _ {D : Type 0} (disks : Ghosts D) (limits : Limits) (held : StoreValue) (disk : D) (store : Store) (o : OpensOn disks limits held disk store) (id : List ℕ) where
  abbrev both : AreAlike store.base store.commands held.index
  both = alike store held.index o.holds.knows.index_is

  known-both : known id held.index ≡ option_map (mapped place_at) (known id both.both)
  known-both = ap (known id) (sym both.places) ∙ known-map place_at id both.both.tickets

  known-bodies : known id (tickets_of store) ≡ option_map (mapped body_at) (known id both.both)
  known-bodies = ap (known id) (tickets-are store held.index both) ∙ known-map body_at id both.both.tickets

  pub known-none : known id held.index ≡ None → known id (tickets_of store) ≡ None
  known-none none = known-bodies ∙ by (known id both.both) (sym known-both ∙ none)
    where
      by : (o : Option (Ticket Housed)) → option_map (mapped place_at) o ≡ None → option_map (mapped body_at) o ≡ None
      by None is = refl
      by (Some t) is = absurd (cc is)

  pub known-some : (t : Ticket Place) → known id held.index ≡ Some t → IsFound id t store
  known-some t some = by (known id both.both) refl
    where
      replied-both : (h : Ticket Housed) → is_some (mapped body_at h).reply ≡ is_some (mapped place_at h).reply
      replied-both h = one h.reply
        where
          one : (r : Option Housed) → is_some (option_map body_at r) ≡ is_some (option_map place_at r)
          one None = refl
          one (Some r) = refl

      by : (o : Option (Ticket Housed)) → known id both.both ≡ o → IsFound id t store
      by None none = absurd (let differ : Some t ≡ None = sym some ∙ known-both ∙ ap (option_map (mapped place_at)) none in cc differ)
      by (Some h) is =
          let by_id : known id (tickets_of store) ≡ Some (mapped body_at h) = known-bodies ∙ ap (option_map (mapped body_at)) is in
          let fold = both.bodies ∙ ap (λ (f : Fold (List (List ℕ))). Some f) (sym (tickets-are store held.index both)) in
          let by_number = one_of_number (tickets_of store) id (mapped body_at h) (fold_numbered store.base store.commands (tickets_of store) o.holds.knows.based.0 fold) by_id in
          let same : mapped place_at h ≡ t = let some_same : Some (mapped place_at h) ≡ Some t = sym (ap (option_map (mapped place_at)) is) ∙ sym known-both ∙ some in cc some_same in
          record {
            ticket = mapped body_at h;
            by_id = by_id;
            by_number = by_number;
            number = numbered-found (number_of id) (tickets_of store).tickets (mapped body_at h) by_number;
            replied = replied-both h ∙ ap (λ (u : Ticket Place). is_some u.reply) same;
          }

-- ---- what is told of a ticket

pub unknown-none : (o : Option (Ticket Place)) → states.Unknown ≡ state_in o → o ≡ None
unknown-none None is = refl
unknown-none (Some t) is = by (is_some t.reply) is
  where
    by : (b : Bool) → states.Unknown ≡ cond b states.Stored states.Pending → Some t ≡ None
    by true other = absurd (cc other)
    by false other = absurd (cc other)

pub pending-some : (o : Option (Ticket Place)) → states.Pending ≡ state_in o → (t : Ticket Place) × (o ≡ Some t) × (is_some t.reply ≡ false)
pending-some None is = absurd (cc is)
pending-some (Some t) is = (t, refl, by (is_some t.reply) is)
  where
    by : (b : Bool) → states.Pending ≡ cond b states.Stored states.Pending → b ≡ false
    by true other = absurd (cc other)
    by false other = refl

pub stored-some : (o : Option (Ticket Place)) → states.Stored ≡ state_in o → (t : Ticket Place) × (o ≡ Some t) × (is_some t.reply ≡ true)
stored-some None is = absurd (cc is)
stored-some (Some t) is = (t, refl, by (is_some t.reply) is)
  where
    by : (b : Bool) → states.Stored ≡ cond b states.Stored states.Pending → b ≡ true
    by true other = refl
    by false other = absurd (cc other)

pub some-is : {A : Type 0} (o : Option A) (a : A) → o ≡ Some a → o ≢ None
some-is o a is none = let differ : Some a ≡ None = sym is ∙ none in cc differ

pub reply-some : (n : ℕ) (f : Fold Place) (t : Ticket Place) → ticket_of n f ≡ Some t → is_some t.reply ≡ true → reply_at n f ≢ None
reply-some n f t is some none = by t.reply some (sym (ap (λ (o : Option (Ticket Place)). option_and_then (λ (u : Ticket Place). u.reply) o) is) ∙ none)
  where
    by : (o : Option Place) → is_some o ≡ true → o ≡ None → ⊥
    by None is_it nothing = cc is_it
    by (Some p) is_it nothing = cc nothing

-- ---- room

file-length : (cmds : List TicketCmd) (cmd : TicketCmd) (end : ℕ) → end ≡ end_of (payloads_of cmds) → file_length (cmds ++ cmd ∷ []) ≡ end + length (payload_of cmd) + 6
file-length cmds cmd end is =
    let e = ap end_of (map-append payload_of cmds (cmd ∷ [])) ∙ ends_add_up (payloads_of cmds) (payload_of cmd) in
    omega (arith, e, is)

module _ {D : Type 0} (disks : Ghosts D) (old : Parts) (held : StoreValue) (disk : D) (is : old.keeper.shelf ≡ shelves.Open held) (w : Whole) (at : IsAt disks old disk w) where
  abbrev o : OpensOn disks old.keeper.limits held disk w.store
  o = opens-on disks old.keeper.limits old.keeper.shelf held disk w.store is at.store.stands.by

  full-alike : (cmd : TicketCmd) → machine.is_full w.routing.limits w.store cmd ≡ is_full_for held cmd
  full-alike cmd =
      ap (λ (l : Limits). machine.is_full l w.store cmd) (sym (o.limited ∙ at.limited))
      ∙ ap (λ (n : ℕ). nat_le held.limits.tickets n || nat_lt held.limits.file (file_length (w.store.commands ++ cmd ∷ []))) (sym (open-alike w.store held.index o.holds.knows.index_is))
      ∙ ap (λ (n : ℕ). nat_le held.limits.tickets (length held.index.tickets) || nat_lt held.limits.file n) (file-length w.store.commands cmd held.end o.holds.knows.end_is)

  pub accepts-are : (n : ℕ) (request : Request) (service : List ℕ) (body : List (List ℕ)) (full : Bool) → is_full_for held (accept_of old.keeper held service body) ≡ full
      → accepts n request (service, body) w ≡ accepts_by full held.index.next (id_of old.keeper.seed held.index.next) (service, body) n request w
  accepts-are n request service body full are =
      ap (λ (m : ℕ). accepts_as m (id_of w.store.seed m) (service, body) n request w) (sym (next-alike w.store held.index o.holds.knows.index_is))
      ∙ ap (λ (seed : List ℕ). accepts_as held.index.next (id_of seed held.index.next) (service, body) n request w) (sym (at.store.stands.seed o.stored))
      ∙ ap (λ (b : Bool). accepts_by b held.index.next (id_of old.keeper.seed held.index.next) (service, body) n request w) (full-alike (accept_of old.keeper held service body) ∙ are)
