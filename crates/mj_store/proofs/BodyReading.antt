-- What a read at the place of a ticket's body, or of its reply, gives and leaves.
use Rattle.std.proofs.Common.{◌≡◌, ℕ, ◌+◌, ◌≤◌, ◌↔◌, Bool, true, false, Result, Ok, Err, List, [], ◌∷◌, ◌++◌, take, drop, Option, Some, None, option_map, IfSome, refl, sym, ap, subst, ◌∙◌, inl, arith, append-nil, length-append}
use Rattle.std.proofs.lemmas.Option.{none-some, same_Some, option_and_then_some}
use Rattle.std.specs.List.{AllByRecursion}
use Rattle.std.specs.Result.{IfOk, IfErr, IsErrOf}
use Rattle.mj_disk.specs.DiskModel.{History, LeavesOnly, latest}
use Rattle.mj_disk.specs.declared.disk.Disk.{Ghosts}
use Rattle.mj_tickets.specs.declared.command.TicketCmd.{TicketCmd}
use Rattle.mj_tickets.specs.declared.command.TicketCmd.TheVariants.{Accept, Store, Close}
use Rattle.mj_tickets.specs.declared.place.Place.{Place}
use Rattle.mj_tickets.specs.Payload.{head_of, tail_of, payload_of}
use Rattle.mj_tickets.specs.PayloadReading.{body_in}
use Rattle.mj_tickets.specs.Fold.{Ticket, ticket_of}
use Rattle.mj_tickets.specs.Laws.{Housed, place_at, mapped}
use Rattle.mj_tickets.specs.Laws as laws
use Rattle.mj_tickets.proofs.AgainLemmas.{body_read}
use Rattle.mj_journal.specs.FileText.{IsPayload, end_of, header_1, text}
use Rattle.mj_journal.proofs.Files.{length-header}
use Rattle.mj_journal.proofs.Unique.{text_stands}
use Rattle.mj_store.specs.Commands.{payloads_of, IsWritten, IsLawful, OpensForOne, IsBodyOf, IsReplyOf}
use Rattle.mj_store.specs.Standing.{StoreValue, Knows, Holds, IsHeld, IsTelling, Keeps, Doubts, LeavesWithOrWithout}
use Rattle.mj_store.specs.declared.fault.BodyFault.{BodyFault}
use Rattle.mj_store.specs.declared.fault.BodyFault.TheVariants.{Spent, NoMemory, DiskFault, Damaged}
use Rattle.mj_store.specs.Bodies.{body_at, reply_at, IsReadBody, IsNoBody, IsUnreadable, IsDamage, GivesBody, GivesReply}
use Rattle.mj_store.proofs.Adding.{lawful_known, settled_stands, stays_held}
use Rattle.mj_store.proofs.Housing.{IsHoused, IsKeptTicket, kept_ticket, some_mapped}

-- ---- the body at a place

-- at the place stands the text of a body, and the body is this one
record IsFound (end : ℕ) (octets : List ℕ) (place : Place) (Is : List (List ℕ) → Type 0) : Type 0 where
  both : Housed
  place_is : both.place ≡ place
  stands : IsHoused end octets both
  is_it : Is both.body

found_body : (end number base : ℕ) (cmds : List TicketCmd) (octets : List ℕ) (t : Ticket Place) (place : Place) → IsKeptTicket end number base cmds octets t → t.body ≡ place → IsFound end octets place (IsBodyOf number base cmds)
found_body end number base cmds octets t place kept is = record {
  both = kept.both.body;
  place_is = ap (λ (u : Ticket Place). u.body) kept.places ∙ is;
  stands = kept.has.0;
  is_it = λ f u folded there. ap (λ (v : Ticket (List (List ℕ))). v.body) (same_Some (mapped laws.body_at kept.both) u (sym (kept.bodies f folded) ∙ there));
}

if_some : {A : Type 0} (P : A → Type 0) (o : Option A) (x : A) → o ≡ Some x → IfSome o P → P x
if_some P None x is holds = absurd (none-some x is)
if_some P (Some y) x is holds = subst P (same_Some y x is) holds

found_reply : (end number base : ℕ) (cmds : List TicketCmd) (octets : List ℕ) (t : Ticket Place) (place : Place) → IsKeptTicket end number base cmds octets t → t.reply ≡ Some place → IsFound end octets place (IsReplyOf number base cmds)
found_reply end number base cmds octets t place kept is =
    let one = some_mapped place_at kept.both.reply place (ap (λ (u : Ticket Place). u.reply) kept.places ∙ is) in
    record {
      both = one.0;
      place_is = one.2;
      stands = if_some (IsHoused end octets) kept.both.reply one.0 one.1 kept.has.1;
      is_it = λ f u folded there. ap (option_map laws.body_at) (sym one.1) ∙ ap (λ (v : Ticket (List (List ℕ))). v.reply) (same_Some (mapped laws.body_at kept.both) u (sym (kept.bodies f folded) ∙ there));
    }

found_inside : (end : ℕ) (octets : List ℕ) (place : Place) (Is : List (List ℕ) → Type 0) → IsFound end octets place Is → place.at + place.len ≤ end
found_inside end octets place Is found = subst (λ (p : Place). p.at + p.len ≤ end) found.place_is found.stands.within

-- what stands there is read as the body
found_reads : (end : ℕ) (octets read : List ℕ) (place : Place) (Is : List (List ℕ) → Type 0) (found : IsFound end octets place Is) → read ≡ take place.len (drop place.at octets) → body_in read ≡ Some found.both.body
found_reads end octets read place Is found is =
    body_read found.both.body read (record {
      fits = found.stands.fits;
      spells = is ∙ ap (λ (p : Place). take p.len (drop p.at octets)) (sym found.place_is) ∙ found.stands.text;
    })

found_is : (end : ℕ) (octets read : List ℕ) (place : Place) (Is : List (List ℕ) → Type 0) (frames : List (List ℕ)) → IsFound end octets place Is → read ≡ take place.len (drop place.at octets) → body_in read ≡ Some frames → Is frames
found_is end octets read place Is frames found is reads =
    subst Is (same_Some found.both.body frames (sym (found_reads end octets read place Is found is) ∙ reads)) found.is_it

found_whole : (end : ℕ) (octets read : List ℕ) (place : Place) (Is : List (List ℕ) → Type 0) → IsFound end octets place Is → read ≡ take place.len (drop place.at octets) → body_in read ≡ None → ⊥
found_whole end octets read place Is found is none =
    none-some found.both.body (sym none ∙ found_reads end octets read place Is found is)

-- ---- inside the file, also on a disk that tells nothing

payload_is : (cmd : TicketCmd) → IsWritten cmd → IsPayload (payload_of cmd)
payload_is (Accept id service body) written = (omega (arith, length-append (head_of (Accept id service body)) (tail_of (Accept id service body))), written.fits.short)
payload_is (Store number body) written = (omega (arith, length-append (head_of (Store number body)) (tail_of (Store number body))), written.fits.short)
payload_is (Close number) written = (omega (arith, length-append (head_of (Close number)) (tail_of (Close number))), written.fits.short)

all_payloads : (cmds : List TicketCmd) → AllByRecursion IsWritten cmds → AllByRecursion IsPayload (payloads_of cmds)
all_payloads [] written = tt
all_payloads (cmd ∷ cmds) written = (payload_is cmd written.0, all_payloads cmds written.1)

-- the ticket in the file that would be written for the list
known_ticket : (number base : ℕ) (cmds : List TicketCmd) (store : StoreValue) (t : Ticket Place) → Knows base cmds store → ticket_of number store.index ≡ Some t
    → IsKeptTicket (end_of (payloads_of cmds)) number base cmds (text header_1 (payloads_of cmds)) t
known_ticket number base cmds store t knows is =
    kept_ticket header_1 (text header_1 (payloads_of cmds)) base number cmds store.index t refl knows.written (text_stands header_1 (payloads_of cmds) (all_payloads cmds knows.written)) knows.index_is is

pub body_inside : {D : Type 0} (disks : Ghosts D) (number : ℕ) (store : StoreValue) (disk : D) (place : Place) → IsHeld disks store disk → body_at number store.index ≡ Some place → place.at + place.len ≤ store.end
body_inside disks number store disk place held is =
    let t = some_mapped (λ (u : Ticket Place). u.body) (ticket_of number store.index) place is in
    let kept = known_ticket number held.0 held.1 store t.0 held.2.knows t.1 in
    subst (λ (n : ℕ). place.at + place.len ≤ n) (sym held.2.knows.end_is) (found_inside _ _ place _ (found_body _ number held.0 held.1 _ t.0 place kept t.2))

pub reply_inside : {D : Type 0} (disks : Ghosts D) (number : ℕ) (store : StoreValue) (disk : D) (place : Place) → IsHeld disks store disk → reply_at number store.index ≡ Some place → place.at + place.len ≤ store.end
reply_inside disks number store disk place held is =
    option_and_then_some (λ (u : Ticket Place). u.reply) (ticket_of number store.index) place is (λ t found reply.
    let kept = known_ticket number held.0 held.1 store t held.2.knows found in
    subst (λ (n : ℕ). place.at + place.len ≤ n) (sym held.2.knows.end_is) (found_inside _ _ place _ (found_reply _ number held.0 held.1 _ t place kept reply)))

-- ---- on a disk that tells

told_ticket : {D : Type 0} (disks : Ghosts D) (number base : ℕ) (cmds : List TicketCmd) (store : StoreValue) (disk : D) (t : Ticket Place) (telling : IsTelling disks disk) → Holds disks base cmds store disk → ticket_of number store.index ≡ Some t
    → IsKeptTicket (end_of (payloads_of cmds)) number base cmds telling.0.now.octets t
told_ticket disks number base cmds store disk t telling holds is =
    let stands = (holds.file telling.0 telling.1).1 in
    kept_ticket stands.0 telling.0.now.octets base number cmds store.index t (length-header base stands.0 stands.1) holds.knows.written stands.2 holds.knows.index_is is

told_body : {D : Type 0} (disks : Ghosts D) (number base : ℕ) (cmds : List TicketCmd) (store : StoreValue) (disk : D) (place : Place) (telling : IsTelling disks disk) → Holds disks base cmds store disk → body_at number store.index ≡ Some place
    → IsFound (end_of (payloads_of cmds)) telling.0.now.octets place (IsBodyOf number base cmds)
told_body disks number base cmds store disk place telling holds is =
    let t = some_mapped (λ (u : Ticket Place). u.body) (ticket_of number store.index) place is in
    found_body _ number base cmds _ t.0 place (told_ticket disks number base cmds store disk t.0 telling holds t.1) t.2

told_reply : {D : Type 0} (disks : Ghosts D) (number base : ℕ) (cmds : List TicketCmd) (store : StoreValue) (disk : D) (place : Place) (telling : IsTelling disks disk) → Holds disks base cmds store disk → reply_at number store.index ≡ Some place
    → IsFound (end_of (payloads_of cmds)) telling.0.now.octets place (IsReplyOf number base cmds)
told_reply disks number base cmds store disk place telling holds is =
    option_and_then_some (λ (u : Ticket Place). u.reply) (ticket_of number store.index) place is (λ t found reply.
    found_reply _ number base cmds _ t place (told_ticket disks number base cmds store disk t telling holds found) reply)

pub gives_body : {D : Type 0} (disks : Ghosts D) (number : ℕ) (store : StoreValue) (disk : D) (place : Place) (frames : List (List ℕ)) → body_at number store.index ≡ Some place → IsReadBody (Some place) (disks.told disk) frames → GivesBody disks number store disk frames
gives_body disks number store disk place frames is read telling base cmds holds =
    found_is _ telling.0.now.octets read.0 place (IsBodyOf number base cmds) frames (told_body disks number base cmds store disk place telling holds is) (read.1.stands telling.0 telling.1) read.2

pub gives_reply : {D : Type 0} (disks : Ghosts D) (number : ℕ) (store : StoreValue) (disk : D) (place : Place) (frames : List (List ℕ)) → reply_at number store.index ≡ Some place → IsReadBody (Some place) (disks.told disk) frames → GivesReply disks number store disk frames
gives_reply disks number store disk place frames is read telling base cmds holds =
    found_is _ telling.0.now.octets read.0 place (IsReplyOf number base cmds) frames (told_reply disks number base cmds store disk place telling holds is) (read.1.stands telling.0 telling.1) read.2

pub body_whole : {D : Type 0} (disks : Ghosts D) (number : ℕ) (store : StoreValue) (disk : D) (place : Place) (at : ℕ) → body_at number store.index ≡ Some place → IsHeld disks store disk → IsNoBody (Some place) (disks.told disk) at → IsTelling disks disk → ⊥
body_whole disks number store disk place at is held none telling =
    found_whole _ telling.0.now.octets none.1.0 place (IsBodyOf number held.0 held.1) (told_body disks number held.0 held.1 store disk place telling held.2 is) (none.1.1.stands telling.0 telling.1) none.1.2

pub reply_whole : {D : Type 0} (disks : Ghosts D) (number : ℕ) (store : StoreValue) (disk : D) (place : Place) (at : ℕ) → reply_at number store.index ≡ Some place → IsHeld disks store disk → IsNoBody (Some place) (disks.told disk) at → IsTelling disks disk → ⊥
reply_whole disks number store disk place at is held none telling =
    found_whole _ telling.0.now.octets none.1.0 place (IsReplyOf number held.0 held.1) (told_reply disks number held.0 held.1 store disk place telling held.2 is) (none.1.1.stands telling.0 telling.1) none.1.2

-- ---- what a read leaves

pub reading_keeps : {D : Type 0} (disks : Ghosts D) (store : StoreValue) (disk after : D) → disks.told after ≡ disks.told disk → (disks.settled_now disk → disks.settled_now after) → Keeps disks store disk store after
reading_keeps disks store disk after same clean base cmds holds = record {
  knows = holds.knows;
  settled = clean holds.settled;
  file = λ history is. holds.file history (sym same ∙ is);
}

pub reading_doubts : {D : Type 0} (disks : Ghosts D) (store : StoreValue) (disk after : D) → disks.told after ≡ disks.told disk → disks.failed after ≡ true → Doubts disks [] store disk after
reading_doubts disks store disk after same failed base cmds holds =
    let lawful = lawful_known base cmds store holds.knows in
    record {
      plain = lawful;
      whole = subst (λ (cs : List TicketCmd). IsLawful base cs) (sym (append-nil cmds)) lawful;
      end_is = holds.knows.end_is;
      failed = failed;
      images = λ history is image now. inl (settled_stands base cmds history.now image (holds.file history (sym same ∙ is)) now);
    }

pub reading_leaves : {D : Type 0} (disks : Ghosts D) (doubt : List TicketCmd) (store : StoreValue) (disk after : D) → ((history : History) → disks.told disk ≡ Some history → latest history.past ≤ disks.time disk) → disks.told after ≡ disks.told disk → disks.time disk ≤ disks.time after → LeavesWithOrWithout disks doubt store disk after
reading_leaves disks doubt store disk after timely same later base cmds holds =
    let first = stays_held disks doubt store disk timely base cmds holds in
    subst (λ (t : Option History). LeavesOnly (disks.time disk, disks.time after) (disks.told disk) t (OpensForOne base (cmds ∷ (cmds ++ doubt) ∷ []))) (sym same) (record { later = later; each = first.each; before = first.before })

-- ---- answers

pub ok_then : {T E : Type 0} (r : Result T E) (P Q : T → Type 0) → IfOk r P → ((x : T) → P x → Q x) → IfOk r Q
ok_then (Ok x) P Q holds then = then x holds
ok_then (Err e) P Q holds then = tt

-- damage comes of an unspent store alone
pub damage_then : {T : Type 0} (r : Result T BodyFault) (spent : Bool) (place : Option Place) (told : Option History) (Q : Type 0) → (IsErrOf r Spent ↔ (spent ≡ true)) → IfErr r (IsUnreadable place told) → ((at : ℕ) → spent ≡ false → IsNoBody place told at → Q)
    → IfErr r (λ fault. IsDamage fault → Q)
damage_then (Ok x) spent place told Q iff refused then = tt
damage_then (Err Spent) spent place told Q iff refused then = λ damage. absurd damage
damage_then (Err NoMemory) spent place told Q iff refused then = λ damage. absurd damage
damage_then (Err DiskFault) spent place told Q iff refused then = λ damage. absurd damage
damage_then (Err (Damaged at)) true place told Q iff refused then = λ damage. let e = iff.1 refl in absurd (cc e)
damage_then (Err (Damaged at)) false place told Q iff refused then = λ damage. then at refl refused
