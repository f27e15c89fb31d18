-- One command more of a file, or why it can't be read.
use Rattle.std.proofs.Common.{◌≡◌, ℕ, ◌+◌, List, [], ◌∷◌, ◌++◌, length, Option, Some, None, sym, ◌∙◌, ap, subst, arith}
use Rattle.mj_disk.specs.DiskModel.{History, Now}
use Rattle.mj_tickets.specs.declared.command.TicketCmd.{TicketCmd}
use Rattle.mj_tickets.specs.declared.place.Place.{Place}
use Rattle.mj_tickets.specs.Payload.{IsCommand}
use Rattle.mj_tickets.specs.Fold.{Fold, applied}
use Rattle.mj_tickets.specs.Index.{place_in}
use Rattle.mj_journal.specs.declared.fault.OpenFault.{OpenFault}
use Rattle.mj_journal.specs.FileText.{end_of, sizes}
use Rattle.mj_journal.specs.Opening.{IsNextFault, IsNotNext, ReadTo, ReadsAll, ReadsOne}
use Rattle.mj_journal.proofs.Files.{end_of-push}
use Rattle.mj_store.specs.Commands.{IsWritten, payloads_of}
use Rattle.mj_store.specs.Opening.{IsDamaged, IsUnread}
use Rattle.mj_store.specs.Opening as opening
use Rattle.mj_store.proofs.Adding.{index-push, payloads-push, written-push}
use Rattle.mj_store.proofs.Reading as reading
use Rattle.mj_copy_file.specs.Logs.{spots_from}
use Rattle.mj_copy_file.specs.LogReading.{HasAll, HasRead}
use Rattle.mj_copy_file.specs.declared.spot.Spot.{Spot}

-- without the places
plain : (base gate : ℕ) (index : Fold Place) (spots : List Spot) (told : Option History) → HasRead base gate index spots told → opening.HasRead base gate index told
plain base gate index spots told read = (read.0, read.1, read.3)

pub next_unread : (base gate : ℕ) (index : Fold Place) (spots : List Spot) (told : Option History) (fault : OpenFault) → HasRead base gate index spots told → IsNextFault fault → Now told (IsNotNext gate fault) → IsUnread base fault told
next_unread base gate index spots told fault read kind not_next = reading.next_unread base gate index told fault (plain base gate index spots told read) kind not_next

pub reads_bad : (base gate at next : ℕ) (index : Fold Place) (spots : List Spot) (told : Option History) (payload : List ℕ) → at ≡ gate → HasRead base gate index spots told → Now told (ReadsOne base gate next payload) → ((cmd : TicketCmd) → IsCommand cmd payload → applied cmd (place_in (gate + 5) cmd) index ≡ None) → Now told (IsDamaged base at)
reads_bad base gate at next index spots told payload same read one bad = reading.reads_bad base gate at next index told payload same (plain base gate index spots told read) one bad

pub reads_whole : (base gate next : ℕ) (index : Fold Place) (spots : List Spot) (told : Option History) → next ≡ gate → HasRead base gate index spots told → Now told (ReadsAll base gate) → HasAll base next index spots told
reads_whole base gate next index spots told same read all =
    subst (λ (n : ℕ). HasAll base n index spots told) (sym same)
    (read.0, read.1, read.2, λ history is. let r = read.3 history is in (r.0, r.1.is_header, (all history is).1 r.0 (payloads_of read.0) r.1))

pub spots_push : (gate : ℕ) (payloads : List (List ℕ)) (payload : List ℕ) (at : ℕ) → at ≡ gate + sizes payloads + 5 → spots_from gate (payloads ++ payload ∷ []) ≡ spots_from gate payloads ++ record { at = at; len = length payload } ∷ []
spots_push gate [] payload at is = let place : gate + 5 ≡ at = omega (arith, is) in ap (λ (n : ℕ). record { at = n; len = length payload } ∷ []) place
spots_push gate (first ∷ payloads) payload at is =
    ap (λ (spots : List Spot). record { at = gate + 5; len = length first } ∷ spots) (spots_push (gate + (length first + 5)) payloads payload at (omega (arith, is)))

pub reads_more : (base gate at next : ℕ) (index new : Fold Place) (spots more : List Spot) (told : Option History) (payload : List ℕ) (cmd : TicketCmd) → at ≡ gate + 5 → next ≡ gate + (5 + length payload) → IsCommand cmd payload → applied cmd (place_in at cmd) index ≡ Some new → more ≡ spots ++ record { at = at; len = length payload } ∷ []
    → HasRead base gate index spots told → Now told (ReadsOne base gate next payload) → HasRead base next new more told
reads_more base gate at next index new spots more told payload cmd same next_is is some more_is read one =
    let reads = read.1 in
    let command : IsWritten cmd = subst (λ (l : List ℕ). IsCommand cmd l) is.spells is in
    let pushed : payloads_of read.0 ++ payload ∷ [] ≡ payloads_of (read.0 ++ cmd ∷ []) = ap (λ (p : List ℕ). payloads_of read.0 ++ p ∷ []) is.spells ∙ sym (payloads-push read.0 cmd) in
    let place : gate + (5 + length payload) ≡ gate + (length payload + 5) = omega arith in
    let place_is : at ≡ end_of (payloads_of read.0) + 5 = omega (arith, same, reads.gate_is) in (
      read.0 ++ cmd ∷ [],
      record {
        written = written-push read.0 cmd reads.written command;
        index_is = index-push base at read.0 cmd index place_is reads.index_is ∙ some;
        gate_is = next_is ∙ place ∙ end_of-push (payloads_of read.0) payload gate reads.gate_is ∙ ap end_of pushed;
      },
      more_is ∙ ap (λ (l : List Spot). l ++ record { at = at; len = length payload } ∷ []) read.2 ∙ sym (spots_push 16 (payloads_of read.0) payload at place_is) ∙ ap (spots_from 16) pushed,
      λ history at_now. let r = read.3 history at_now in (r.0, subst (λ (ps : List (List ℕ)). ReadTo base next r.0 ps history.now.octets) pushed ((one history at_now).1 r.0 (payloads_of read.0) r.1)),
    )
