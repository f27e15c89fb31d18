-- One command more of a file, or why it can't be read.
use Rattle.std.proofs.Common.{◌≡◌, ℕ, ◌+◌, List, [], ◌∷◌, ◌++◌, length, Option, Some, None, sym, ◌∙◌, ap, subst, inl, inr, arith}
use Rattle.mj_disk.specs.DiskModel.{History, Now}
use Rattle.mj_tickets.specs.declared.command.TicketCmd.{TicketCmd}
use Rattle.mj_tickets.specs.declared.place.Place.{Place}
use Rattle.mj_tickets.specs.Payload.{IsCommand}
use Rattle.mj_tickets.specs.Fold.{Fold, applied}
use Rattle.mj_tickets.specs.Index.{place_in}
use Rattle.mj_tickets.proofs.AgainLemmas.{one_command}
use Rattle.mj_journal.specs.declared.fault.OpenFault.{OpenFault}
use Rattle.mj_journal.specs.declared.fault.OpenFault.TheVariants.{NotAStore, Version, Damaged, DiskFault, NoMemory}
use Rattle.mj_journal.specs.FileText.{end_of}
use Rattle.mj_journal.specs.Opening.{IsNextFault, IsNotNext, ReadTo, ReadsOne, ReadsAll}
use Rattle.mj_journal.proofs.Files.{end_of-push}
use Rattle.mj_store.specs.Commands.{payloads_of, IsWritten}
use Rattle.mj_store.specs.Opening.{HasRead, HasAll, IsBad, IsDamaged, IsUnread}
use Rattle.mj_store.proofs.Adding.{index-push, written-push, payloads-push}

pub next_unread : (base gate : ℕ) (index : Fold Place) (told : Option History) (fault : OpenFault) → HasRead base gate index told → IsNextFault fault → Now told (IsNotNext gate fault) → IsUnread base fault told
next_unread base gate index told NotAStore read kind not_next = absurd kind
next_unread base gate index told (Version version) read kind not_next = absurd kind
next_unread base gate index told (Damaged at) read kind not_next = λ history is.
    let torn = not_next history is in
    subst (λ (n : ℕ). IsDamaged base n history.now) (sym torn.0) (index, read.0, read.1, read.2 history is, inl torn.1)
next_unread base gate index told DiskFault read kind not_next = tt
next_unread base gate index told NoMemory read kind not_next = tt

pub reads_whole : (base gate next : ℕ) (index : Fold Place) (told : Option History) → next ≡ gate → HasRead base gate index told → Now told (ReadsAll base gate) → HasAll base next index told
reads_whole base gate next index told same read all =
    subst (λ (n : ℕ). HasAll base n index told) (sym same)
    (read.0, read.1, λ history is. let r = read.2 history is in (r.0, r.1.is_header, (all history is).1 r.0 (payloads_of read.0) r.1))

pub reads_bad : (base gate at next : ℕ) (index : Fold Place) (told : Option History) (payload : List ℕ) → at ≡ gate → HasRead base gate index told → Now told (ReadsOne base gate next payload) → ((cmd : TicketCmd) → IsCommand cmd payload → applied cmd (place_in (gate + 5) cmd) index ≡ None) → Now told (IsDamaged base at)
reads_bad base gate at next index told payload same read one bad = λ history is.
    let r = read.2 history is in
    let whole : IsBad base gate index read.0 history.now.octets = inr (payload, next, r.0, (one history is).1 r.0 (payloads_of read.0) r.1, bad) in
    subst (λ (n : ℕ). IsDamaged base n history.now) (sym same) (index, read.0, read.1, r, whole)

pub unlawful : (cmd : TicketCmd) (at gate : ℕ) (index : Fold Place) (payload : List ℕ) → at ≡ gate → IsCommand cmd payload → applied cmd (place_in (at + 5) cmd) index ≡ None → (other : TicketCmd) → IsCommand other payload → applied other (place_in (gate + 5) other) index ≡ None
unlawful cmd at gate index payload same is none other is_other =
    subst (λ (c : TicketCmd). applied c (place_in (gate + 5) c) index ≡ None) (one_command cmd other payload is is_other)
    (subst (λ (n : ℕ). applied cmd (place_in (n + 5) cmd) index ≡ None) same none)

pub reads_more : (base gate at next : ℕ) (index new : Fold Place) (told : Option History) (payload : List ℕ) (cmd : TicketCmd) → at ≡ gate → next ≡ gate + (5 + length payload) → IsCommand cmd payload → applied cmd (place_in (at + 5) cmd) index ≡ Some new → HasRead base gate index told → Now told (ReadsOne base gate next payload) → HasRead base next new told
reads_more base gate at next index new told payload cmd same next_is is some read one =
    let reads = read.1 in
    let command : IsWritten cmd = subst (λ (l : List ℕ). IsCommand cmd l) is.spells is in
    let pushed : payloads_of read.0 ++ payload ∷ [] ≡ payloads_of (read.0 ++ cmd ∷ []) = ap (λ (p : List ℕ). payloads_of read.0 ++ p ∷ []) is.spells ∙ sym (payloads-push read.0 cmd) in
    let place : gate + (5 + length payload) ≡ gate + (length payload + 5) = omega arith in (
      read.0 ++ cmd ∷ [],
      record {
        written = written-push read.0 cmd reads.written command;
        index_is = index-push base (at + 5) read.0 cmd index (omega (arith, same, reads.gate_is)) reads.index_is ∙ some;
        gate_is = next_is ∙ place ∙ end_of-push (payloads_of read.0) payload gate reads.gate_is ∙ ap end_of pushed;
      },
      λ history at_now. let r = read.2 history at_now in (r.0, subst (λ (ps : List (List ℕ)). ReadTo base next r.0 ps history.now.octets) pushed ((one history at_now).1 r.0 (payloads_of read.0) r.1)),
    )
