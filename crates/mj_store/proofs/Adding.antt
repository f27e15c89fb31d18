-- What an append makes of the list for which memory and disk stand.
use Rattle.std.proofs.Common.{◌≡◌, ◌≢◌, ℕ, ◌+◌, ◌≤◌, ◌⊎◌, true, false, List, [], ◌∷◌, ◌++◌, length, Option, Some, None, is_some, refl, sym, ◌∙◌, ap, subst, inl, inr, arith}
use Rattle.std.specs.Prelude.{option_and_then}
use Rattle.std.specs.List.{AllByRecursion}
use Rattle.std.proofs.lemmas.List.{map_push}
use Rattle.mj_disk.specs.Content.{Content, IsImage}
use Rattle.mj_disk.specs.DiskModel.{History, Now, IsSettled, LeavesOnly, latest}
use Rattle.mj_disk.specs.declared.disk.Disk.{Ghosts}
use Rattle.mj_disk.proofs.Images.{settled_is}
use Rattle.mj_disk.proofs.Moments.{counts_now, told_before, started, leaves_weaker, rests}
use Rattle.mj_tickets.specs.declared.command.TicketCmd.{TicketCmd}
use Rattle.mj_tickets.specs.declared.place.Place.{Place}
use Rattle.mj_tickets.specs.Payload.{IsCommand, payload_of}
use Rattle.mj_tickets.specs.Fold.{Fold, start, applied}
use Rattle.mj_tickets.specs.Index.{indexed, place_in}
use Rattle.mj_journal.specs.FileText.{IsHeader, Stands, sizes, end_of}
use Rattle.mj_journal.specs.Appending.{EndsAt, Appends, CrashesOldOrNew, StandsForEither}
use Rattle.mj_journal.proofs.Files.{length-header, end_of-push}
use Rattle.mj_store.specs.Commands.{payloads_of, IsWritten, placed_from, index_of, IsLawful, StandsForCommands, OpensFor, OpensForOne}
use Rattle.mj_store.specs.Standing.{StoreValue, Knows, IsSettledFor, Holds, IsHeld, IsWithOrWithout, Adds, Doubts, LeavesWithOrWithout}

-- ---- lists

and_then_some : {A : Type 0} (o : Option A) → option_and_then (λ (x : A). Some x) o ≡ o
and_then_some None = refl
and_then_some (Some x) = refl

push_on : (gate : ℕ) (cmds more : List TicketCmd) (o : Option (Fold Place)) (g : Fold Place) (X : Option (Fold Place)) → ((h : Fold Place) → indexed (placed_from gate cmds) h ≡ Some g → indexed (placed_from gate more) h ≡ X)
    → option_and_then (indexed (placed_from gate cmds)) o ≡ Some g → option_and_then (indexed (placed_from gate more)) o ≡ X
push_on gate cmds more None g X on is = absurd (cc is)
push_on gate cmds more (Some h) g X on is = on h is

indexed-push : (gate at : ℕ) (cmds : List TicketCmd) (cmd : TicketCmd) (f g : Fold Place) → at ≡ gate + sizes (payloads_of cmds) + 5 → indexed (placed_from gate cmds) f ≡ Some g → indexed (placed_from gate (cmds ++ cmd ∷ [])) f ≡ applied cmd (place_in at cmd) g
indexed-push gate at [] cmd f g at_is is =
    let same : f ≡ g = cc is in
    let place : gate + 5 ≡ at = omega (arith, at_is) in
    and_then_some (applied cmd (place_in (gate + 5) cmd) f)
    ∙ ap (λ (n : ℕ). applied cmd (place_in n cmd) f) place
    ∙ ap (λ (h : Fold Place). applied cmd (place_in at cmd) h) same
indexed-push gate at (first ∷ cmds) cmd f g at_is is =
    let next = gate + (length (payload_of first) + 5) in
    push_on (gate + (length (payload_of first) + 5)) cmds (cmds ++ cmd ∷ []) (applied first (place_in (gate + 5) first) f) g (applied cmd (place_in at cmd) g)
    (λ h rest. indexed-push (gate + (length (payload_of first) + 5)) at cmds cmd h g (omega (arith, at_is)) rest)
    is

pub index-push : (base at : ℕ) (cmds : List TicketCmd) (cmd : TicketCmd) (g : Fold Place) → at ≡ end_of (payloads_of cmds) + 5 → index_of base cmds ≡ Some g → index_of base (cmds ++ cmd ∷ []) ≡ applied cmd (place_in at cmd) g
index-push base at cmds cmd g at_is is = indexed-push 16 at cmds cmd (start base) g (omega (arith, at_is)) is

pub written-push : (cmds : List TicketCmd) (cmd : TicketCmd) → AllByRecursion IsWritten cmds → IsWritten cmd → AllByRecursion IsWritten (cmds ++ cmd ∷ [])
written-push [] cmd all one = (one, tt)
written-push (first ∷ cmds) cmd all one = (all.0, written-push cmds cmd all.1 one)

pub payloads-push : (cmds : List TicketCmd) (cmd : TicketCmd) → payloads_of (cmds ++ cmd ∷ []) ≡ payloads_of cmds ++ payload_of cmd ∷ []
payloads-push cmds cmd = map_push payload_of cmds cmd

is_written : (cmd : TicketCmd) (payload : List ℕ) → IsCommand cmd payload → IsWritten cmd
is_written cmd payload is = subst (λ (l : List ℕ). IsCommand cmd l) is.spells is

the_some : {A : Type 0} (o : Option A) → o ≢ None → (x : A) × (o ≡ Some x)
the_some None some = absurd (some refl)
the_some (Some x) some = (x, refl)

pub lawful-push : (base at : ℕ) (cmds : List TicketCmd) (cmd : TicketCmd) (payload : List ℕ) (store : StoreValue) → Knows base cmds store → IsCommand cmd payload → at ≡ store.end + 5 → applied cmd (place_in at cmd) store.index ≢ None → IsLawful base (cmds ++ cmd ∷ [])
lawful-push base at cmds cmd payload store knows is at_is lawful =
    let some = the_some (applied cmd (place_in at cmd) store.index) lawful in
    record {
      based = knows.based;
      written = written-push cmds cmd knows.written (is_written cmd payload is);
      index = some.0;
      index_is = index-push base at cmds cmd store.index (omega (arith, at_is, knows.end_is)) knows.index_is ∙ some.1;
    }

pub lawful_known : (base : ℕ) (cmds : List TicketCmd) (store : StoreValue) → Knows base cmds store → IsLawful base cmds
lawful_known base cmds store knows = record { based = knows.based; written = knows.written; index = store.index; index_is = knows.index_is }

-- ---- images

pub opens_for : (base : ℕ) (cmds : List TicketCmd) (image : List ℕ) → StandsForCommands base cmds image → OpensFor base cmds image
opens_for base cmds image stands = (base, inl stands, inl refl)

pub opens_for_one : (base : ℕ) (cmds more : List TicketCmd) (image : List ℕ) → StandsForCommands base cmds image ⊎ StandsForCommands base more image → OpensForOne base (cmds ∷ more ∷ []) image
opens_for_one base cmds more image (inl one) = inl (opens_for base cmds image one)
opens_for_one base cmds more image (inr two) = inr (inl (opens_for base more image two))

pub settled_stands : (base : ℕ) (cmds : List TicketCmd) (held : Content) (image : List ℕ) → IsSettledFor base cmds held → IsImage held image → StandsForCommands base cmds image
settled_stands base cmds held image file is =
    let same : image ≡ held.octets = settled_is held.octets image (subst (λ (c : Content). IsImage c image) file.0 is) in
    subst (λ (l : List ℕ). StandsForCommands base cmds l) (sym same) file.1

-- where nothing was written
pub nothing_written : (told : Option History) (moment : ℕ) (P : List ℕ → Type 0) → ((history : History) → told ≡ Some history → latest history.past ≤ moment) → Now told (λ held. (image : List ℕ) → IsImage held image → P image) → LeavesOnly (moment, moment) told told P
nothing_written None moment P timely here = rests (moment, moment) None None P refl refl (omega arith)
nothing_written (Some history) moment P timely here = started (Some history) history moment P refl (timely history refl) (here history refl)

pub stays_held : {D : Type 0} (disks : Ghosts D) (doubt : List TicketCmd) (store : StoreValue) (disk : D) → ((history : History) → disks.told disk ≡ Some history → latest history.past ≤ disks.time disk) → LeavesWithOrWithout disks doubt store disk disk
stays_held disks doubt store disk timely base cmds holds =
    nothing_written (disks.told disk) (disks.time disk) (OpensForOne base (cmds ∷ (cmds ++ doubt) ∷ [])) timely
    (λ history is image now. inl (opens_for base cmds image (settled_stands base cmds history.now image (holds.file history is) now)))

-- ---- an append

either_stands : (base : ℕ) (cmds : List TicketCmd) (cmd : TicketCmd) (payload head image : List ℕ) → IsHeader base head → payload ≡ payload_of cmd → StandsForEither head (payloads_of cmds) payload image → StandsForCommands base cmds image ⊎ StandsForCommands base (cmds ++ cmd ∷ []) image
either_stands base cmds cmd payload head image is_header is (inl old) = inl (head, is_header, old)
either_stands base cmds cmd payload head image is_header is (inr new) =
    let same : payloads_of cmds ++ payload ∷ [] ≡ payloads_of (cmds ++ cmd ∷ []) = ap (λ (p : List ℕ). payloads_of cmds ++ p ∷ []) is ∙ sym (payloads-push cmds cmd) in
    inr (head, is_header, subst (λ (ps : List (List ℕ)). Stands head ps image) same new)

pub append_images : (base : ℕ) (cmds : List TicketCmd) (cmd : TicketCmd) (payload : List ℕ) (end : ℕ) (moments : ℕ × ℕ) (history : History) (after : Option History) → payload ≡ payload_of cmd → end ≡ end_of (payloads_of cmds) → IsSettledFor base cmds history.now → CrashesOldOrNew payload end moments (Some history) after
    → LeavesOnly moments (Some history) after (λ image. StandsForCommands base cmds image ⊎ StandsForCommands base (cmds ++ cmd ∷ []) image)
append_images base cmds cmd payload end moments history after is end_is file crash =
    let stands = file.1 in
    leaves_weaker moments (Some history) after (StandsForEither stands.0 (payloads_of cmds) payload) (λ image. StandsForCommands base cmds image ⊎ StandsForCommands base (cmds ++ cmd ∷ []) image)
    (crash history stands.0 (payloads_of cmds) refl file.0 (length-header base stands.0 stands.1) stands.2 end_is)
    (λ image either. either_stands base cmds cmd payload stands.0 image stands.1 is either)

append_leaves : (base : ℕ) (cmds : List TicketCmd) (cmd : TicketCmd) (payload : List ℕ) (end : ℕ) (moments : ℕ × ℕ) (before after : Option History) → payload ≡ payload_of cmd → end ≡ end_of (payloads_of cmds) → Now before (IsSettledFor base cmds) → is_some after ≡ is_some before → moments.0 ≤ moments.1 → CrashesOldOrNew payload end moments before after
    → LeavesOnly moments before after (OpensForOne base (cmds ∷ (cmds ++ cmd ∷ []) ∷ []))
append_leaves base cmds cmd payload end moments None after is end_is file telling later crash = rests moments None after (OpensForOne base (cmds ∷ (cmds ++ cmd ∷ []) ∷ [])) refl telling later
append_leaves base cmds cmd payload end moments (Some history) after is end_is file telling later crash =
    leaves_weaker moments (Some history) after (λ image. StandsForCommands base cmds image ⊎ StandsForCommands base (cmds ++ cmd ∷ []) image) (OpensForOne base (cmds ∷ (cmds ++ cmd ∷ []) ∷ []))
    (append_images base cmds cmd payload end moments history after is end_is (file history refl) crash)
    (λ image either. opens_for_one base cmds (cmds ++ cmd ∷ []) image either)

append_doubts : (base : ℕ) (cmds : List TicketCmd) (cmd : TicketCmd) (payload : List ℕ) (end : ℕ) (moments : ℕ × ℕ) (before after : Option History) → payload ≡ payload_of cmd → end ≡ end_of (payloads_of cmds) → Now before (IsSettledFor base cmds) → is_some after ≡ is_some before → CrashesOldOrNew payload end moments before after
    → Now after (IsWithOrWithout base cmds (cmd ∷ []))
append_doubts base cmds cmd payload end moments None after is end_is file telling crash history after_is image now = let none = told_before None after history telling after_is in absurd (cc (none.1))
append_doubts base cmds cmd payload end moments (Some old) after is end_is file telling crash history after_is image now =
    (append_images base cmds cmd payload end moments old after is end_is (file old refl) crash).each image (counts_now after history moments.0 image after_is now)

module _ {D : Type 0} (disks : Ghosts D) (cmd : TicketCmd) (payload : List ℕ) (end : ℕ) (old : StoreValue) (disk after : D) (command : IsCommand cmd payload) (end_is : end ≡ old.end) (telling : is_some (disks.told after) ≡ is_some (disks.told disk)) where
  place_of_end : (base : ℕ) (cmds : List TicketCmd) → Holds disks base cmds old disk → end ≡ end_of (payloads_of cmds)
  place_of_end base cmds holds = end_is ∙ holds.knows.end_is

  pub add_leaves : disks.time disk ≤ disks.time after → CrashesOldOrNew payload end (disks.time disk, disks.time after) (disks.told disk) (disks.told after) → LeavesWithOrWithout disks (cmd ∷ []) old disk after
  add_leaves later crash base cmds holds =
      append_leaves base cmds cmd payload end (disks.time disk, disks.time after) (disks.told disk) (disks.told after) command.spells (place_of_end base cmds holds) holds.file telling later crash

  pub add_doubts : disks.failed after ≡ true → applied cmd (place_in (old.end + 5) cmd) old.index ≢ None → CrashesOldOrNew payload end (disks.time disk, disks.time after) (disks.told disk) (disks.told after) → Doubts disks (cmd ∷ []) old disk after
  add_doubts failed lawful crash base cmds holds = record {
    plain = lawful_known base cmds old holds.knows;
    whole = lawful-push base (old.end + 5) cmds cmd payload old holds.knows command refl lawful;
    end_is = holds.knows.end_is;
    failed = failed;
    images = append_doubts base cmds cmd payload end (disks.time disk, disks.time after) (disks.told disk) (disks.told after) command.spells (place_of_end base cmds holds) holds.file telling crash;
  }

  pub add_adds : (new : StoreValue) → new.end ≡ end + (length payload + 5) → applied cmd (place_in (old.end + 5) cmd) old.index ≡ Some new.index → new.spent ≡ false → disks.settled_now after → ((history : History) → disks.told after ≡ Some history → disks.settled_now after → IsSettled history.now)
      → Appends payload end (disks.told disk) (disks.told after) → Adds disks cmd old disk new after
  add_adds new new_end new_index unspent settled_after clean appends base cmds holds =
      let pushed : payloads_of (cmds ++ cmd ∷ []) ≡ payloads_of cmds ++ payload ∷ [] = payloads-push cmds cmd ∙ ap (λ (p : List ℕ). payloads_of cmds ++ p ∷ []) (sym command.spells) in
      record {
        knows = record {
          based = holds.knows.based;
          written = written-push cmds cmd holds.knows.written (is_written cmd payload command);
          index_is = index-push base (old.end + 5) cmds cmd old.index (omega (arith, holds.knows.end_is)) holds.knows.index_is ∙ new_index;
          end_is = new_end ∙ end_of-push (payloads_of cmds) payload end (place_of_end base cmds holds) ∙ ap end_of (sym pushed);
          unspent = unspent;
        };
        settled = settled_after;
        file = λ history is.
            let before = told_before (disks.told disk) (disks.told after) history telling is in
            let file = holds.file before.0 before.1 in
            let stands = file.1 in
            let now = appends before.0 stands.0 (payloads_of cmds) before.1 (length-header base stands.0 stands.1) stands.2 (place_of_end base cmds holds) in
            let same : now.0 ≡ history = cc (now.1, is) in
            (clean history is settled_after, (stands.0, stands.1, subst (λ (h : History). Stands stands.0 (payloads_of (cmds ++ cmd ∷ [])) h.now.octets) same (subst (λ (ps : List (List ℕ)). Stands stands.0 ps now.0.now.octets) (sym pushed) now.2)));
      }

-- what an append asks of the file
pub ends_held : {D : Type 0} (disks : Ghosts D) (store : StoreValue) (end : ℕ) (disk : D) → end ≡ store.end → IsHeld disks store disk → Now (disks.told disk) (EndsAt end)
ends_held disks store end disk end_is held history is =
    let stands = (held.2.file history is).1 in
    (stands.0, payloads_of held.1, length-header held.0 stands.0 stands.1, stands.2, end_is ∙ held.2.knows.end_is)
