-- What an append makes of a list, and why a payload is refused.
use Rattle.std.proofs.Common.{◌≡◌, ℕ, ◌+◌, ◌≤◌, false, List, [], ◌∷◌, ◌++◌, length, Option, Some, None, is_some, refl, sym, ◌∙◌, ap, subst, inl, inr, arith}
use Rattle.std.specs.List.{AllByRecursion}
use Rattle.mj_disk.specs.Content.{Content, IsImage}
use Rattle.mj_disk.specs.DiskModel.{History, IsSettled, LeavesOnly, Now, latest}
use Rattle.mj_disk.specs.declared.disk.Disk.{Ghosts}
use Rattle.mj_disk.proofs.Images.{settled_is}
use Rattle.mj_disk.proofs.Moments.{leaves_weaker, rests, told_before}
use Rattle.mj_journal.specs.Appending.{Appends, CrashesOldOrNew, EndsAt, StandsForEither}
use Rattle.mj_journal.specs.FileText.{IsHeader, Stands, StandsFor, end_of}
use Rattle.mj_journal.proofs.Files.{end_of-push, length-header}
use Rattle.mj_store.specs.Commands.{IsWritten, index_of, payloads_of}
use Rattle.mj_store.proofs.Adding.{index-push, nothing_written, payloads-push, written-push}
use Rattle.mj_store.proofs.Beginning.{same_cmds}
use Rattle.mj_tickets.specs.Fold.{applied}
use Rattle.mj_tickets.specs.Index.{place_in}
use Rattle.mj_tickets.specs.Payload.{IsCommand, payload_of}
use Rattle.mj_tickets.specs.declared.command.TicketCmd.{TicketCmd}
use Rattle.mj_tickets.proofs.AgainLemmas.{one_command}
use Rattle.mj_copy_file.specs.Logs.{AppendsOne, IsEither, IsHeld, IsNext, IsSettledAs, Knows, LeavesEither, RefusesOne}
use Rattle.mj_copy_file.specs.declared.log.Log.{Log}
use Rattle.mj_copy_file.specs.declared.spot.Spot.{Spot}
use Rattle.mj_copy_file.proofs.LogReads.{spots_push}

-- ---- the file, as an append asks for it

pub ends_held : {D : Type 0} (disks : Ghosts D) (log : Log) (disk : D) (end : ℕ) → end ≡ log.journal.end → IsHeld disks log disk → Now (disks.told disk) (EndsAt end)
ends_held disks log disk end end_is held history is =
    let stands = (held.1.file history is).1 in
    (stands.0, held.0, length-header log.base stands.0 stands.1, stands.2, end_is ∙ held.1.knows.end_is)

-- ---- one more

is_written : (cmd : TicketCmd) (payload : List ℕ) → IsCommand cmd payload → IsWritten cmd
is_written cmd payload is = subst (λ (l : List ℕ). IsCommand cmd l) is.spells is

pub record IsMore (old new : Log) (payload : List ℕ) (cmd : TicketCmd) (at : ℕ) : Type 0 where
  pub command : IsCommand cmd payload
  pub at_is : at ≡ old.journal.end + 5
  pub index_is : applied cmd (place_in at cmd) old.tickets.index ≡ Some new.tickets.index
  pub base_is : new.base ≡ old.base
  pub spots_are : new.spots.items ≡ old.spots.items ++ record { at = at; len = length payload } ∷ []
  pub end_is : new.journal.end ≡ old.journal.end + (length payload + 5)
  pub unspent : new.journal.spent ≡ false

pushed : (payloads : List (List ℕ)) (payload : List ℕ) (cmds : List TicketCmd) (cmd : TicketCmd) → payloads ≡ payloads_of cmds → IsCommand cmd payload → payloads ++ payload ∷ [] ≡ payloads_of (cmds ++ cmd ∷ [])
pushed payloads payload cmds cmd spells command =
    ap (λ (ps : List (List ℕ)). ps ++ payload ∷ []) spells ∙ ap (λ (p : List ℕ). payloads_of cmds ++ p ∷ []) command.spells ∙ sym (payloads-push cmds cmd)

index_more : (payloads : List (List ℕ)) (old new : Log) (payload : List ℕ) (cmd : TicketCmd) (at : ℕ) (knows : Knows payloads old) → IsMore old new payload cmd at → index_of old.base (knows.cmds ++ cmd ∷ []) ≡ Some new.tickets.index
index_more payloads old new payload cmd at knows more =
    let place : at ≡ end_of (payloads_of knows.cmds) + 5 = more.at_is ∙ ap (λ (n : ℕ). n + 5) (knows.end_is ∙ ap end_of knows.spells) in
    index-push old.base at knows.cmds cmd old.tickets.index place knows.index_is ∙ more.index_is

pub is_next : (payloads : List (List ℕ)) (old new : Log) (payload : List ℕ) (cmd : TicketCmd) (at : ℕ) → Knows payloads old → IsMore old new payload cmd at → IsNext old.base payloads payload
is_next payloads old new payload cmd at knows more = record {
  cmds = knows.cmds ++ cmd ∷ [];
  lawful = record {
    based = knows.based;
    written = written-push knows.cmds cmd knows.written (is_written cmd payload more.command);
    index = new.tickets.index;
    index_is = index_more payloads old new payload cmd at knows more;
  };
  spells = pushed payloads payload knows.cmds cmd knows.spells more.command;
}

pub knows_more : (payloads : List (List ℕ)) (old new : Log) (payload : List ℕ) (cmd : TicketCmd) (at : ℕ) → Knows payloads old → IsMore old new payload cmd at → Knows (payloads ++ payload ∷ []) new
knows_more payloads old new payload cmd at knows more =
    let place : at ≡ end_of payloads + 5 = more.at_is ∙ ap (λ (n : ℕ). n + 5) knows.end_is in
    record {
      cmds = knows.cmds ++ cmd ∷ [];
      based = (let b = knows.based in let same = more.base_is in (omega (arith, b.0, same), omega (arith, b.1, same)));
      written = written-push knows.cmds cmd knows.written (is_written cmd payload more.command);
      spells = pushed payloads payload knows.cmds cmd knows.spells more.command;
      index_is = ap (λ (b : ℕ). index_of b (knows.cmds ++ cmd ∷ [])) more.base_is ∙ index_more payloads old new payload cmd at knows more;
      end_is = more.end_is ∙ end_of-push payloads payload old.journal.end knows.end_is;
      spots_are = more.spots_are ∙ ap (λ (l : List Spot). l ++ record { at = at; len = length payload } ∷ []) knows.spots_are ∙ sym (spots_push 16 payloads payload at place);
      unspent = more.unspent;
    }

pub appends_one : {D : Type 0} (disks : Ghosts D) (old new : Log) (disk after : D) (payload : List ℕ) (cmd : TicketCmd) (at end : ℕ) → IsMore old new payload cmd at → end ≡ old.journal.end → is_some (disks.told after) ≡ is_some (disks.told disk) → disks.settled_now after
    → ((history : History) → disks.told after ≡ Some history → disks.settled_now after → IsSettled history.now) → Appends payload end (disks.told disk) (disks.told after) → AppendsOne disks payload old disk new after
appends_one disks old new disk after payload cmd at end more end_is telling settled clean appends payloads holds = (
  is_next payloads old new payload cmd at holds.knows more,
  record {
    knows = knows_more payloads old new payload cmd at holds.knows more;
    settled = settled;
    file = λ history is.
        let before = told_before (disks.told disk) (disks.told after) history telling is in
        let stands = (holds.file before.0 before.1).1 in
        let now = appends before.0 stands.0 payloads before.1 (length-header old.base stands.0 stands.1) stands.2 (end_is ∙ holds.knows.end_is) in
        let same : now.0 ≡ history = cc (now.1, is) in
        let here : Stands stands.0 (payloads ++ payload ∷ []) history.now.octets = subst (λ (h : History). Stands stands.0 (payloads ++ payload ∷ []) h.now.octets) same now.2 in
        (clean history is settled, subst (λ (b : ℕ). StandsFor b (payloads ++ payload ∷ []) history.now.octets) (sym more.base_is) (stands.0, stands.1, here));
  },
)

-- ---- refusals

-- the last of a list of commands whose payloads end with this one
last_of : (front : List (List ℕ)) (payload : List ℕ) (list : List TicketCmd) → AllByRecursion IsWritten list → front ++ payload ∷ [] ≡ payloads_of list
    → (before : List TicketCmd) × (cmd : TicketCmd) × (list ≡ before ++ cmd ∷ []) × (front ≡ payloads_of before) × AllByRecursion IsWritten before × IsCommand cmd payload
last_of [] payload [] all same = absurd (cc same)
last_of [] payload (cmd ∷ []) all same =
    let one : payload ≡ payload_of cmd = cc same in
    ([], cmd, refl, refl, tt, subst (λ (l : List ℕ). IsCommand cmd l) (sym one) all.0)
last_of [] payload (cmd ∷ other ∷ list) all same = absurd (cc same)
last_of (first ∷ front) payload [] all same = absurd (cc same)
last_of (first ∷ front) payload (cmd ∷ list) all same =
    let one : first ≡ payload_of cmd = cc same in
    let rest : front ++ payload ∷ [] ≡ payloads_of list = cc same in
    let on = last_of front payload list all.1 rest in
    (cmd ∷ on.0, on.1, ap (λ (cs : List TicketCmd). cmd ∷ cs) on.2, ap (λ (p : List ℕ). p ∷ front) one ∙ ap (λ (ps : List (List ℕ)). payload_of cmd ∷ ps) on.3, (all.0, on.4), on.5)

no_command : (payloads : List (List ℕ)) (base : ℕ) (payload : List ℕ) → ((cmd : TicketCmd) → IsCommand cmd payload → ⊥) → ¬ IsNext base payloads payload
no_command payloads base payload none next =
    let last = last_of payloads payload next.cmds next.lawful.written next.spells in
    none last.1 last.5

unlawful : (payloads : List (List ℕ)) (log : Log) (payload : List ℕ) (cmd : TicketCmd) (at : ℕ) → IsCommand cmd payload → at ≡ log.journal.end + 5 → applied cmd (place_in at cmd) log.tickets.index ≡ None → Knows payloads log → ¬ IsNext log.base payloads payload
unlawful payloads log payload cmd at command at_is none knows next =
    let last = last_of payloads payload next.cmds next.lawful.written next.spells in
    let front : last.0 ≡ knows.cmds = same_cmds last.0 knows.cmds last.4 knows.written (sym last.3 ∙ knows.spells) in
    let end : last.1 ≡ cmd = one_command last.1 cmd payload last.5 command in
    let list : next.cmds ≡ knows.cmds ++ cmd ∷ [] = last.2 ∙ ap (λ (cs : List TicketCmd). cs ++ last.1 ∷ []) front ∙ ap (λ (c : TicketCmd). knows.cmds ++ c ∷ []) end in
    let place : at ≡ end_of (payloads_of knows.cmds) + 5 = at_is ∙ ap (λ (n : ℕ). n + 5) (knows.end_is ∙ ap end_of knows.spells) in
    let is : Some next.lawful.index ≡ None = sym next.lawful.index_is ∙ ap (index_of log.base) list ∙ index-push log.base at knows.cmds cmd log.tickets.index place knows.index_is ∙ none in
    absurd (cc is)

pub refuses_no_command : {D : Type 0} (disks : Ghosts D) (log : Log) (disk : D) (payload : List ℕ) → ((cmd : TicketCmd) → IsCommand cmd payload → ⊥) → RefusesOne disks payload log disk log disk
refuses_no_command disks log disk payload none = record { unlawful = λ payloads knows. no_command payloads log.base payload none; log_same = refl; disk_same = refl }

pub refuses_unlawful : {D : Type 0} (disks : Ghosts D) (log new : Log) (disk : D) (payload : List ℕ) (cmd : TicketCmd) (at : ℕ) → IsCommand cmd payload → at ≡ log.journal.end + 5 → applied cmd (place_in at cmd) log.tickets.index ≡ None → new ≡ log → RefusesOne disks payload log disk new disk
refuses_unlawful disks log new disk payload cmd at command at_is none same = record { unlawful = λ payloads knows. unlawful payloads log payload cmd at command at_is none knows; log_same = same; disk_same = refl }

-- ---- images

settled_stands : (base : ℕ) (payloads : List (List ℕ)) (held : Content) (image : List ℕ) → IsSettledAs base payloads held → IsImage held image → StandsFor base payloads image
settled_stands base payloads held image file is =
    let same : image ≡ held.octets = settled_is held.octets image (subst (λ (c : Content). IsImage c image) file.0 is) in
    subst (λ (l : List ℕ). StandsFor base payloads l) (sym same) file.1

-- where nothing was written
pub stays_either : {D : Type 0} (disks : Ghosts D) (payload : List ℕ) (log : Log) (disk : D) → ((history : History) → disks.told disk ≡ Some history → latest history.past ≤ disks.time disk) → LeavesEither disks payload log disk disk
stays_either disks payload log disk timely payloads holds =
    nothing_written (disks.told disk) (disks.time disk) (IsEither log.base payloads payload) timely
    (λ history is image now. inl (settled_stands log.base payloads history.now image (holds.file history is) now))

by_head : (base : ℕ) (payloads : List (List ℕ)) (payload head image : List ℕ) → IsHeader base head → StandsForEither head payloads payload image → IsEither base payloads payload image
by_head base payloads payload head image is (inl old) = inl (head, is, old)
by_head base payloads payload head image is (inr new) = inr (head, is, new)

leaves : (base : ℕ) (payloads : List (List ℕ)) (payload : List ℕ) (end : ℕ) (moments : ℕ × ℕ) (before after : Option History) → end ≡ end_of payloads → Now before (IsSettledAs base payloads) → is_some after ≡ is_some before → moments.0 ≤ moments.1 → CrashesOldOrNew payload end moments before after → LeavesOnly moments before after (IsEither base payloads payload)
leaves base payloads payload end moments None after end_is file telling later crash = rests moments None after (IsEither base payloads payload) refl telling later
leaves base payloads payload end moments (Some history) after end_is file telling later crash =
    let f = file history refl in
    let stands = f.1 in
    leaves_weaker moments (Some history) after (StandsForEither stands.0 payloads payload) (IsEither base payloads payload)
    (crash history stands.0 payloads refl f.0 (length-header base stands.0 stands.1) stands.2 end_is)
    (λ image one. by_head base payloads payload stands.0 image stands.1 one)

pub leaves_either : {D : Type 0} (disks : Ghosts D) (payload : List ℕ) (log : Log) (disk after : D) (end : ℕ) → end ≡ log.journal.end → is_some (disks.told after) ≡ is_some (disks.told disk) → disks.time disk ≤ disks.time after → CrashesOldOrNew payload end (disks.time disk, disks.time after) (disks.told disk) (disks.told after) → LeavesEither disks payload log disk after
leaves_either disks payload log disk after end end_is telling later crash payloads holds =
    leaves log.base payloads payload end (disks.time disk, disks.time after) (disks.told disk) (disks.told after) (end_is ∙ holds.knows.end_is) holds.file telling later crash
