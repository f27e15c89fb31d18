-- The list that an opening finds is the one as which the bytes open, and what a crash inside it leaves.
use Rattle.std.proofs.Common.{◌≡◌, ℕ, ◌≤◌, ◌⊎◌, true, List, [], ◌∷◌, ◌++◌, length, Option, Some, None, is_some, refl, sym, ◌∙◌, ap, subst, inl, inr, ⊎_elim, arith}
use Rattle.std.specs.List.{AllByRecursion}
use Rattle.std.proofs.lemmas.List.{append-nil}
use Rattle.mj_disk.specs.Content.{Content, IsImage}
use Rattle.mj_disk.specs.DiskModel.{History, Now, IsSettled, LeavesOnly, CrashesAs}
use Rattle.mj_disk.specs.declared.disk.Disk.{Ghosts}
use Rattle.mj_disk.proofs.Images.{settled_is}
use Rattle.mj_disk.proofs.Moments.{counts_now, leaves_weaker, rests}
use Rattle.mj_tickets.specs.declared.command.TicketCmd.{TicketCmd}
use Rattle.mj_tickets.specs.Payload.{IsCommand, payload_of}
use Rattle.mj_tickets.proofs.AgainLemmas.{one_command}
use Rattle.mj_journal.specs.FileText.{Opens, OpensAs, Stands, StandsFor, header_2}
use Rattle.mj_journal.specs.Opening.{IsKeptOrMade, IsImageOrOpensAlike}
use Rattle.mj_journal.proofs.Files.{length-header, length-base_octets}
use Rattle.mj_journal.proofs.Beginning.{short_is_nil}
use Rattle.mj_journal.proofs.Unique.{stands_once, stands_short}
use Rattle.mj_store.specs.Commands.{payloads_of, IsWritten, StandsForCommands, OpensFor, OpensForOne}
use Rattle.mj_store.specs.Standing.{IsWithOrWithout}
use Rattle.mj_store.specs.Opening.{KeepsOrMakes, StaysInDoubt, LeavesInDoubt, LeavesBegun}
use Rattle.mj_store.proofs.Adding.{opens_for_one}

-- ---- lists and payloads

-- written commands with the same payloads are the same
pub same_cmds : (cmds others : List TicketCmd) → AllByRecursion IsWritten cmds → AllByRecursion IsWritten others → payloads_of cmds ≡ payloads_of others → cmds ≡ others
same_cmds [] [] all both same = refl
same_cmds [] (other ∷ others) all both same = absurd (cc same)
same_cmds (cmd ∷ cmds) [] all both same = absurd (cc same)
same_cmds (cmd ∷ cmds) (other ∷ others) all both same =
    let first : payload_of cmd ≡ payload_of other = cc same in
    let rest : payloads_of cmds ≡ payloads_of others = cc same in
    let one : cmd ≡ other = one_command cmd other (payload_of other) (subst (λ (l : List ℕ). IsCommand cmd l) first all.0) both.0 in
    ap (λ (c : TicketCmd). c ∷ cmds) one ∙ ap (λ (cs : List TicketCmd). other ∷ cs) (same_cmds cmds others all.1 both.1 rest)

pub none_of : (cmds : List TicketCmd) → payloads_of cmds ≡ [] → cmds ≡ []
none_of [] same = refl
none_of (cmd ∷ cmds) same = absurd (cc same)

-- ---- what was found

length-header_2 : (base : ℕ) → length (header_2 base) ≡ 16
length-header_2 base = omega (arith, length-base_octets base)

new_stands : (head : List ℕ) → Stands head [] (head ++ 0 ∷ [])
new_stands head = record { blocks = []; rest = []; all_open = tt; holds = refl; spells = ap (λ (l : List ℕ). l ++ 0 ∷ []) (sym (append-nil head)) }

pub made_stands : (new : List ℕ) → new ≡ header_2 1 ++ 0 ∷ [] → StandsFor 1 [] new
made_stands new is = (header_2 1, inr (omega arith, omega arith, refl), subst (λ (l : List ℕ). Stands (header_2 1) [] l) (sym is) (new_stands (header_2 1)))

-- what the bytes stand for afterwards, they opened as before
pub opened_before : (base : ℕ) (payloads : List (List ℕ)) (old new : List ℕ) → IsKeptOrMade 1 base old new → StandsFor base payloads new → Opens base payloads old
opened_before base payloads old new (inl kept) stands = inl (subst (λ (l : List ℕ). StandsFor base payloads l) kept.0 stands)
opened_before base payloads old new (inr made) stands =
    let fresh : Stands (header_2 1) [] new = subst (λ (l : List ℕ). Stands (header_2 1) [] l) (sym made.1) (new_stands (header_2 1)) in
    let once = stands_once stands.0 (header_2 1) payloads [] new (length-header base stands.0 stands.1) (length-header_2 1) stands.2 fresh in
    inr (made.0, made.2, once.1)

pub kept_or_made : (base : ℕ) (old new : Content) → IsKeptOrMade 1 base old.octets new.octets → KeepsOrMakes old new
kept_or_made base old new (inl kept) = inl kept
kept_or_made base old new (inr made) = inr (made.0, made.1)

-- an image that a crash in doubt leaves
pub in_doubt_opens : (base : ℕ) (cmds doubt : List TicketCmd) (held : Content) (image : List ℕ) → IsWithOrWithout base cmds doubt held → IsImage held held.octets → IsImageOrOpensAlike held image → StandsForCommands base cmds image ⊎ StandsForCommands base (cmds ++ doubt) image
in_doubt_opens base cmds doubt held image each reads (inl before) = each image before
in_doubt_opens base cmds doubt held image each reads (inr alike) = absurd (⊎_elim
    (λ (one : StandsForCommands base cmds held.octets). alike.0.1 (stands_short base (payloads_of cmds) held.octets one alike.0.0))
    (λ (two : StandsForCommands base (cmds ++ doubt) held.octets). alike.0.1 (stands_short base (payloads_of (cmds ++ doubt)) held.octets two alike.0.0))
    (each held.octets reads))

doubt_leaves : (base : ℕ) (cmds doubt : List TicketCmd) (moments : ℕ × ℕ) (before after : Option History) → Now before (IsWithOrWithout base cmds doubt) → ((history : History) → before ≡ Some history → IsImage history.now history.now.octets) → is_some after ≡ is_some before → moments.0 ≤ moments.1 → CrashesAs IsImageOrOpensAlike moments before after
    → LeavesOnly moments before after (λ image. StandsForCommands base cmds image ⊎ StandsForCommands base (cmds ++ doubt) image)
doubt_leaves base cmds doubt moments None after each reads telling later crash = rests moments None after _ refl telling later
doubt_leaves base cmds doubt moments (Some history) after each reads telling later crash =
    leaves_weaker moments (Some history) after (IsImageOrOpensAlike history.now) (λ image. StandsForCommands base cmds image ⊎ StandsForCommands base (cmds ++ doubt) image) (crash history refl)
    (λ image alike. in_doubt_opens base cmds doubt history.now image (each history refl) (reads history refl) alike)

pub leaves_in_doubt : {D : Type 0} (disks : Ghosts D) (disk after : D) → ((history : History) → disks.told disk ≡ Some history → IsImage history.now history.now.octets) → is_some (disks.told after) ≡ is_some (disks.told disk) → disks.time disk ≤ disks.time after → CrashesAs IsImageOrOpensAlike (disks.time disk, disks.time after) (disks.told disk) (disks.told after) → LeavesInDoubt disks disk after
leaves_in_doubt disks disk after reads telling later crash base cmds doubt end in_doubt =
    leaves_weaker (disks.time disk, disks.time after) (disks.told disk) (disks.told after) (λ image. StandsForCommands base cmds image ⊎ StandsForCommands base (cmds ++ doubt) image) (OpensForOne base (cmds ∷ (cmds ++ doubt) ∷ []))
    (doubt_leaves base cmds doubt (disks.time disk, disks.time after) (disks.told disk) (disks.told after) in_doubt.images reads telling later crash)
    (λ image either. opens_for_one base cmds (cmds ++ doubt) image either)

pub stays_in_doubt : {D : Type 0} (disks : Ghosts D) (disk after : D) → ((history : History) → disks.told disk ≡ Some history → IsImage history.now history.now.octets) → is_some (disks.told after) ≡ is_some (disks.told disk) → disks.time disk ≤ disks.time after → CrashesAs IsImageOrOpensAlike (disks.time disk, disks.time after) (disks.told disk) (disks.told after) → disks.failed after ≡ true → StaysInDoubt disks disk after
stays_in_doubt disks disk after reads telling later crash failed base cmds doubt end in_doubt = record {
  plain = in_doubt.plain;
  whole = in_doubt.whole;
  end_is = in_doubt.end_is;
  failed = failed;
  images = λ history is image now.
      (doubt_leaves base cmds doubt (disks.time disk, disks.time after) (disks.told disk) (disks.told after) in_doubt.images reads telling later crash).each image (counts_now (disks.told after) history (disks.time disk) image is now);
}

-- an image of a settled file that opens as a list opens as it
alike_for : (base : ℕ) (cmds : List TicketCmd) (held : Content) (image : List ℕ) → IsSettled held → Opens base (payloads_of cmds) held.octets → IsImageOrOpensAlike held image → OpensFor base cmds image
alike_for base cmds held image clean opens (inl before) =
    let same : image ≡ held.octets = settled_is held.octets image (subst (λ (c : Content). IsImage c image) clean before) in
    (base, subst (λ (l : List ℕ). Opens base (payloads_of cmds) l) (sym same) opens, inl refl)
alike_for base cmds held image clean opens (inr alike) =
    let none : payloads_of cmds ≡ [] = short_is_nil (payloads_of cmds) held.octets alike.0.0 (base, opens) in
    let little : OpensAs [] image = alike.1.1 in
    (little.0, subst (λ (ps : List (List ℕ)). Opens little.0 ps image) (sym none) little.1, inr (none_of cmds none))

pub leaves_begun : {D : Type 0} (disks : Ghosts D) (disk after : D) → CrashesAs IsImageOrOpensAlike (disks.time disk, disks.time after) (disks.told disk) (disks.told after) → LeavesBegun disks disk after
leaves_begun disks disk after crash base cmds history is clean opens =
    leaves_weaker (disks.time disk, disks.time after) (disks.told disk) (disks.told after) (IsImageOrOpensAlike history.now) (OpensForOne base (cmds ∷ [])) (crash history is)
    (λ image alike. inl (alike_for base cmds history.now image clean opens alike))

-- what a beginning leaves, a reading behind it leaves
pub crash_on : (moments : ℕ × ℕ) (end : ℕ) (before mid after : Option History) → after ≡ mid → moments.1 ≤ end → CrashesAs IsImageOrOpensAlike moments before mid → CrashesAs IsImageOrOpensAlike (moments.0, end) before after
crash_on moments end before mid after same later crash history is =
    let first = crash history is in
    subst (λ (t : Option History). LeavesOnly (moments.0, end) before t (IsImageOrOpensAlike history.now)) (sym same) (record { later = omega (arith, first.later, later); each = first.each; before = first.before })
