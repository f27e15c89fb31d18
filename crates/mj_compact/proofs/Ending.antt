-- The whole new file, and what a crash leaves of it.
use Rattle.std.proofs.Common.{◌≡◌, ℕ, ◌+◌, ◌<◌, ◌≤◌, ◌^◌, true, List, [], ◌∷◌, ◌++◌, length, map, Option, Some, None, is_some, option_map, refl, sym, ap, subst, ◌∙◌, inl, ⊎_elim, arith, length-append}
use Rattle.mj_disk.specs.Content.{Content, IsImage, settled}
use Rattle.mj_disk.specs.DiskModel.{History, LeavesOn, LeavesOnly, Now, Turns, latest}
use Rattle.mj_disk.specs.declared.disk.Disk.{Ghosts}
use Rattle.mj_disk.proofs.Images.{settled_is}
use Rattle.mj_disk.proofs.Moments.{leaves_weaker, rests, started}
use Rattle.mj_journal.specs.declared.making.Making.{Making}
use Rattle.mj_journal.specs.FileText.{StandsFor, header_2, sizes, spelled, text, text_blocks}
use Rattle.mj_journal.specs.Making.{BeginsUnfinished, Finishes, FinishesOrNot, IsFinished, IsMade, IsUnfinished, IsUnfinishedOrWhole, KeepsUnlessEmpty}
use Rattle.mj_journal.proofs.Files.{length-base_octets, length-header, length-spelled}
use Rattle.mj_tickets.specs.declared.command.TicketCmd.{TicketCmd}
use Rattle.mj_tickets.specs.declared.place.Place.{Place}
use Rattle.mj_tickets.specs.Fold.{Fold, fold_of, folded_by, start}
use Rattle.mj_tickets.specs.Index.{cmd_of}
use Rattle.mj_tickets.specs.Laws.{body_at, housed, map_fold, place_at}
use Rattle.mj_tickets.proofs.FoldLemmas.{fold_few}
use Rattle.mj_tickets.proofs.MapLemmas.{places_and_bodies}
use Rattle.mj_store.specs.Commands.{IsLawful, index_of, payloads_of, placed_from}
use Rattle.mj_base.specs.Rising.{Rose}
use Rattle.mj_journal.specs.declared.fault.OpenFault.{OpenFault}
use Rattle.mj_journal.specs.declared.fault.OpenFault.TheVariants as open_faults
use Rattle.mj_store.specs.Opening.{Begins, IsUnopened}
use Rattle.mj_store.specs.Standing.{Keeps, StoreValue}
use Rattle.mj_store.proofs.Housing.{some_mapped}
use Rattle.mj_compact.specs.Compacting.{CopiesAll, Compacts, IsOf, IsWhy, LeavesWholeOrNone, OldHas, fault_of}
use Rattle.mj_compact.specs.Kept.{kept}
use Rattle.mj_compact.proofs.Folding.{Body, all_keepable, all_written, leaves_tickets, no_longer}
use Rattle.mj_compact.proofs.Walking.{next_alike, placed_cmds}
use Rattle.mj_compact.proofs.TicketCopies.{of_alike}
use Rattle.mj_compact.proofs.Looping.{of_numbered}

-- ---- the old file, once it is open

pub old_is : {D : Type 0} (disks : Ghosts D) (old mid : D) (store : StoreValue) (f : Fold Body) → Begins disks old store mid → is_some (disks.told mid) ≡ is_some (disks.told old) → OldHas disks old f → IsOf disks store mid f
old_is disks old mid store f begins telling has =
    let history = has.0 in
    let one = has.2.2 in
    record {
      telling = told (disks.told mid) (telling ∙ ap is_some has.1);
      base = has.2.0;
      cmds = has.2.1;
      holds = begins has.2.0 has.2.1 history has.1 one.lawful one.opens;
      leaves = one.leaves;
    }
  where
    told : (o : Option History) → is_some o ≡ true → (history : History) × (o ≡ Some history)
    told None e = cc
    told (Some history) e = (history, refl)

pub next_is : {D : Type 0} (disks : Ghosts D) (store : StoreValue) (disk : D) (f : Fold Body) → IsOf disks store disk f → store.index.next ≡ f.next
next_is disks store disk f of = next_alike f store.index (of_alike disks store disk f of)

-- why it isn't opened
pub why_unopened : {D E : Type 0} (olds : Ghosts D) (news : Ghosts E) (old mid : D) (new : E) (fault : OpenFault) → IsUnopened fault (olds.told old) (olds.told mid) → (fault ≡ open_faults.DiskFault → Rose (olds.faults old) (olds.faults mid))
    → IsWhy olds news old mid new new (fault_of fault)
why_unopened olds news old mid new open_faults.NotAStore un cause = (refl, tt, un)
why_unopened olds news old mid new (open_faults.Version version) un cause = (refl, tt, un)
why_unopened olds news old mid new (open_faults.Damaged at) un cause = (refl, tt, un)
why_unopened olds news old mid new open_faults.DiskFault un cause = inl (cause refl)
why_unopened olds news old mid new open_faults.NoMemory un cause = tt

-- ---- the kept commands are a lawful list

index_is : (base : ℕ) (cmds : List TicketCmd) (g : Fold Body) → fold_of base cmds ≡ Some g → (index : Fold Place) × (index_of base cmds ≡ Some index)
index_is base cmds g e =
    let law = places_and_bodies base (placed_from 16 cmds) in
    let found = some_mapped (map_fold body_at) (folded_by cmd_of housed (placed_from 16 cmds) (start base)) g (law.1 ∙ ap (fold_of base) (placed_cmds 16 cmds) ∙ e) in
    (map_fold place_at found.0, sym law.0 ∙ ap (option_map (map_fold place_at)) found.1)

kept_lawful : {D : Type 0} (disks : Ghosts D) (store : StoreValue) (disk : D) (f : Fold Body) → IsOf disks store disk f → f.next ≤ 2 ^ 61 → IsLawful f.next (kept f)
kept_lawful disks store disk f of few =
    let numbers = of_numbered disks store disk f of in
    let left = leaves_tickets f numbers in
    let index = index_is f.next (kept f) left.0 left.1 in
    let from = fold_few of.base of.cmds f of.leaves in
    record {
      based = (omega (arith, of.holds.knows.based.0, from.0), few);
      written = all_written f.tickets (all_keepable of.base of.cmds f of.holds.knows.written of.leaves);
      index = index.0;
      index_is = index.1;
    }

-- ---- lengths

length-text : (base : ℕ) (payloads : List (List ℕ)) → length (text (header_2 base) payloads) ≡ 17 + sizes payloads
length-text base payloads =
    let a = length-append (header_2 base ++ spelled (text_blocks payloads)) (0 ∷ []) in
    let b = length-append (header_2 base) (spelled (text_blocks payloads)) in
    let c = length-base_octets base in
    let d = length-spelled (text_blocks payloads) ∙ ap sizes (blocks payloads) in
    omega (arith, a, b, c, d)
  where
    blocks : (ps : List (List ℕ)) → map (λ block. block.payload) (text_blocks ps) ≡ ps
    blocks [] = refl
    blocks (p ∷ ps) = ap (λ (qs : List (List ℕ)). p ∷ qs) (blocks ps)

length-stands : (base : ℕ) (payloads : List (List ℕ)) (octets : List ℕ) → StandsFor base payloads octets → 17 + sizes payloads ≤ length octets
length-stands base payloads octets (head, is, stands) =
    let a = length-append (head ++ spelled stands.blocks) (0 ∷ stands.rest) in
    let b = length-append head (spelled stands.blocks) in
    let c = length-header base head is in
    let d = length-spelled stands.blocks ∙ ap sizes stands.holds in
    let e = ap length stands.spells in
    omega (arith, a, b, c, d, e)

-- ---- all is done

pub compacted : {D E : Type 0} (olds : Ghosts D) (news : Ghosts E) (old mid after : D) (store store_now : StoreValue) (making now : Making) (begun full whole : E) (count : ℕ) → Begins olds old store mid → is_some (olds.told mid) ≡ is_some (olds.told old)
    → store.index.next ≤ 2 ^ 61 → making.base ≡ store.index.next → making.journal.end ≡ 16 → Now (news.told begun) (IsMade making.base making.journal.end [])
    → CopiesAll olds news store mid making begun now full count → Keeps olds store mid store_now after → now.base ≡ making.base → Finishes now.base now.journal.end (news.told full) (news.told whole)
    → Compacts olds news old after whole count
compacted olds news old mid after store store_now making now begun full whole count begins telling few based placed empty copies keeps base finishes f has =
    let of = old_is olds old mid store f begins telling has in
    let all = copies f of in
    let next : now.base ≡ f.next = base ∙ based ∙ next_is olds store mid f of in
    let made = all.1 [] empty in
    let finished = finishes (payloads_of (kept f)) made in
    let lawful = kept_lawful olds store mid f of (subst (λ (n : ℕ). n ≤ 2 ^ 61) (next_is olds store mid f of) few) in (
      all.0,
      λ held is history told.
          let done = subst (λ (n : ℕ). IsFinished n (payloads_of (kept f)) history.now) next (finished history told) in
          let stands = ((keeps of.base of.cmds of.holds).file held is).1 in
          let a = length-text f.next (payloads_of (kept f)) in
          let b = length-stands of.base (payloads_of of.cmds) held.now.octets stands in
          let c = no_longer of.base of.cmds f of.leaves in
          let d = ap length done.1.0 in
          record { finished = done; lawful = lawful; leaves = leaves_tickets f (of_numbered olds store mid f of); shorter = omega (arith, a, b, c, d) },
    )

-- ---- what a crash leaves

empty_little : (history : History) → history.now ≡ settled [] → (image : List ℕ) → IsImage history.now image → IsUnfinished image
empty_little history is image here =
    let nil : image ≡ [] = settled_is [] image (subst (λ (h : Content). IsImage h image) is here) in
    inl (let e = ap length nil in omega (arith, e))

pub nothing_yet : {D E : Type 0} (olds : Ghosts D) (news : Ghosts E) (old : D) (new : E) → ((history : History) → news.told new ≡ Some history → latest history.past ≤ news.time new) → LeavesWholeOrNone olds news old new new
nothing_yet olds news old new in_time f has empty = by (news.told new) refl
  where
    by : (o : Option History) → news.told new ≡ o → LeavesOnly (news.time new, news.time new) (news.told new) (news.told new) (IsUnfinishedOrWhole f.next (payloads_of (kept f)))
    by None none = rests (news.time new, news.time new) (news.told new) (news.told new) (IsUnfinishedOrWhole f.next (payloads_of (kept f))) none refl (omega arith)
    by (Some history) is = started (news.told new) history (news.time new) (IsUnfinishedOrWhole f.next (payloads_of (kept f))) is (in_time history is) (λ image here. inl (empty_little history (empty history is) image here))

pub not_whole : {D E : Type 0} (olds : Ghosts D) (news : Ghosts E) (old : D) (new after : E) → BeginsUnfinished (news.time new, news.time after) (news.told new) (news.told after) → LeavesWholeOrNone olds news old new after
not_whole olds news old new after unfinished f has empty =
    leaves_weaker (news.time new, news.time after) (news.told new) (news.told after) IsUnfinished (IsUnfinishedOrWhole f.next (payloads_of (kept f))) (unfinished empty) (λ image u. inl u)

pub going_on : {E : Type 0} (news : Ghosts E) (new mid after : E) → BeginsUnfinished (news.time new, news.time mid) (news.told new) (news.told mid) → LeavesOn IsUnfinished (news.time mid, news.time after) (news.told mid) (news.told after)
    → BeginsUnfinished (news.time new, news.time after) (news.told new) (news.told after)
going_on news new mid after begun on empty = on (news.time new) (news.told new) (begun empty)

pub whole_or_none : {D E : Type 0} (olds : Ghosts D) (news : Ghosts E) (old mid : D) (store : StoreValue) (making now : Making) (new begun full whole : E) (count : ℕ) → Begins olds old store mid → is_some (olds.told mid) ≡ is_some (olds.told old)
    → making.base ≡ store.index.next → making.journal.end ≡ 16 → Now (news.told begun) (IsMade making.base making.journal.end [])
    → CopiesAll olds news store mid making begun now full count → now.base ≡ making.base → BeginsUnfinished (news.time new, news.time full) (news.told new) (news.told full)
    → FinishesOrNot now.base now.journal.end (news.time full, news.time whole) (news.told full) (news.told whole)
    → LeavesWholeOrNone olds news old new whole
whole_or_none olds news old mid store making now new begun full whole count begins telling based placed made copies base unfinished finishes f has empty =
    let of = old_is olds old mid store f begins telling has in
    let next : now.base ≡ f.next = base ∙ based ∙ next_is olds store mid f of in
    let all = (copies f of).1 [] made in
    subst (λ (n : ℕ). LeavesOnly (news.time new, news.time whole) (news.told new) (news.told whole) (IsUnfinishedOrWhole n (payloads_of (kept f)))) next
    (finishes (payloads_of (kept f)) (news.time new) (news.told new) all (unfinished empty))

-- ---- a new disk that isn't empty

pub not_there : {E : Type 0} (news : Ghosts E) (new after : E) → Now (news.told new) (λ held. held.octets ≡ []) → Now (news.told new) (λ held. 0 < length held.octets)
    → Turns (λ before now. now.octets ≡ before.octets) (news.told new) (news.told after)
not_there news new after empty full history is = absurd (let e = ap length (empty history is) in omega (arith, e, full history is))

pub not_written : {E : Type 0} (news : Ghosts E) (new after : E) → Turns KeepsUnlessEmpty (news.told new) (news.told after) → Now (news.told new) (λ held. 0 < length held.octets)
    → Turns (λ before now. now.octets ≡ before.octets) (news.told new) (news.told after)
not_written news new after kept full history is =
    let k = kept history is in
    (k.0, k.1, ⊎_elim (λ same. same) (λ nil. absurd (let e = ap length nil.0 in omega (arith, e, full history is))) k.2)

pub numbers_above : {D : Type 0} (disks : Ghosts D) (old mid : D) (store : StoreValue) (n : ℕ) → Begins disks old store mid → is_some (disks.told mid) ≡ is_some (disks.told old) → n ≡ store.index.next → 2 ^ 61 < n
    → (f : Fold Body) → OldHas disks old f → 2 ^ 61 < f.next
numbers_above disks old mid store n begins telling is above f has =
    subst (λ (m : ℕ). 2 ^ 61 < m) (is ∙ next_is disks store mid f (old_is disks old mid store f begins telling has)) above
