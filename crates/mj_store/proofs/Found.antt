-- What an opening found, and that nothing in doubt is refused.
use Rattle.std.proofs.Common.{◌≡◌, ◌≢◌, ℕ, ◌+◌, Bool, false, not, nat_eq, List, [], ◌∷◌, ◌++◌, length, Option, Some, None, is_some, refl, sym, ◌∙◌, ap, subst, inl, inr, ⊎_elim, arith}
use Rattle.std.specs.Prelude.{option_and_then}
use Rattle.std.specs.List.{AllByRecursion}
use Rattle.std.proofs.lemmas.List.{append-nil}
use Rattle.std.proofs.lemmas.Bool.{cases_eq, eq-eqb, ne_eqb}
use Rattle.mj_disk.specs.Content.{Content, IsImage}
use Rattle.mj_disk.specs.DiskModel.{History, Now, Turns, IsSettled}
use Rattle.mj_disk.specs.declared.disk.Disk.{Ghosts}
use Rattle.mj_disk.proofs.Moments.{told_before}
use Rattle.mj_tickets.specs.declared.command.TicketCmd.{TicketCmd}
use Rattle.mj_tickets.specs.declared.place.Place.{Place}
use Rattle.mj_tickets.specs.Payload.{IsCommand, payload_of}
use Rattle.mj_tickets.specs.Fold.{Fold, start, applied}
use Rattle.mj_tickets.specs.Index.{indexed, place_in}
use Rattle.mj_journal.specs.declared.fault.OpenFault.{OpenFault}
use Rattle.mj_journal.specs.declared.fault.OpenFault.TheVariants.{NotAStore, Version, Damaged, DiskFault, NoMemory}
use Rattle.mj_journal.specs.FileText.{IsShort, StandsFor, sizes, end_of}
use Rattle.mj_journal.specs.Opening.{IsKeptOrMade, IsBegun, IsNotBegun, IsBeginFault, IsRefused}
use Rattle.mj_journal.specs.Opening as journal
use Rattle.mj_journal.proofs.Standing.{not_refused, not_damaged, read_in_front}
use Rattle.mj_journal.proofs.Unique.{stands_short, opens_once}
use Rattle.mj_store.specs.Commands.{payloads_of, IsWritten, IsBase, IsLawful, placed_from, index_of, StandsForCommands}
use Rattle.mj_store.specs.Standing.{StoreValue, Holds, IsTelling, IsInDoubt}
use Rattle.mj_store.specs.Opening as found
use Rattle.mj_store.specs.Opening.{KeepsOrMakes, HasAll, IsBad, IsDamaged, IsUnread, IsUnopened, IsRefusal, NoneInDoubt, NoneLawful, FindsDoubt, has_moved, found_if}
use Rattle.mj_store.proofs.Beginning.{same_cmds, made_stands, opened_before, kept_or_made}

-- ---- what was found

pub holds_all : {D : Type 0} (disks : Ghosts D) (base : ℕ) (store : StoreValue) (told : Option History) (disk : D) → disks.told disk ≡ told → IsBase base → (all : HasAll base store.end store.index told) → store.spent ≡ false → disks.settled_now disk → ((history : History) → disks.told disk ≡ Some history → disks.settled_now disk → IsSettled history.now) → Holds disks base all.0 store disk
holds_all disks base store told disk same based all unspent clean settled_told = record {
  knows = record { based = based; written = all.1.written; index_is = all.1.index_is; end_is = all.1.gate_is; unspent = unspent };
  settled = clean;
  file = λ history is. (settled_told history is clean, all.2 history (sym same ∙ is));
}

sizes-append : (first second : List TicketCmd) → sizes (payloads_of (first ++ second)) ≡ sizes (payloads_of first) + sizes (payloads_of second)
sizes-append [] second = omega arith
sizes-append (cmd ∷ first) second = let more = sizes-append first second in omega arith

no_more : (doubt : List TicketCmd) → sizes (payloads_of doubt) ≡ 0 → doubt ≡ []
no_more [] none = refl
no_more (cmd ∷ doubt) none = absurd (omega (arith, none))

unmoved : (end at : ℕ) (doubt : List TicketCmd) → at ≡ end → found_if (not (nat_eq at end)) doubt ≡ []
unmoved end at doubt same = ap (λ (b : Bool). found_if (not b) doubt) (eq-eqb at end same)

moved : (end at : ℕ) (doubt : List TicketCmd) → at ≢ end → found_if (not (nat_eq at end)) doubt ≡ doubt
moved end at doubt other = ap (λ (b : Bool). found_if (not b) doubt) (ne_eqb at end other)

found_whole : (end at : ℕ) (cmds doubt : List TicketCmd) → end ≡ end_of (payloads_of cmds) → at ≡ end_of (payloads_of (cmds ++ doubt)) → found_if (not (nat_eq at end)) doubt ≡ doubt
found_whole end at cmds doubt end_is at_is = elim (cases_eq at end) [
  | inl same ↦ let none : doubt ≡ [] = no_more doubt (omega (arith, same, end_is, at_is, sizes-append cmds doubt)) in unmoved end at doubt same ∙ sym none
  | inr other ↦ moved end at doubt other
]

module _ {D : Type 0} (disks : Ghosts D) (disk after : D) (mid : Option History) (base size : ℕ) (store : StoreValue) (same : disks.told after ≡ mid) (begun : journal.Begins 1 base size (disks.told disk) mid) (all : HasAll base store.end store.index mid) (holds : Holds disks base all.0 store after) where
  pub begins_held : found.Begins disks disk store after
  begins_held of cmds history is lawful opens =
      let now = begun history is in
      let opened = opened_before base (payloads_of all.0) history.now.octets now.0.now.octets now.2.same (all.2 now.0 now.1) in
      let once = opens_once base of (payloads_of all.0) (payloads_of cmds) history.now.octets opened opens in
      let list = same_cmds all.0 cmds all.1.written lawful.written once.1 in
      subst (λ (b : ℕ). Holds disks b cmds store after) once.0 (subst (λ (cs : List TicketCmd). Holds disks base cs store after) list holds)

  pub finds_doubt : ((history : History) → disks.told disk ≡ Some history → IsImage history.now history.now.octets) → FindsDoubt disks disk store after
  finds_doubt reads of cmds doubt end telling in_doubt = ⊎_elim
      (λ (plain : StandsForCommands of cmds telling.0.now.octets).
      let held = begins_held of cmds telling.0 telling.1 in_doubt.plain (inl plain) in
      let none : found_if (has_moved end store) doubt ≡ [] = unmoved end store.end doubt (held.knows.end_is ∙ sym in_doubt.end_is) in
      subst (λ (cs : List TicketCmd). Holds disks of cs store after) (sym (append-nil cmds) ∙ ap (λ (cs : List TicketCmd). cmds ++ cs) (sym none)) held)
      (λ (whole : StandsForCommands of (cmds ++ doubt) telling.0.now.octets).
      let held = begins_held of (cmds ++ doubt) telling.0 telling.1 in_doubt.whole (inl whole) in
      subst (λ (cs : List TicketCmd). Holds disks of cs store after) (ap (λ (cs : List TicketCmd). cmds ++ cs) (sym (found_whole end store.end cmds doubt in_doubt.end_is held.knows.end_is))) held)
      (in_doubt.images telling.0 telling.1 telling.0.now.octets (reads telling.0 telling.1))

  pub made_held : Turns KeepsOrMakes (disks.told disk) (disks.told after)
  made_held old is = let now = begun old is in (now.0, same ∙ now.1, kept_or_made base old.now now.0.now now.2.same)

-- ---- refusals

pub begin_unopened : (fault : OpenFault) (before after : Option History) → IsBeginFault fault → Now before (IsNotBegun fault) → IsUnopened fault before after
begin_unopened NotAStore before after kind refused = refused
begin_unopened (Version version) before after kind refused = refused
begin_unopened (Damaged at) before after kind refused = absurd kind
begin_unopened DiskFault before after kind refused = tt
begin_unopened NoMemory before after kind refused = tt

pub read_unopened : (fault : OpenFault) (base : ℕ) (before mid after : Option History) → after ≡ mid → IsUnread base fault mid → IsUnopened fault before after
read_unopened NotAStore base before mid after same unread = absurd unread
read_unopened (Version version) base before mid after same unread = absurd unread
read_unopened (Damaged at) base before mid after same unread = λ history is. (base, unread history (sym same ∙ is))
read_unopened DiskFault base before mid after same unread = tt
read_unopened NoMemory base before mid after same unread = tt

-- what a disk in doubt reads stands for a lawful list
doubt_reads : {D : Type 0} (disks : Ghosts D) (disk : D) (base : ℕ) (cmds doubt : List TicketCmd) (end : ℕ) (history : History) → disks.told disk ≡ Some history → IsImage history.now history.now.octets → IsInDoubt disks base cmds doubt end disk → (list : List TicketCmd) × IsLawful base list × StandsForCommands base list history.now.octets
doubt_reads disks disk base cmds doubt end history is reads in_doubt = ⊎_elim
    (λ (plain : StandsForCommands base cmds history.now.octets). (cmds, in_doubt.plain, plain))
    (λ (whole : StandsForCommands base (cmds ++ doubt) history.now.octets). (cmds ++ doubt, in_doubt.whole, whole))
    (in_doubt.images history is history.now.octets reads)

pub begin_refuses_none : {D : Type 0} (disks : Ghosts D) (disk : D) (fault : OpenFault) → ((history : History) → disks.told disk ≡ Some history → IsImage history.now history.now.octets) → IsBeginFault fault → Now (disks.told disk) (IsNotBegun fault) → IsRefusal fault → IsTelling disks disk → NoneInDoubt disks disk
begin_refuses_none disks disk NotAStore reads kind refused refusal telling base cmds doubt end in_doubt =
    let found = doubt_reads disks disk base cmds doubt end telling.0 telling.1 (reads telling.0 telling.1) in_doubt in
    (not_refused base 0 (payloads_of found.0) telling.0.now.octets found.2).0 (refused telling.0 telling.1)
begin_refuses_none disks disk (Version version) reads kind refused refusal telling base cmds doubt end in_doubt =
    let found = doubt_reads disks disk base cmds doubt end telling.0 telling.1 (reads telling.0 telling.1) in_doubt in
    (not_refused base version (payloads_of found.0) telling.0.now.octets found.2).1 (refused telling.0 telling.1)
begin_refuses_none disks disk (Damaged at) reads kind refused refusal telling base cmds doubt end in_doubt = absurd kind
begin_refuses_none disks disk DiskFault reads kind refused refusal telling base cmds doubt end in_doubt = absurd refusal
begin_refuses_none disks disk NoMemory reads kind refused refusal telling base cmds doubt end in_doubt = absurd refusal

-- a lawful list goes on lawfully behind each front of it
front_on : (gate : ℕ) (cmds more : List TicketCmd) (o : Option (Fold Place)) (g : Fold Place) → option_and_then (indexed (placed_from gate more)) o ≡ Some g → (h : Fold Place) × (o ≡ Some h) × (indexed (placed_from gate more) h ≡ Some g)
front_on gate cmds more None g is = absurd (cc is)
front_on gate cmds more (Some h) g is = (h, refl, is)

goes_on_lawfully : (gate at : ℕ) (front : List TicketCmd) (cmd : TicketCmd) (more : List TicketCmd) (f h g : Fold Place) → at ≡ gate + sizes (payloads_of front) + 5 → indexed (placed_from gate front) f ≡ Some h → indexed (placed_from gate (front ++ cmd ∷ more)) f ≡ Some g → applied cmd (place_in at cmd) h ≢ None
goes_on_lawfully gate at [] cmd more f h g at_is is whole none =
    let same : f ≡ h = cc is in
    let place : gate + 5 ≡ at = omega (arith, at_is) in
    let next = front_on (gate + (length (payload_of cmd) + 5)) [] more (applied cmd (place_in (gate + 5) cmd) f) g whole in
    let moved_on : applied cmd (place_in (gate + 5) cmd) f ≡ applied cmd (place_in at cmd) h = ap (λ (n : ℕ). applied cmd (place_in n cmd) f) place ∙ ap (λ (x : Fold Place). applied cmd (place_in at cmd) x) same in
    let e : Some next.0 ≡ None = sym next.1 ∙ moved_on ∙ none in
    absurd (cc e)
goes_on_lawfully gate at (first ∷ front) cmd more f h g at_is is whole none =
    let gate_on = gate + (length (payload_of first) + 5) in
    let one = front_on (gate + (length (payload_of first) + 5)) [] front (applied first (place_in (gate + 5) first) f) h is in
    let two = front_on (gate + (length (payload_of first) + 5)) [] (front ++ cmd ∷ more) (applied first (place_in (gate + 5) first) f) g whole in
    let same : two.0 ≡ one.0 = cc (one.1, two.1) in
    let rest : indexed (placed_from (gate + (length (payload_of first) + 5)) (front ++ cmd ∷ more)) one.0 ≡ Some g = subst (λ (x : Fold Place). indexed (placed_from (gate + (length (payload_of first) + 5)) (front ++ cmd ∷ more)) x ≡ Some g) same two.2 in
    goes_on_lawfully (gate + (length (payload_of first) + 5)) at front cmd more one.0 h g (omega (arith, at_is)) one.2 rest none

-- a list whose payloads begin so begins with these commands
split_at : (front list : List TicketCmd) (payload : List ℕ) (rest : List (List ℕ)) → AllByRecursion IsWritten front → AllByRecursion IsWritten list → payloads_of list ≡ (payloads_of front ++ payload ∷ []) ++ rest → (cmd : TicketCmd) × (more : List TicketCmd) × (list ≡ front ++ cmd ∷ more) × IsCommand cmd payload
split_at [] [] payload rest all both same = absurd (cc same)
split_at [] (cmd ∷ more) payload rest all both same =
    let first : payload_of cmd ≡ payload = cc same in
    (cmd, more, refl, subst (λ (l : List ℕ). IsCommand cmd l) first both.0)
split_at (first ∷ front) [] payload rest all both same = absurd (cc same)
split_at (first ∷ front) (other ∷ list) payload rest all both same =
    let one : payload_of other ≡ payload_of first = cc same in
    let tail : payloads_of list ≡ (payloads_of front ++ payload ∷ []) ++ rest = cc same in
    let on = split_at front list payload rest all.1 both.1 tail in
    let equal = same_cmds (other ∷ []) (first ∷ []) (both.0, tt) (all.0, tt) (ap (λ (l : List ℕ). l ∷ []) one) in
    let head : other ≡ first = cc equal in
    (on.0, on.1, ap (λ (c : TicketCmd). c ∷ list) head ∙ ap (λ (cs : List TicketCmd). first ∷ cs) on.2, on.3)

undamaged : (base of at : ℕ) (list : List TicketCmd) (held : Content) → IsLawful of list → StandsForCommands of list held.octets → IsDamaged base at held → ⊥
undamaged base of at list held lawful stands damaged =
    let index = damaged.0 in
    let cmds = damaged.1 in
    let reads = damaged.2 in
    let r = damaged.3 in
    ⊎_elim
    (λ torn. not_damaged base of at r.0 (payloads_of cmds) (payloads_of list) held.octets r.1 stands torn)
    (λ (bad : (payload : List ℕ) × (next : ℕ) × (head : List ℕ) × journal.ReadTo base next head (payloads_of cmds ++ payload ∷ []) held.octets × ((cmd : TicketCmd) → IsCommand cmd payload → applied cmd (place_in (at + 5) cmd) index ≡ None)).
    let front = read_in_front base of bad.1 bad.2 (payloads_of cmds ++ bad.0 ∷ []) (payloads_of list) held.octets bad.3 stands in
    let split = split_at cmds list bad.0 front.1.0 reads.written lawful.written front.1.1 in
    let whole : index_of base (cmds ++ split.0 ∷ split.1) ≡ Some lawful.index = subst (λ (b : ℕ). index_of b (cmds ++ split.0 ∷ split.1) ≡ Some lawful.index) (sym front.0) (subst (λ (cs : List TicketCmd). index_of of cs ≡ Some lawful.index) split.2 lawful.index_is) in
    goes_on_lawfully 16 (at + 5) cmds split.0 split.1 (start base) index lawful.index (omega (arith, reads.gate_is)) reads.index_is whole (bad.4 split.0 split.3))
    damaged.4

pub read_refuses_none : {D : Type 0} (disks : Ghosts D) (disk : D) (mid : Option History) (fault : OpenFault) (base size : ℕ) → ((history : History) → disks.told disk ≡ Some history → IsImage history.now history.now.octets) → journal.Begins 1 base size (disks.told disk) mid → IsUnread base fault mid → IsRefusal fault → IsTelling disks disk → NoneInDoubt disks disk
read_refuses_none disks disk mid NotAStore base size reads begun unread refusal telling of cmds doubt end in_doubt = absurd unread
read_refuses_none disks disk mid (Version version) base size reads begun unread refusal telling of cmds doubt end in_doubt = absurd unread
read_refuses_none disks disk mid DiskFault base size reads begun unread refusal telling of cmds doubt end in_doubt = absurd refusal
read_refuses_none disks disk mid NoMemory base size reads begun unread refusal telling of cmds doubt end in_doubt = absurd refusal
read_refuses_none disks disk mid (Damaged at) base size reads begun unread refusal telling of cmds doubt end in_doubt =
    let found = doubt_reads disks disk of cmds doubt end telling.0 telling.1 (reads telling.0 telling.1) in_doubt in
    let now = begun telling.0 telling.1 in
    let octets : now.0.now.octets ≡ telling.0.now.octets = ⊎_elim (λ kept. kept.0) (λ made. absurd (made.0.1 (stands_short of (payloads_of found.0) telling.0.now.octets found.2 made.0.0))) now.2.same in
    undamaged base of at found.0 now.0.now found.1 (subst (λ (l : List ℕ). StandsForCommands of found.0 l) (sym octets) found.2) (unread now.0 now.1)

-- nor is what opens as a lawful list
pub begin_refuses_lawful : (fault : OpenFault) (told : Option History) → IsBeginFault fault → Now told (IsNotBegun fault) → IsRefusal fault → NoneLawful told
begin_refuses_lawful NotAStore told kind refused refusal base cmds list =
    let no = refused list.history list.tells in
    ⊎_elim (λ stands. (not_refused base 0 (payloads_of cmds) list.history.now.octets stands).0 no) (λ short. absurd (omega (arith, short.0.0, no.0))) list.opens
begin_refuses_lawful (Version version) told kind refused refusal base cmds list =
    let no = refused list.history list.tells in
    ⊎_elim (λ stands. (not_refused base version (payloads_of cmds) list.history.now.octets stands).1 no) (λ short. absurd (omega (arith, short.0.0, no.0))) list.opens
begin_refuses_lawful (Damaged at) told kind refused refusal base cmds list = absurd kind
begin_refuses_lawful DiskFault told kind refused refusal base cmds list = absurd refusal
begin_refuses_lawful NoMemory told kind refused refusal base cmds list = absurd refusal

-- a list of no payloads, in the new file in the place of a short one
lawful_nil : (of : ℕ) (cmds : List TicketCmd) (octets : List ℕ) → of ≡ 1 → payloads_of cmds ≡ [] → StandsFor 1 [] octets → StandsForCommands of cmds octets
lawful_nil of cmds octets one none stands = subst (λ (b : ℕ). StandsForCommands b cmds octets) (sym one) (subst (λ (ps : List (List ℕ)). StandsFor 1 ps octets) (sym none) stands)

pub read_refuses_lawful : (told mid : Option History) (fault : OpenFault) (base size : ℕ) → journal.Begins 1 base size told mid → IsUnread base fault mid → IsRefusal fault → NoneLawful told
read_refuses_lawful told mid NotAStore base size begun unread refusal of cmds list = absurd unread
read_refuses_lawful told mid (Version version) base size begun unread refusal of cmds list = absurd unread
read_refuses_lawful told mid DiskFault base size begun unread refusal of cmds list = absurd refusal
read_refuses_lawful told mid NoMemory base size begun unread refusal of cmds list = absurd refusal
read_refuses_lawful told mid (Damaged at) base size begun unread refusal of cmds list =
    let now = begun list.history list.tells in
    let damaged = unread now.0 now.1 in
    ⊎_elim
    (λ (stands : StandsForCommands of cmds list.history.now.octets).
    let octets : now.0.now.octets ≡ list.history.now.octets = ⊎_elim (λ kept. kept.0) (λ made. absurd (made.0.1 (stands_short of (payloads_of cmds) list.history.now.octets stands made.0.0))) now.2.same in
    undamaged base of at cmds now.0.now list.lawful (subst (λ (l : List ℕ). StandsForCommands of cmds l) (sym octets) stands) damaged)
    (λ (short : IsShort list.history.now.octets × (of ≡ 1) × (payloads_of cmds ≡ [])).
    ⊎_elim (λ kept. absurd (kept.1 short.0)) (λ made. undamaged base of at cmds now.0.now list.lawful (lawful_nil of cmds now.0.now.octets short.1 short.2 (made_stands now.0.now.octets made.1)) damaged) now.2.same)
    list.opens

-- ---- the first gate

pub first_read : (base size next : ℕ) (index : Fold Place) (before mid : Option History) → next ≡ 16 → index ≡ start base → is_some mid ≡ is_some before → journal.Begins 1 base size before mid → found.HasRead base next index mid
first_read base size next index before mid next_is index_is telling begun = (
  [],
  record { written = tt; index_is = ap (λ (f : Fold Place). Some f) (sym index_is); gate_is = next_is },
  λ history is.
      let old = told_before before mid history telling is in
      let now = begun old.0 old.1 in
      let same : now.0 ≡ history = cc (now.1, is) in
      (now.2.head, subst (λ (n : ℕ). journal.ReadTo base n now.2.head [] history.now.octets) (sym next_is) (subst (λ (h : History). journal.ReadTo base 16 now.2.head [] h.now.octets) same now.2.reads)),
)
