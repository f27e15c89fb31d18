-- What an opening finds is the list as which the bytes opened.
use Rattle.std.proofs.Common.{◌≡◌, ℕ, false, List, [], ◌∷◌, ◌++◌, length, Option, Some, is_some, refl, sym, ◌∙◌, ap, subst, inl, inr, append-nil, arith}
use Rattle.mj_disk.specs.DiskModel.{History, IsSettled, Now}
use Rattle.mj_disk.specs.declared.disk.Disk.{Ghosts}
use Rattle.mj_disk.proofs.Moments.{told_before}
use Rattle.mj_journal.specs.FileText.{OpensAs, Stands, StandsFor, header_2}
use Rattle.mj_journal.specs.Opening.{Begins, IsBeginFault, IsKeptOrMade, IsNotBegun, ReadTo}
use Rattle.mj_journal.specs.declared.fault.OpenFault.{OpenFault}
use Rattle.mj_journal.specs.declared.fault.OpenFault.TheVariants.{NotAStore, Version, Damaged, DiskFault, NoMemory}
use Rattle.mj_journal.proofs.Beginning.{short_is_nil}
use Rattle.mj_journal.proofs.Files.{length-base_octets, length-header}
use Rattle.mj_journal.proofs.Unique.{opens_once, stands_once}
use Rattle.mj_submit.specs.Notes.{none_yet}
use Rattle.mj_submit.specs.declared.progress.Progress.{Progress}
use Rattle.mj_submit_file.specs.Files.{HasAll, HasRead, IsUnopened, IsUnread, OpensFile}
use Rattle.mj_submit_file.specs.declared.file.SubmitFile.{SubmitFile}

pub first-read : (base size next asked : ℕ) (p : Progress) (before mid : Option History) → next ≡ 16 → p ≡ none_yet → is_some mid ≡ is_some before → Begins asked base size before mid → HasRead base next p mid
first-read base size next asked p before mid next_is p_is telling begun = (
  [],
  record { lawful = ap (λ (q : Progress). Some q) (sym p_is); gate_is = next_is },
  λ history is.
      let old = told_before before mid history telling is in
      let now = begun old.0 old.1 in
      let same : now.0 ≡ history = cc (now.1, is) in
      (now.2.head, subst (λ (n : ℕ). ReadTo base n now.2.head [] history.now.octets) (sym next_is) (subst (λ (h : History). ReadTo base 16 now.2.head [] h.now.octets) same now.2.reads)),
)

length-header_2 : (base : ℕ) → length (header_2 base) ≡ 16
length-header_2 base = omega (arith, length-base_octets base)

new-stands : (head : List ℕ) → Stands head [] (head ++ 0 ∷ [])
new-stands head = record { blocks = []; rest = []; all_open = tt; holds = refl; spells = ap (λ (l : List ℕ). l ++ 0 ∷ []) (sym (append-nil head)) }

pub found : (asked base : ℕ) (payloads others : List (List ℕ)) (old new : List ℕ) → IsKeptOrMade asked base old new → StandsFor base payloads new → OpensAs others old → payloads ≡ others
found asked base payloads others old new (inl kept) stands opens =
    (opens_once base opens.0 payloads others old (inl (subst (λ (l : List ℕ). StandsFor base payloads l) kept.0 stands)) opens.1).1
found asked base payloads others old new (inr made) stands opens =
    let fresh : Stands (header_2 asked) [] new = subst (λ (l : List ℕ). Stands (header_2 asked) [] l) (sym made.1) (new-stands (header_2 asked)) in
    let once = stands_once stands.0 (header_2 asked) payloads [] new (length-header base stands.0 stands.1) (length-header_2 asked) stands.2 fresh in
    once.1 ∙ sym (short_is_nil others old made.0.0 opens)

pub opens-file : {D : Type 0} (disks : Ghosts D) (disk after : D) (mid : Option History) (asked base size : ℕ) (file : SubmitFile) → disks.told after ≡ mid → Begins asked base size (disks.told disk) mid → HasAll base file.journal.end file.progress mid → file.journal.spent ≡ false
    → disks.settled_now after → ((history : History) → disks.told after ≡ Some history → disks.settled_now after → IsSettled history.now) → OpensFile disks disk file after
opens-file disks disk after mid asked base size file same begun all unspent settled settled_told = (
  all.0,
  record {
    knows = record { lawful = all.1.lawful; end_is = all.1.gate_is; unspent = unspent };
    settled = settled;
    stands = λ history is. (settled_told history is settled, (base, all.2 history (sym same ∙ is)));
  },
  λ history others is opens.
      let now = begun history is in
      found asked base all.0 others history.now.octets now.0.now.octets now.2.same (all.2 now.0 now.1) opens,
)

pub begin-unopened : (fault : OpenFault) (before after : Option History) → IsBeginFault fault → Now before (IsNotBegun fault) → IsUnopened fault before after
begin-unopened NotAStore before after kind not_begun = not_begun
begin-unopened (Version version) before after kind not_begun = not_begun
begin-unopened (Damaged at) before after kind not_begun = absurd kind
begin-unopened DiskFault before after kind not_begun = tt
begin-unopened NoMemory before after kind not_begun = absurd kind

pub read-unopened : (fault : OpenFault) (base : ℕ) (before mid after : Option History) → after ≡ mid → IsUnread base fault mid → IsUnopened fault before after
read-unopened NotAStore base before mid after same unread = absurd unread
read-unopened (Version version) base before mid after same unread = absurd unread
read-unopened (Damaged at) base before mid after same unread = λ history is. (base, unread history (sym same ∙ is))
read-unopened DiskFault base before mid after same unread = tt
read-unopened NoMemory base before mid after same unread = tt
