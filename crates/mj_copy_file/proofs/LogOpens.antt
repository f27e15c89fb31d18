-- What an opening finds is the list as which the bytes opened.
use Rattle.std.proofs.Common.{◌≡◌, ℕ, false, List, [], ◌∷◌, ◌++◌, length, Option, Some, is_some, refl, sym, ◌∙◌, ap, subst, inl, inr, append-nil, arith}
use Rattle.mj_disk.specs.DiskModel.{History, IsSettled}
use Rattle.mj_disk.specs.declared.disk.Disk.{Ghosts}
use Rattle.mj_disk.proofs.Moments.{told_before}
use Rattle.mj_journal.specs.FileText.{Opens, Stands, StandsFor, header_2}
use Rattle.mj_journal.specs.HandedOut.{IsBaseOf}
use Rattle.mj_journal.specs.Opening.{Begins, IsKeptOrMade, ReadTo}
use Rattle.mj_journal.proofs.Beginning.{short_is_nil}
use Rattle.mj_journal.proofs.Files.{length-base_octets, length-header}
use Rattle.mj_journal.proofs.Unique.{opens_once, stands_once}
use Rattle.mj_store.specs.Commands.{IsBase, payloads_of}
use Rattle.mj_tickets.specs.Fold.{Fold, start}
use Rattle.mj_tickets.specs.declared.place.Place.{Place}
use Rattle.mj_copy_file.specs.Logs.{OpensLog}
use Rattle.mj_copy_file.specs.LogReading.{HasAll, HasRead}
use Rattle.mj_copy_file.specs.declared.log.Log.{Log}
use Rattle.mj_copy_file.specs.declared.spot.Spot.{Spot}

pub first_read : (base size next asked : ℕ) (index : Fold Place) (spots : List Spot) (before mid : Option History) → next ≡ 16 → index ≡ start base → spots ≡ [] → is_some mid ≡ is_some before → Begins asked base size before mid → HasRead base next index spots mid
first_read base size next asked index spots before mid next_is index_is spots_is telling begun = (
  [],
  record { written = tt; index_is = ap (λ (f : Fold Place). Some f) (sym index_is); gate_is = next_is },
  spots_is,
  λ history is.
      let old = told_before before mid history telling is in
      let now = begun old.0 old.1 in
      let same : now.0 ≡ history = cc (now.1, is) in
      (now.2.head, subst (λ (n : ℕ). ReadTo base n now.2.head [] history.now.octets) (sym next_is) (subst (λ (h : History). ReadTo base 16 now.2.head [] h.now.octets) same now.2.reads)),
)

length-header_2 : (base : ℕ) → length (header_2 base) ≡ 16
length-header_2 base = omega (arith, length-base_octets base)

new_stands : (head : List ℕ) → Stands head [] (head ++ 0 ∷ [])
new_stands head = record { blocks = []; rest = []; all_open = tt; holds = refl; spells = ap (λ (l : List ℕ). l ++ 0 ∷ []) (sym (append-nil head)) }

found : (asked base of : ℕ) (payloads others : List (List ℕ)) (old new : List ℕ) → IsKeptOrMade asked base old new → StandsFor base payloads new → Opens of others old → (payloads ≡ others) × IsBaseOf asked base of old
found asked base of payloads others old new (inl kept) stands opens =
    let once = opens_once base of payloads others old (inl (subst (λ (l : List ℕ). StandsFor base payloads l) kept.0 stands)) opens in
    (once.1, inl once.0)
found asked base of payloads others old new (inr made) stands opens =
    let fresh : Stands (header_2 asked) [] new = subst (λ (l : List ℕ). Stands (header_2 asked) [] l) (sym made.1) (new_stands (header_2 asked)) in
    let once = stands_once stands.0 (header_2 asked) payloads [] new (length-header base stands.0 stands.1) (length-header_2 asked) stands.2 fresh in
    let none : others ≡ [] = short_is_nil others old made.0.0 (of, opens) in
    (once.1 ∙ sym none, inr (made.0, made.2))

pub opens_log : {D : Type 0} (disks : Ghosts D) (disk after : D) (mid : Option History) (asked size : ℕ) (log : Log) → disks.told after ≡ mid → Begins asked log.base size (disks.told disk) mid → IsBase log.base → HasAll log.base log.journal.end log.tickets.index log.spots.items mid → log.journal.spent ≡ false
    → disks.settled_now after → ((history : History) → disks.told after ≡ Some history → disks.settled_now after → IsSettled history.now) → OpensLog disks asked disk log after
opens_log disks disk after mid asked size log same begun based all unspent settled settled_told = (
  payloads_of all.0,
  record {
    knows = record {
      cmds = all.0;
      based = based;
      written = all.1.written;
      spells = refl;
      index_is = all.1.index_is;
      end_is = all.1.gate_is;
      spots_are = all.2;
      unspent = unspent;
    };
    settled = settled;
    file = λ history is. (settled_told history is settled, all.3 history (sym same ∙ is));
  },
  λ history of others is opens.
      let now = begun history is in
      found asked log.base of (payloads_of all.0) others history.now.octets now.0.now.octets now.2.same (all.3 now.0 now.1) opens,
)
