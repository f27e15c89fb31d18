-- What is known of a file that stands for a list: it isn't refused, what was read of it is its front, and each payload
-- stands at its place.
use Rattle.std.proofs.Common.{◌≡◌, ◌≢◌, ℕ, ◌+◌, ◌<◌, ◌≤◌, List, [], ◌∷◌, ◌++◌, length, map, take, drop, refl, sym, ◌∙◌, ap, subst, arith, append_assoc, length-append}
use Rattle.std.proofs.lemmas.List.{take_at, drop_at}
use Rattle.mj_disk.specs.Content.{Content}
use Rattle.mj_journal.specs.declared.fault.OpenFault.TheVariants.{NotAStore, Version}
use Rattle.mj_journal.specs.FileText.{IsHeader, length_octets, Block, spelled, payload_of, Stands, StandsFor, sizes, end_of}
use Rattle.mj_journal.specs.Opening.{ReadTo, IsDamagedAt, IsRefused}
use Rattle.mj_journal.specs.Appending.{EndsAt}
use Rattle.mj_journal.proofs.Files.{length-header, length-front, length-length_octets, end_of-push}
use Rattle.mj_journal.proofs.Fronts.{Behind, stand_in_front, whole_behind}
use Rattle.mj_journal.proofs.Headers.{version_no_header}
use Rattle.mj_journal.proofs.Reading.{mark_is, behind_is}
use Rattle.mj_journal.proofs.Unique.{base_once}

module _ (base of gate : ℕ) (head : List ℕ) (sofar all : List (List ℕ)) (octets : List ℕ) (r : ReadTo base gate head sofar octets) (s : StandsFor of all octets) where
  long : length head ≡ 16
  long = length-header base head r.is_header

  read_is : octets ≡ head ++ (spelled r.blocks ++ r.mark ∷ r.rest)
  read_is = r.spells ∙ append_assoc head (spelled r.blocks) (r.mark ∷ r.rest)

  whole_is : octets ≡ s.0 ++ (spelled s.2.blocks ++ 0 ∷ s.2.rest)
  whole_is = s.2.spells ∙ append_assoc s.0 (spelled s.2.blocks) (0 ∷ s.2.rest)

  same_head : head ≡ s.0
  same_head =
      sym (take_at head (spelled r.blocks ++ r.mark ∷ r.rest) 16 long)
      ∙ ap (λ (l : List ℕ). take 16 l) (sym read_is ∙ whole_is)
      ∙ take_at s.0 (spelled s.2.blocks ++ 0 ∷ s.2.rest) 16 (length-header of s.0 s.1)

  same_tail : spelled r.blocks ++ r.mark ∷ r.rest ≡ spelled s.2.blocks ++ 0 ∷ s.2.rest
  same_tail =
      sym (drop_at head (spelled r.blocks ++ r.mark ∷ r.rest) 16 long)
      ∙ ap (λ (l : List ℕ). drop 16 l) (sym read_is ∙ whole_is)
      ∙ drop_at s.0 (spelled s.2.blocks ++ 0 ∷ s.2.rest) 16 (length-header of s.0 s.1)

  front : Behind r.blocks s.2.blocks r.mark r.rest s.2.rest
  front = stand_in_front r.blocks s.2.blocks r.mark r.rest s.2.rest r.all_open s.2.all_open same_tail

  pub read_in_front : (base ≡ of) × ((rest : List (List ℕ)) × (all ≡ sofar ++ rest))
  read_in_front = (
    base_once base of s.0 (subst (λ (l : List ℕ). IsHeader base l) same_head r.is_header) s.1,
    (map payload_of front.behind, sym s.2.holds ∙ front.splits ∙ ap (λ (ps : List (List ℕ)). ps ++ map payload_of front.behind) r.holds),
  )

  pub not_damaged : ¬ IsDamagedAt gate octets
  not_damaged damaged =
      let nonzero : r.mark ≢ 0 = λ (closed : r.mark ≡ 0). damaged.0 (mark_is base gate head sofar octets r ∙ closed) in
      let whole = whole_behind front.behind r.mark r.rest s.2.rest front.all_open nonzero front.spells in
      damaged.1 (record { payload = whole.0; mark = whole.1; rest = whole.2; is_payload = whole.3; spells = behind_is base gate head sofar octets r ∙ whole.4 })

pub not_refused : (base version : ℕ) (payloads : List (List ℕ)) (octets : List ℕ) → StandsFor base payloads octets → (¬ IsRefused NotAStore octets) × ¬ IsRefused (Version version) octets
not_refused base version payloads octets s =
    let spells = s.2.spells ∙ append_assoc s.0 (spelled s.2.blocks) (0 ∷ s.2.rest) in
    let start : take 16 octets ≡ s.0 = ap (λ (l : List ℕ). take 16 l) spells ∙ take_at s.0 (spelled s.2.blocks ++ 0 ∷ s.2.rest) 16 (length-header base s.0 s.1) in
    let header : IsHeader base (take 16 octets) = subst (λ (l : List ℕ). IsHeader base l) (sym start) s.1 in
    (λ refused. refused.1.0 (base, header), λ refused. version_no_header version (take 16 octets) refused.1 (base, header))

pub ends_add_up : (payloads : List (List ℕ)) (payload : List ℕ) → end_of (payloads ++ payload ∷ []) ≡ end_of payloads + (length payload + 5)
ends_add_up payloads payload = sym (end_of-push payloads payload (end_of payloads) refl)

pub ends_inside : (end : ℕ) (held : Content) → EndsAt end held → end < length held.octets
ends_inside end held ends =
    let stands = ends.3 in
    let place = length-front ends.0 stands.blocks ends.1 end ends.2 stands.holds ends.4 in
    omega (arith, ap (λ (l : List ℕ). length l) stands.spells, length-append (ends.0 ++ spelled stands.blocks) (0 ∷ stands.rest))

-- ---- the place of each payload

-- the blocks of some payloads, and those of the payload behind them and of the rest
record Cut (blocks : List Block) (before : List (List ℕ)) (payload : List ℕ) : Type 0 where
  front : List Block
  here : Block
  behind : List Block
  is : blocks ≡ front ++ here ∷ behind
  holds : map payload_of front ≡ before
  payload_is : here.payload ≡ payload

cut : (blocks : List Block) (before : List (List ℕ)) (payload : List ℕ) (behind : List (List ℕ)) → map payload_of blocks ≡ before ++ payload ∷ behind → Cut blocks before payload
cut [] [] payload behind is = absurd (cc is)
cut [] (first ∷ before) payload behind is = absurd (cc is)
cut (block ∷ blocks) [] payload behind is =
    record { front = []; here = block; behind = blocks; is = refl; holds = refl; payload_is = cc is }
cut (block ∷ blocks) (first ∷ before) payload behind is =
    let same : block.payload ≡ first = cc is in
    let rest : map payload_of blocks ≡ before ++ payload ∷ behind = cc is in
    let more = cut blocks before payload behind rest in
    record {
      front = block ∷ more.front;
      here = more.here;
      behind = more.behind;
      is = ap (λ (bs : List Block). block ∷ bs) more.is;
      holds = ap (λ (p : List ℕ). p ∷ map payload_of more.front) same ∙ ap (λ (ps : List (List ℕ)). first ∷ ps) more.holds;
      payload_is = more.payload_is;
    }

spelled-append : (blocks others : List Block) → spelled (blocks ++ others) ≡ spelled blocks ++ spelled others
spelled-append [] others = refl
spelled-append (block ∷ blocks) others =
    ap (λ (l : List ℕ). block.gate ∷ (length_octets (length block.payload) ++ block.payload ++ l)) (spelled-append blocks others)
    ∙ ap (λ (l : List ℕ). block.gate ∷ l) (sym (append_assoc (length_octets (length block.payload) ++ block.payload) (spelled blocks) (spelled others)))

sizes-rest : (before : List (List ℕ)) (payload : List ℕ) (behind : List (List ℕ)) → sizes before + (length payload + 5) ≤ sizes (before ++ payload ∷ behind)
sizes-rest [] payload behind = omega arith
sizes-rest (first ∷ before) payload behind = let more = sizes-rest before payload behind in omega arith

pub in_place : (head : List ℕ) (before : List (List ℕ)) (payload : List ℕ) (behind : List (List ℕ)) (octets : List ℕ) → length head ≡ 16 → Stands head (before ++ payload ∷ behind) octets → (take (length payload) (drop (end_of before + 5) octets) ≡ payload) × (end_of before + 5 + length payload ≤ end_of (before ++ payload ∷ behind))
in_place head before payload behind octets long s =
    let k = cut s.blocks before payload behind s.holds in
    let X = 0 ∷ s.rest in
    let lo = length_octets (length k.here.payload) in
    let p = k.here.payload in
    let T = spelled k.behind ++ X in
    let hs = head ++ spelled k.front in
    let place : end_of before ≡ length hs = length-front head k.front before (end_of before) long k.holds refl in
    let seam : length (hs ++ k.here.gate ∷ lo) ≡ end_of before + 5 = omega (arith, length-append hs (k.here.gate ∷ lo), length-length_octets (length p)) in
    let whole : octets ≡ (hs ++ k.here.gate ∷ lo) ++ (p ++ T) =
    s.spells
    ∙ append_assoc head (spelled s.blocks) X
    ∙ ap (λ (bs : List Block). head ++ (spelled bs ++ X)) k.is
    ∙ ap (λ (l : List ℕ). head ++ (l ++ X)) (spelled-append k.front (k.here ∷ k.behind))
    ∙ ap (λ (l : List ℕ). head ++ l) (append_assoc (spelled k.front) (spelled (k.here ∷ k.behind)) X)
    ∙ ap (λ (l : List ℕ). head ++ (spelled k.front ++ k.here.gate ∷ l)) (append_assoc (lo ++ p) (spelled k.behind) X ∙ append_assoc lo p T)
    ∙ sym (append_assoc head (spelled k.front) (k.here.gate ∷ (lo ++ (p ++ T))))
    ∙ sym (append_assoc hs (k.here.gate ∷ lo) (p ++ T)) in (
      ap (λ (l : List ℕ). take (length payload) (drop (end_of before + 5) l)) whole
          ∙ ap (λ (l : List ℕ). take (length payload) l) (drop_at (hs ++ k.here.gate ∷ lo) (p ++ T) (end_of before + 5) seam)
          ∙ take_at p T (length payload) (ap (λ (l : List ℕ). length l) k.payload_is)
          ∙ k.payload_is,
      omega (arith, sizes-rest before payload behind),
    )
