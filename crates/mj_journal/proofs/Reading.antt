-- Reading on from a gate: one payload more, the end, or a record that isn't whole.
use Rattle.std.proofs.Common.{◌≡◌, ◌≢◌, ℕ, ◌+◌, ◌-◌, ◌<◌, ◌≤◌, ◌^◌, List, [], ◌∷◌, ◌++◌, length, take, drop, get_or, sym, ◌∙◌, ap, arith, append_assoc, length-append, length-drop, take-append-drop}
use Rattle.std.proofs.lemmas.List.{take_at, drop_at, drop_more, drop-drop, get_or_at, map_push, length-take-le}
use Rattle.mj_disk.specs.Content.{Content}
use Rattle.mj_journal.specs.FileText.{length_octets, Block, spelled, payload_of, Stands}
use Rattle.mj_journal.specs.Opening.{ReadTo, ReadsAll, IsWhole, IsLength}
use Rattle.mj_journal.specs.Appending.{EndsAt}
use Rattle.mj_journal.proofs.Files.{length-header, length-front, length-length_octets, end_of-push, AllOpen-push, grown}
use Rattle.mj_journal.proofs.Headers.{length_octets_same}

module _ (base gate : ℕ) (head : List ℕ) (payloads : List (List ℕ)) (octets : List ℕ) (r : ReadTo base gate head payloads octets) where
  at_gate : gate ≡ length (head ++ spelled r.blocks)
  at_gate = length-front head r.blocks payloads gate (length-header base head r.is_header) r.holds r.place

  pub mark_is : get_or octets gate 0 ≡ r.mark
  mark_is = ap (λ (l : List ℕ). get_or l gate 0) r.spells ∙ get_or_at (head ++ spelled r.blocks) r.mark r.rest 0 gate (sym at_gate)

  pub behind_is : drop (gate + 1) octets ≡ r.rest
  behind_is =
      let seam : length ((head ++ spelled r.blocks) ++ r.mark ∷ []) ≡ gate + 1 = omega (arith, at_gate, length-append (head ++ spelled r.blocks) (r.mark ∷ [])) in
      ap (λ (l : List ℕ). drop (gate + 1) l) (r.spells ∙ sym (append_assoc (head ++ spelled r.blocks) (r.mark ∷ []) r.rest))
      ∙ drop_at ((head ++ spelled r.blocks) ++ r.mark ∷ []) r.rest (gate + 1) seam

  sized : length octets ≡ gate + 1 + length r.rest
  sized = ap (λ (l : List ℕ). length l) r.spells ∙ omega (arith, at_gate, length-append (head ++ spelled r.blocks) (r.mark ∷ r.rest))

  -- a closed gate ends the file
  pub reads_all : get_or octets gate 0 ≡ 0 → Stands head payloads octets
  reads_all closed =
      let shut : r.mark ≡ 0 = sym mark_is ∙ closed in
      record {
        blocks = r.blocks;
        rest = r.rest;
        all_open = r.all_open;
        holds = r.holds;
        spells = r.spells ∙ ap (λ (m : ℕ). head ++ spelled r.blocks ++ m ∷ r.rest) shut;
      }

  -- what stands behind an open gate
  record_is : (len : ℕ) (payload : List ℕ) → IsLength gate len octets → payload ≡ take len (drop (gate + 5) octets) → (length payload ≡ len) × (r.rest ≡ length_octets len ++ payload ++ get_or r.rest (4 + len) 0 ∷ drop (4 + len + 1) r.rest)
  record_is len payload is_length payload_is =
      let inside : gate + 5 + len < length octets = is_length.3 in
      let room : 4 + len < length r.rest = omega (arith, sized) in
      let five : gate + 1 + 4 ≡ gate + 5 = omega arith in
      let four : take 4 r.rest ≡ length_octets len = ap (λ (l : List ℕ). take 4 l) (sym behind_is) ∙ is_length.0 in
      let behind : drop (gate + 5) octets ≡ drop 4 r.rest = ap (λ (n : ℕ). drop n octets) (sym five) ∙ sym (drop-drop 4 (gate + 1) octets) ∙ ap (λ (l : List ℕ). drop 4 l) behind_is in
      let cut : payload ≡ take len (drop 4 r.rest) = payload_is ∙ ap (λ (l : List ℕ). take len l) behind in
      let long : len ≤ length (drop 4 r.rest) = omega (arith, length-drop 4 r.rest) in
      let last : drop len (drop 4 r.rest) ≡ get_or r.rest (4 + len) 0 ∷ drop (4 + len + 1) r.rest = drop-drop len 4 r.rest ∙ drop_more r.rest (4 + len) 0 room in (
        ap (λ (l : List ℕ). length l) cut ∙ length-take-le len (drop 4 r.rest) long,
        sym (take-append-drop 4 r.rest)
            ∙ ap (λ (l : List ℕ). l ++ drop 4 r.rest) four
            ∙ ap (λ (l : List ℕ). length_octets len ++ l) (sym (take-append-drop len (drop 4 r.rest)) ∙ ap (λ (l : List ℕ). l ++ drop len (drop 4 r.rest)) (sym cut) ∙ ap (λ (l : List ℕ). payload ++ l) last)
            ∙ sym (append_assoc (length_octets len) payload (get_or r.rest (4 + len) 0 ∷ drop (4 + len + 1) r.rest)),
      )

  pub next_read : (len next : ℕ) (payload : List ℕ) → get_or octets gate 0 ≢ 0 → IsLength gate len octets → payload ≡ take len (drop (gate + 5) octets) → next ≡ gate + (5 + len) → ReadTo base next head (payloads ++ payload ∷ []) octets
  next_read len next payload nonzero is_length payload_is next_is =
      let found = record_is len payload is_length payload_is in
      let long : length payload ≡ len = found.0 in
      let low : 1 ≤ len = is_length.1 in
      let high : len ≤ 2097152 = is_length.2 in
      let block : Block = record { gate = r.mark; payload = payload } in
      let mark_open : r.mark ≢ 0 = λ (e : r.mark ≡ 0). nonzero (mark_is ∙ e) in
      let last = get_or r.rest (4 + len) 0 in
      let more = drop (4 + len + 1) r.rest in
      let respelled : r.rest ≡ length_octets (length payload) ++ payload ++ get_or r.rest (4 + len) 0 ∷ drop (4 + len + 1) r.rest = found.1 ∙ ap (λ (n : ℕ). length_octets n ++ payload ++ get_or r.rest (4 + len) 0 ∷ drop (4 + len + 1) r.rest) (sym long) in
      record {
        is_header = r.is_header;
        blocks = r.blocks ++ block ∷ [];
        mark = get_or r.rest (4 + len) 0;
        rest = drop (4 + len + 1) r.rest;
        all_open = AllOpen-push r.blocks block r.all_open mark_open (omega arith, omega arith);
        holds = map_push payload_of r.blocks block ∙ ap (λ (ps : List (List ℕ)). ps ++ payload ∷ []) r.holds;
        spells = r.spells
            ∙ ap (λ (l : List ℕ). (head ++ spelled r.blocks) ++ r.mark ∷ l) respelled
            ∙ sym (grown head r.blocks block (get_or r.rest (4 + len) 0) (drop (4 + len + 1) r.rest));
        place = omega (arith, next_is, end_of-push payloads payload gate r.place);
      }

-- the closed gate that was read up to
pub ends_at : (base gate : ℕ) (head : List ℕ) (payloads : List (List ℕ)) (held : Content) → ReadTo base gate head payloads held.octets → ReadsAll base gate held → EndsAt gate held
ends_at base gate head payloads held r all = (head, payloads, length-header base head r.is_header, all.1 head payloads r, r.place)

-- ---- a record that isn't whole

whole_length : (gate : ℕ) (octets : List ℕ) (w : IsWhole gate octets) → length octets - (gate + 1) ≡ 4 + length w.payload + (1 + length w.rest)
whole_length gate octets w =
    omega (arith, length-drop (gate + 1) octets, ap (λ (l : List ℕ). length l) w.spells, length-append (length_octets (length w.payload) ++ w.payload) (w.mark ∷ w.rest), length-append (length_octets (length w.payload)) w.payload, length-length_octets (length w.payload))

pub not_whole_short : (gate : ℕ) (octets : List ℕ) → length octets < gate + 7 → ¬ IsWhole gate octets
not_whole_short gate octets short w =
    let low : 1 ≤ length w.payload = w.is_payload.0 in
    omega (arith, whole_length gate octets w)

pub not_whole_length : (gate len : ℕ) (octets : List ℕ) → take 4 (drop (gate + 1) octets) ≡ length_octets len → len < 2 ^ 32 → ¬ ((1 ≤ len) × (len ≤ 2097152) × (gate + 5 + len < length octets)) → ¬ IsWhole gate octets
not_whole_length gate len octets is small unfit w =
    let low : 1 ≤ length w.payload = w.is_payload.0 in
    let high : length w.payload ≤ 2097152 = w.is_payload.1 in
    let four : take 4 (drop (gate + 1) octets) ≡ length_octets (length w.payload) =
    ap (λ (l : List ℕ). take 4 l) (w.spells ∙ append_assoc (length_octets (length w.payload)) w.payload (w.mark ∷ w.rest))
    ∙ take_at (length_octets (length w.payload)) (w.payload ++ w.mark ∷ w.rest) 4 (length-length_octets (length w.payload)) in
    let same : len ≡ length w.payload = length_octets_same len (length w.payload) small (omega arith) (sym is ∙ four) in
    let whole = whole_length gate octets w in
    unfit (omega arith, omega arith, omega arith)
