-- What files stand for: their lengths, and a gate that is shut or nonzero.
use Rattle.std.proofs.Common.{◌≡◌, ◌≢◌, ℕ, ◌+◌, List, [], ◌∷◌, ◌++◌, length, map, refl, sym, ◌∙◌, ap, inl, inr, arith, append_assoc, length-append}
use Rattle.std.proofs.lemmas.List.{append-nil, map_push}
use Rattle.std.proofs.lemmas.Bool.{cases_eq}
use Rattle.mj_journal.specs.FileText.{IsPayload, length_octets, base_octets, IsHeader, Block, spelled, AllOpen, payload_of, Stands, sizes, end_of, text_blocks}
use Rattle.mj_journal.specs.Appending.{recorded, StandsForEither}

pub length-length_octets : (n : ℕ) → length (length_octets n) ≡ 4
unfolding length_octets
length-length_octets n = refl

pub length-base_octets : (base : ℕ) → length (base_octets base) ≡ 8
unfolding base_octets
length-base_octets base = refl

pub length-header : (base : ℕ) (head : List ℕ) → IsHeader base head → length head ≡ 16
length-header base head (inl one) = ap (λ (h : List ℕ). length h) one.1
length-header base head (inr two) = ap (λ (h : List ℕ). length h) two.2 ∙ omega (arith, length-base_octets base)

pub length-spelled : (blocks : List Block) → length (spelled blocks) ≡ sizes (map payload_of blocks)
length-spelled [] = refl
length-spelled (block ∷ blocks) =
    let more = length-spelled blocks in
    let four = length-length_octets (length block.payload) in
    omega (arith, length-append (length_octets (length block.payload) ++ block.payload) (spelled blocks), length-append (length_octets (length block.payload)) block.payload)

-- the front of a file up to the gate behind these blocks
pub length-front : (head : List ℕ) (blocks : List Block) (payloads : List (List ℕ)) (end : ℕ) → length head ≡ 16 → map payload_of blocks ≡ payloads → end ≡ end_of payloads → end ≡ length (head ++ spelled blocks)
length-front head blocks payloads end long holds place =
    let whole = length-append head (spelled blocks) in
    let sized : length (spelled blocks) ≡ sizes payloads = length-spelled blocks ∙ ap sizes holds in
    omega arith

pub sizes-push : (payloads : List (List ℕ)) (payload : List ℕ) → sizes (payloads ++ payload ∷ []) ≡ sizes payloads + (length payload + 5)
sizes-push [] payload = omega arith
sizes-push (first ∷ payloads) payload = let more = sizes-push payloads payload in omega arith

pub end_of-push : (payloads : List (List ℕ)) (payload : List ℕ) (end : ℕ) → end ≡ end_of payloads → end + (length payload + 5) ≡ end_of (payloads ++ payload ∷ [])
end_of-push payloads payload end place = omega (arith, sizes-push payloads payload)

pub spelled-push : (blocks : List Block) (block : Block) (rest : List ℕ) → spelled (blocks ++ block ∷ []) ++ rest ≡ spelled blocks ++ block.gate ∷ (length_octets (length block.payload) ++ block.payload ++ rest)
spelled-push [] block rest =
    ap (λ (l : List ℕ). block.gate ∷ (l ++ rest)) (append-nil (length_octets (length block.payload) ++ block.payload))
spelled-push (first ∷ blocks) block rest =
    let front = length_octets (length first.payload) ++ first.payload in
    ap (λ (l : List ℕ). first.gate ∷ l)
    (append_assoc front (spelled (blocks ++ block ∷ [])) rest
    ∙ ap (λ (l : List ℕ). front ++ l) (spelled-push blocks block rest)
    ∙ sym (append_assoc front (spelled blocks) (block.gate ∷ (length_octets (length block.payload) ++ block.payload ++ rest))))

pub AllOpen-push : (blocks : List Block) (block : Block) → AllOpen blocks → block.gate ≢ 0 → IsPayload block.payload → AllOpen (blocks ++ block ∷ [])
AllOpen-push [] block all nonzero is_payload = (nonzero, is_payload, tt)
AllOpen-push (first ∷ blocks) block all nonzero is_payload = (all.0, all.1, AllOpen-push blocks block all.2 nonzero is_payload)

-- one block more in front of a gate
pub grown : (head : List ℕ) (blocks : List Block) (block : Block) (mark : ℕ) (rest : List ℕ) → head ++ spelled (blocks ++ block ∷ []) ++ mark ∷ rest ≡ (head ++ spelled blocks) ++ block.gate ∷ (length_octets (length block.payload) ++ block.payload ++ mark ∷ rest)
grown head blocks block mark rest =
    append_assoc head (spelled (blocks ++ block ∷ [])) (mark ∷ rest)
    ∙ ap (λ (l : List ℕ). head ++ l) (spelled-push blocks block (mark ∷ rest))
    ∙ sym (append_assoc head (spelled blocks) (block.gate ∷ (length_octets (length block.payload) ++ block.payload ++ mark ∷ rest)))

-- whatever stands behind a closed gate
pub shut : (head : List ℕ) (payloads : List (List ℕ)) (octets image behind : List ℕ) (old : Stands head payloads octets) → image ≡ (head ++ spelled old.blocks) ++ 0 ∷ behind → Stands head payloads image
shut head payloads octets image behind old is =
    record { blocks = old.blocks; rest = behind; all_open = old.all_open; holds = old.holds; spells = is }

-- a whole record behind a gate that is nonzero now
pub opened : (head : List ℕ) (payloads : List (List ℕ)) (octets image payload rest : List ℕ) (gate : ℕ) (old : Stands head payloads octets) → IsPayload payload → gate ≢ 0 → image ≡ (head ++ spelled old.blocks) ++ gate ∷ (recorded payload ++ rest) → Stands head (payloads ++ payload ∷ []) image
opened head payloads octets image payload rest gate old is_payload nonzero is =
    let block : Block = record { gate = gate; payload = payload } in
    record {
      blocks = old.blocks ++ block ∷ [];
      rest = rest;
      all_open = AllOpen-push old.blocks block old.all_open nonzero is_payload;
      holds = map_push payload_of old.blocks block ∙ ap (λ (ps : List (List ℕ)). ps ++ payload ∷ []) old.holds;
      spells = is
          ∙ ap (λ (l : List ℕ). (head ++ spelled old.blocks) ++ gate ∷ l) (append_assoc (length_octets (length payload) ++ payload) (0 ∷ []) rest)
          ∙ sym (grown head old.blocks block 0 rest);
    }

-- whatever the gate is, one of the two lists stands
pub either : (head : List ℕ) (payloads : List (List ℕ)) (octets image payload rest : List ℕ) (gate : ℕ) (old : Stands head payloads octets) → IsPayload payload → image ≡ (head ++ spelled old.blocks) ++ gate ∷ (recorded payload ++ rest) → StandsForEither head payloads payload image
either head payloads octets image payload rest gate old is_payload is =
    elim (cases_eq gate 0) [
      | inl zero ↦ inl (shut head payloads octets image (recorded payload ++ rest) old (is ∙ ap (λ (g : ℕ). (head ++ spelled old.blocks) ++ g ∷ (recorded payload ++ rest)) zero))
      | inr nonzero ↦ inr (opened head payloads octets image payload rest gate old is_payload nonzero is)
    ]

-- the text stands for its payloads
pub text_blocks-holds : (payloads : List (List ℕ)) → map payload_of (text_blocks payloads) ≡ payloads
text_blocks-holds [] = refl
text_blocks-holds (payload ∷ payloads) = ap (λ (ps : List (List ℕ)). payload ∷ ps) (text_blocks-holds payloads)

pub text_blocks-push : (payloads : List (List ℕ)) (payload : List ℕ) → text_blocks (payloads ++ payload ∷ []) ≡ text_blocks payloads ++ record { gate = 1; payload = payload } ∷ []
text_blocks-push payloads payload = map_push (λ (p : List ℕ). record { gate = 1; payload = p }) payloads payload
