-- Records that stand in front of others: which list the bytes behind them are.
use Rattle.std.proofs.Common.{◌≡◌, ◌≢◌, ℕ, ◌≤◌, List, [], ◌∷◌, ◌++◌, length, map, take, drop, get_or, refl, sym, ◌∙◌, ap, arith, append_assoc}
use Rattle.std.proofs.lemmas.List.{take_at, drop_at, append-nil}
use Rattle.mj_journal.specs.FileText.{IsPayload, length_octets, Block, spelled, AllOpen, payload_of}
use Rattle.mj_journal.proofs.Files.{length-length_octets}
use Rattle.mj_journal.proofs.Headers.{length_octets_same}

-- a length, so many bytes, and the rest
pub same_record : (p q x y : List ℕ) → IsPayload p → IsPayload q → length_octets (length p) ++ (p ++ x) ≡ length_octets (length q) ++ (q ++ y) → (p ≡ q) × (x ≡ y)
same_record p q x y is_p is_q same =
    let p_high : length p ≤ 2097152 = is_p.1 in
    let q_high : length q ≤ 2097152 = is_q.1 in
    let four = length-length_octets (length p) in
    let others = length-length_octets (length q) in
    let sized : length_octets (length p) ≡ length_octets (length q) = sym (take_at (length_octets (length p)) (p ++ x) 4 four) ∙ ap (λ (l : List ℕ). take 4 l) same ∙ take_at (length_octets (length q)) (q ++ y) 4 others in
    let long : length p ≡ length q = length_octets_same (length p) (length q) (omega arith) (omega arith) sized in
    let rest : p ++ x ≡ q ++ y = sym (drop_at (length_octets (length p)) (p ++ x) 4 four) ∙ ap (λ (l : List ℕ). drop 4 l) same ∙ drop_at (length_octets (length q)) (q ++ y) 4 others in (
      sym (take_at p x (length p) refl) ∙ ap (λ (l : List ℕ). take (length p) l) rest ∙ take_at q y (length p) (sym long),
      sym (drop_at p x (length p) refl) ∙ ap (λ (l : List ℕ). drop (length p) l) rest ∙ drop_at q y (length p) (sym long),
    )

regroup : (block : Block) (blocks : List Block) (mark : ℕ) (rest : List ℕ) → drop 1 (spelled (block ∷ blocks) ++ mark ∷ rest) ≡ length_octets (length block.payload) ++ (block.payload ++ (spelled blocks ++ mark ∷ rest))
regroup block blocks mark rest =
    append_assoc (length_octets (length block.payload) ++ block.payload) (spelled blocks) (mark ∷ rest)
    ∙ append_assoc (length_octets (length block.payload)) block.payload (spelled blocks ++ mark ∷ rest)

-- what stands behind the records that were read
pub record Behind (blocks others : List Block) (mark : ℕ) (rest more : List ℕ) : Type 0 where
  pub behind : List Block
  pub all_open : AllOpen behind
  pub splits : map payload_of others ≡ map payload_of blocks ++ map payload_of behind
  pub spells : mark ∷ rest ≡ spelled behind ++ 0 ∷ more

pub stand_in_front : (blocks others : List Block) (mark : ℕ) (rest more : List ℕ) → AllOpen blocks → AllOpen others → spelled blocks ++ mark ∷ rest ≡ spelled others ++ 0 ∷ more → Behind blocks others mark rest more
stand_in_front [] others mark rest more all each same = record { behind = others; all_open = each; splits = refl; spells = same }
stand_in_front (block ∷ blocks) [] mark rest more all each same = absurd (all.0 (ap (λ (l : List ℕ). get_or l 0 0) same))
stand_in_front (block ∷ blocks) (other ∷ others) mark rest more all each same =
    let tails = sym (regroup block blocks mark rest) ∙ ap (λ (l : List ℕ). drop 1 l) same ∙ regroup other others 0 more in
    let one = same_record block.payload other.payload (spelled blocks ++ mark ∷ rest) (spelled others ++ 0 ∷ more) all.1 each.1 tails in
    let next = stand_in_front blocks others mark rest more all.2 each.2 one.1 in
    record {
      behind = next.behind;
      all_open = next.all_open;
      splits = ap (λ (ps : List (List ℕ)). other.payload ∷ ps) next.splits ∙ ap (λ (p : List ℕ). p ∷ (map payload_of blocks ++ map payload_of next.behind)) (sym one.0);
      spells = next.spells;
    }

-- behind a closed gate there is none
none_behind : (behind : List Block) (mark : ℕ) (rest more : List ℕ) → AllOpen behind → mark ≡ 0 → mark ∷ rest ≡ spelled behind ++ 0 ∷ more → behind ≡ []
none_behind [] mark rest more all closed same = refl
none_behind (block ∷ behind) mark rest more all closed same =
    absurd (all.0 (sym (ap (λ (l : List ℕ). get_or l 0 0) same) ∙ closed))

pub same_blocks : (blocks others : List Block) (rest more : List ℕ) → AllOpen blocks → AllOpen others → spelled blocks ++ 0 ∷ rest ≡ spelled others ++ 0 ∷ more → map payload_of blocks ≡ map payload_of others
same_blocks blocks others rest more all each same =
    let front = stand_in_front blocks others 0 rest more all each same in
    let none = none_behind front.behind 0 rest more front.all_open refl front.spells in
    sym (front.splits ∙ ap (λ (bs : List Block). map payload_of blocks ++ map payload_of bs) none ∙ append-nil (map payload_of blocks))

-- a gate that isn't closed has a whole record behind it
pub whole_behind : (behind : List Block) (mark : ℕ) (rest more : List ℕ) → AllOpen behind → mark ≢ 0 → mark ∷ rest ≡ spelled behind ++ 0 ∷ more → (payload : List ℕ) × (next : ℕ) × (tail : List ℕ) × IsPayload payload × (rest ≡ length_octets (length payload) ++ payload ++ next ∷ tail)
whole_behind [] mark rest more all nonzero same = absurd (nonzero (ap (λ (l : List ℕ). get_or l 0 0) same))
whole_behind (block ∷ []) mark rest more all nonzero same =
    (block.payload, 0, more, all.1, ap (λ (l : List ℕ). drop 1 l) same ∙ regroup block [] 0 more ∙ sym (append_assoc (length_octets (length block.payload)) block.payload (0 ∷ more)))
whole_behind (block ∷ next ∷ behind) mark rest more all nonzero same =
    let tail = length_octets (length next.payload) ++ next.payload ++ spelled behind ++ 0 ∷ more in
    (block.payload, next.gate, tail, all.1, ap (λ (l : List ℕ). drop 1 l) same ∙ regroup block (next ∷ behind) 0 more ∙ sym (append_assoc (length_octets (length block.payload)) block.payload (next.gate ∷ tail)))
