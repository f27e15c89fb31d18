-- Bytes stand for one list of payloads.
use Rattle.std.proofs.Common.{◌≡◌, ◌≢◌, ℕ, ◌≤◌, ◌^◌, List, [], ◌∷◌, ◌++◌, length, map, take, drop, get_or, refl, sym, ◌∙◌, ap, subst, inl, inr, arith, append_assoc, length-append}
use Rattle.std.proofs.lemmas.List.{take_at, drop_at, append-nil, nil_from_length}
use Rattle.std.specs.List.{AllByRecursion}
use Rattle.mj_journal.specs.FileText.{name, base_octets, IsHeader, IsPayload, Block, spelled, AllOpen, payload_of, Stands, StandsFor, IsEmptyStore, Opens, sizes, text_blocks, text}
use Rattle.mj_journal.specs.Opening.{IsNoHeader}
use Rattle.mj_journal.specs.Making.{making_head}
use Rattle.mj_journal.proofs.Files.{length-header, length-spelled, text_blocks-holds}
use Rattle.mj_journal.proofs.Fronts.{same_blocks}
use Rattle.mj_journal.proofs.Headers.{base_octets_same, no_name}

pub stands_once : (head other : List ℕ) (payloads others : List (List ℕ)) (octets : List ℕ) → length head ≡ 16 → length other ≡ 16 → Stands head payloads octets → Stands other others octets → (head ≡ other) × (payloads ≡ others)
stands_once head other payloads others octets long longer s t =
    let one : octets ≡ head ++ (spelled s.blocks ++ 0 ∷ s.rest) = s.spells ∙ append_assoc head (spelled s.blocks) (0 ∷ s.rest) in
    let two : octets ≡ other ++ (spelled t.blocks ++ 0 ∷ t.rest) = t.spells ∙ append_assoc other (spelled t.blocks) (0 ∷ t.rest) in
    let both : head ++ (spelled s.blocks ++ 0 ∷ s.rest) ≡ other ++ (spelled t.blocks ++ 0 ∷ t.rest) = sym one ∙ two in
    let behind : spelled s.blocks ++ 0 ∷ s.rest ≡ spelled t.blocks ++ 0 ∷ t.rest = sym (drop_at head (spelled s.blocks ++ 0 ∷ s.rest) 16 long) ∙ ap (λ (l : List ℕ). drop 16 l) both ∙ drop_at other (spelled t.blocks ++ 0 ∷ t.rest) 16 longer in (
      sym (take_at head (spelled s.blocks ++ 0 ∷ s.rest) 16 long) ∙ ap (λ (l : List ℕ). take 16 l) both ∙ take_at other (spelled t.blocks ++ 0 ∷ t.rest) 16 longer,
      sym s.holds ∙ same_blocks s.blocks t.blocks s.rest t.rest s.all_open t.all_open behind ∙ t.holds,
    )

pub base_once : (base other : ℕ) (head : List ℕ) → IsHeader base head → IsHeader other head → base ≡ other
base_once base other head (inl one) (inl two) = one.0 ∙ sym two.0
base_once base other head (inl one) (inr two) = let e : 49 ≡ 50 = ap (λ (l : List ℕ). get_or l 7 0) (sym one.1 ∙ two.2) in absurd (omega (arith, e))
base_once base other head (inr one) (inl two) = let e : 50 ≡ 49 = ap (λ (l : List ℕ). get_or l 7 0) (sym one.2 ∙ two.1) in absurd (omega (arith, e))
base_once base other head (inr one) (inr two) =
    let high : base ≤ 2 ^ 61 = one.1 in
    let higher : other ≤ 2 ^ 61 = two.1 in
    base_octets_same base other (omega arith) (omega arith) (ap (λ (l : List ℕ). drop 8 l) (sym one.2 ∙ two.2))

no_blocks : (blocks : List Block) → sizes (map payload_of blocks) ≡ 0 → blocks ≡ []
no_blocks [] none = refl
no_blocks (block ∷ blocks) none = absurd (omega (arith, none))

-- a text of at most 17 bytes is that of no payloads
pub stands_short : (base : ℕ) (payloads : List (List ℕ)) (octets : List ℕ) → StandsFor base payloads octets → length octets ≤ 17 → IsEmptyStore octets
stands_short base payloads octets stands short =
    let s = stands.2 in
    let long = length-header base stands.0 stands.1 in
    let whole : length octets ≡ length ((stands.0 ++ spelled s.blocks) ++ 0 ∷ s.rest) = ap (λ (l : List ℕ). length l) s.spells in
    let parts = length-append (stands.0 ++ spelled s.blocks) (0 ∷ s.rest) in
    let front = length-append stands.0 (spelled s.blocks) in
    let few : sizes (map payload_of s.blocks) ≡ 0 = omega (arith, length-spelled s.blocks) in
    let none : s.blocks ≡ [] = no_blocks s.blocks few in
    let nothing : s.rest ≡ [] = nil_from_length s.rest (omega arith) in (
      base,
      stands.0,
      stands.1,
      s.spells
          ∙ ap (λ (bs : List Block). stands.0 ++ spelled bs ++ 0 ∷ s.rest) none
          ∙ ap (λ (l : List ℕ). stands.0 ++ [] ++ 0 ∷ l) nothing
          ∙ ap (λ (l : List ℕ). l ++ 0 ∷ []) (append-nil stands.0),
    )

pub opens_once : (base other : ℕ) (payloads others : List (List ℕ)) (octets : List ℕ) → Opens base payloads octets → Opens other others octets → (base ≡ other) × (payloads ≡ others)
opens_once base other payloads others octets (inl s) (inl t) =
    let once = stands_once s.0 t.0 payloads others octets (length-header base s.0 s.1) (length-header other t.0 t.1) s.2 t.2 in
    (base_once base other t.0 (subst (λ (l : List ℕ). IsHeader base l) once.0 s.1) t.1, once.1)
opens_once base other payloads others octets (inl s) (inr made) = absurd (made.0.1 (stands_short base payloads octets s made.0.0))
opens_once base other payloads others octets (inr made) (inl t) = absurd (made.0.1 (stands_short other others octets t made.0.0))
opens_once base other payloads others octets (inr made) (inr anew) = (made.1 ∙ sym anew.1, made.2 ∙ sym anew.2)

text_open : (payloads : List (List ℕ)) → AllByRecursion IsPayload payloads → AllOpen (text_blocks payloads)
text_open [] all = tt
text_open (payload ∷ payloads) all = (λ (e : 1 ≡ 0). omega (arith, e), all.0, text_open payloads all.1)

pub all-push : (payloads : List (List ℕ)) (payload : List ℕ) → AllByRecursion IsPayload payloads → IsPayload payload → AllByRecursion IsPayload (payloads ++ payload ∷ [])
all-push [] payload all is_payload = (is_payload, tt)
all-push (first ∷ payloads) payload all is_payload = (all.0, all-push payloads payload all.1 is_payload)

pub text_stands : (head : List ℕ) (payloads : List (List ℕ)) → AllByRecursion IsPayload payloads → Stands head payloads (text head payloads)
text_stands head payloads all =
    record { blocks = text_blocks payloads; rest = []; all_open = text_open payloads all; holds = text_blocks-holds payloads; spells = refl }

-- a first byte that isn't 'M'
pub no_first : (y base : ℕ) (rest : List ℕ) → y ≢ 77 → IsNoHeader (take 16 (y ∷ 74 ∷ 84 ∷ 83 ∷ 84 ∷ 79 ∷ 82 ∷ 50 ∷ base_octets base ++ rest))
no_first y base rest other =
    no_name (take 16 (y ∷ 74 ∷ 84 ∷ 83 ∷ 84 ∷ 79 ∷ 82 ∷ 50 ∷ base_octets base ++ rest)) (λ (e : take 7 (take 16 (y ∷ 74 ∷ 84 ∷ 83 ∷ 84 ∷ 79 ∷ 82 ∷ 50 ∷ base_octets base ++ rest)) ≡ name). other (ap (λ (l : List ℕ). get_or l 0 0) e))

pub no_store_in_making : (base : ℕ) (payloads : List (List ℕ)) (octets : List ℕ) → Stands (making_head base) payloads octets → IsNoHeader (take 16 octets)
no_store_in_making base payloads octets s =
    let spells : octets ≡ making_head base ++ (spelled s.blocks ++ 0 ∷ s.rest) = s.spells ∙ append_assoc (making_head base) (spelled s.blocks) (0 ∷ s.rest) in
    subst (λ (l : List ℕ). IsNoHeader (take 16 l)) (sym spells) (no_first 0 base (spelled s.blocks ++ 0 ∷ s.rest) (λ (e : 0 ≡ 77). omega (arith, e)))
