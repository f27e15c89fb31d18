-- The text of a ticket file: a header, gates and records, and which payloads they stand for.
use Rattle.std.specs.Prelude.{◌≡◌, ◌≢◌, ℕ, ◌+◌, ◌≤◌, ◌^◌, ◌⊎◌, List, [], ◌∷◌, ◌++◌, length, map}
use Rattle.std.specs.Int.{to_be_bytes, w32, w64}

-- 'MJTSTOR', with which each header begins
abbrev pub name : List ℕ
name = 77 ∷ 74 ∷ 84 ∷ 83 ∷ 84 ∷ 79 ∷ 82 ∷ []

-- format 1: the digit 1 and eight zeros
abbrev pub header_1 : List ℕ
header_1 = 77 ∷ 74 ∷ 84 ∷ 83 ∷ 84 ∷ 79 ∷ 82 ∷ 49 ∷ 0 ∷ 0 ∷ 0 ∷ 0 ∷ 0 ∷ 0 ∷ 0 ∷ 0 ∷ []

unfoldable pub base_octets : ℕ → List ℕ
base_octets base = to_be_bytes w64 base

-- format 2: the digit 2 and the base in eight bytes
abbrev pub header_2 : ℕ → List ℕ
header_2 base = 77 ∷ 74 ∷ 84 ∷ 83 ∷ 84 ∷ 79 ∷ 82 ∷ 50 ∷ base_octets base

-- a header with this base; format 1 has base 1
abbrev pub IsHeader : ℕ → List ℕ → Type 0
IsHeader base head = ((base ≡ 1) × (head ≡ header_1)) ⊎ ((1 ≤ base) × (base ≤ 2 ^ 61) × (head ≡ header_2 base))

abbrev pub IsPayload : List ℕ → Type 0
IsPayload payload = (1 ≤ length payload) × (length payload ≤ 2097152)

unfoldable pub length_octets : ℕ → List ℕ
length_octets n = to_be_bytes w32 n

-- an open gate, and the record behind it
pub record Block : Type 0 where
  pub gate : ℕ
  pub payload : List ℕ

abbrev pub spelled : List Block → List ℕ
spelled [] = []
spelled (block ∷ blocks) = block.gate ∷ (length_octets (length block.payload) ++ block.payload ++ spelled blocks)

-- a gate is open where it isn't 0
abbrev pub AllOpen : List Block → Type 0
AllOpen [] = Unit {0}
AllOpen (block ∷ blocks) = (block.gate ≢ 0) × IsPayload block.payload × AllOpen blocks

abbrev pub payload_of : Block → List ℕ
payload_of block = block.payload

-- behind this header the bytes stand for the payloads: whole records behind open gates, then a closed gate;
-- anything may follow
pub record Stands (head : List ℕ) (payloads : List (List ℕ)) (octets : List ℕ) : Type 0 where
  pub blocks : List Block
  pub rest : List ℕ
  pub all_open : AllOpen blocks
  pub holds : map payload_of blocks ≡ payloads
  pub spells : octets ≡ head ++ spelled blocks ++ 0 ∷ rest

abbrev pub StandsFor : ℕ → List (List ℕ) → List ℕ → Type 0
StandsFor base payloads octets = (head : List ℕ) × IsHeader base head × Stands head payloads octets

-- exactly a header and a closed gate
abbrev pub IsEmptyStore : List ℕ → Type 0
IsEmptyStore octets = (base : ℕ) × (head : List ℕ) × IsHeader base head × (octets ≡ head ++ 0 ∷ [])

-- a file that an opening makes anew
abbrev pub IsShort : List ℕ → Type 0
IsShort octets = (length octets ≤ 17) × ¬ IsEmptyStore octets

-- with this base a file opens as these payloads
abbrev pub Opens : ℕ → List (List ℕ) → List ℕ → Type 0
Opens base payloads octets = StandsFor base payloads octets ⊎ (IsShort octets × (base ≡ 1) × (payloads ≡ []))

-- with some base
abbrev pub OpensAs : List (List ℕ) → List ℕ → Type 0
OpensAs payloads octets = (base : ℕ) × Opens base payloads octets

-- so short that it can have no payloads
abbrev pub IsLittle : List ℕ → Type 0
IsLittle octets = (length octets ≤ 17) × OpensAs [] octets

-- the place of the closed gate behind these payloads
abbrev pub sizes : List (List ℕ) → ℕ
sizes [] = 0
sizes (payload ∷ payloads) = length payload + 5 + sizes payloads

abbrev pub end_of : List (List ℕ) → ℕ
end_of payloads = 16 + sizes payloads

-- the text that is written: each open gate is 1, and nothing follows
abbrev pub text_blocks : List (List ℕ) → List Block
text_blocks payloads = map (λ payload. record { gate = 1; payload = payload }) payloads

abbrev pub text : List ℕ → List (List ℕ) → List ℕ
text head payloads = head ++ spelled (text_blocks payloads) ++ 0 ∷ []
