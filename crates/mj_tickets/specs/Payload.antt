-- The text of a ticket command in the ticket file, and of a body. Numbers have their most significant byte first.
use Rattle.std.specs.Prelude.{ℕ, ◌≡◌, ◌^◌, ◌<◌, ◌≤◌, IsTrue, List, [], ◌∷◌, ◌++◌, length}
use Rattle.std.specs.Int.{to_be_bytes, w16, w32, w64}
use Rattle.std.specs.List.{AllByRecursion}
use Rattle.mj_base.specs.ServiceName.{is_service_name}
use Rattle.mj_ids.specs.Ids.{IsId}
use Rattle.mj_tickets.specs.declared.command.TicketCmd.{TicketCmd}
use Rattle.mj_tickets.specs.declared.command.TicketCmd.TheVariants.{Accept, Store, Close}

-- ---- bodies

unfoldable pub count_octets : ℕ → List ℕ
count_octets n = to_be_bytes w16 n

unfoldable pub length_octets : ℕ → List ℕ
length_octets n = to_be_bytes w32 n

unfoldable pub number_octets : ℕ → List ℕ
number_octets n = to_be_bytes w64 n

-- each frame behind its length
abbrev pub frames_text : List (List ℕ) → List ℕ
frames_text [] = []
frames_text (frame ∷ frames) = length_octets (length frame) ++ (frame ++ frames_text frames)

-- the count of frames, and the frames
abbrev pub body_text : List (List ℕ) → List ℕ
body_text body = count_octets (length body) ++ frames_text body

abbrev pub IsShort : List ℕ → Type 0
IsShort frame = length frame < 2 ^ 32

-- count and lengths have room in their bytes
pub record FitsBody (body : List (List ℕ)) : Type 0 where
  pub counted : length body ≤ 65535
  pub short : AllByRecursion IsShort body

-- these bytes are this body
pub record IsBody (body : List (List ℕ)) (octets : List ℕ) : Type 0 where
  pub fits : FitsBody body
  pub spells : octets ≡ body_text body

-- ---- commands

-- `A`, the id, the service's name behind its length
abbrev pub head_of : TicketCmd → List ℕ
head_of (Accept id service body) = 65 ∷ id ++ length service ∷ service
head_of (Store number body) = 83 ∷ number_octets number
head_of (Close number) = 67 ∷ number_octets number

abbrev pub tail_of : TicketCmd → List ℕ
tail_of (Accept id service body) = body_text body
tail_of (Store number body) = body_text body
tail_of (Close number) = []

-- `A` accepts, `S` stores, `C` closes
abbrev pub payload_of : TicketCmd → List ℕ
payload_of cmd = head_of cmd ++ tail_of cmd

-- the body of a command; a close has none
abbrev pub body_of : TicketCmd → List (List ℕ)
body_of (Accept id service body) = body
body_of (Store number body) = body
body_of (Close number) = []

-- a body has at most 65,535 frames, a payload at most 2,097,152 bytes
pub record Fits (cmd : TicketCmd) : Type 0 where
  pub counted : length (body_of cmd) ≤ 65535
  pub short : length (payload_of cmd) ≤ 2097152

-- what its other parts are
abbrev pub HasParts : TicketCmd → Type 0
HasParts (Accept id service body) = IsId id × IsTrue (is_service_name service)
HasParts (Store number body) = number < 2 ^ 64
HasParts (Close number) = number < 2 ^ 64

-- these bytes are this command
pub record IsCommand (cmd : TicketCmd) (octets : List ℕ) : Type 0 where
  pub parts : HasParts cmd
  pub fits : Fits cmd
  pub spells : octets ≡ payload_of cmd

-- what a writer adds stands behind what there was
abbrev pub Grows : List ℕ → List ℕ → Type 0
Grows before now = (added : List ℕ) × (now ≡ before ++ added)
