-- Which command or body some bytes are, as functions of the bytes.
use Rattle.std.specs.Prelude.{ℕ, zero, suc, ◌==◌, nat_lt, List, [], ◌∷◌, length, take, drop, Option, Some, None, option_map, option_and_then, if◌then◌else◌}
use Rattle.std.specs.Int.{from_be_bytes, w16, w32, w64}
use Rattle.mj_base.specs.ServiceName.{name_of}
use Rattle.mj_ids.specs.Ids.{id_in}
use Rattle.mj_tickets.specs.declared.command.TicketCmd.{TicketCmd}
use Rattle.mj_tickets.specs.declared.command.TicketCmd.TheVariants.{Accept, Store, Close}

-- so many bytes, and the bytes behind them
abbrev pub part_at : ℕ → List ℕ → Option (List ℕ × List ℕ)
part_at size octets = if nat_lt (length octets) size then None else Some (take size octets, drop size octets)

-- ---- bodies

-- a frame behind its length of four bytes, and the bytes behind it
unfoldable pub frame_at : List ℕ → Option (List ℕ × List ℕ)
frame_at octets = if nat_lt (length octets) 4 then None else part_at (from_be_bytes w32 (take 4 octets)) (drop 4 octets)

abbrev pub with_frame : (List ℕ → Option (List (List ℕ))) → Option (List ℕ × List ℕ) → Option (List (List ℕ))
with_frame more None = None
with_frame more (Some p) = option_map (λ frames. p.0 ∷ frames) (more p.1)

-- so many frames, and nothing behind them
abbrev pub frames_in : ℕ → List ℕ → Option (List (List ℕ))
frames_in zero [] = Some []
frames_in zero (octet ∷ octets) = None
frames_in (suc n) octets = with_frame (λ rest. frames_in n rest) (frame_at octets)

-- the body that the bytes are
unfoldable pub body_in : List ℕ → Option (List (List ℕ))
body_in octets = if nat_lt (length octets) 2 then None else frames_in (from_be_bytes w16 (take 2 octets)) (drop 2 octets)

-- ---- commands

-- a service's name behind its length of one byte, and the bytes behind it
abbrev pub service_in : List ℕ → Option (List ℕ × List ℕ)
service_in [] = None
service_in (size ∷ rest) = option_and_then (λ p. option_map (λ service. (service, p.1)) (name_of p.0)) (part_at size rest)

-- id and service, and the bytes behind them
pub record Accepting : Type 0 where
  pub id : List ℕ
  pub service : List ℕ
  pub body : List ℕ

abbrev pub with_service : List ℕ → List ℕ × List ℕ → Accepting
with_service id p = record { id = id; service = p.0; body = p.1 }

abbrev pub accepting_in : List ℕ → Option Accepting
accepting_in octets = if nat_lt (length octets) 16 then None else option_and_then (λ id. option_map (with_service id) (service_in (drop 16 octets))) (id_in (take 16 octets))

abbrev pub accept_in : List ℕ → Option TicketCmd
accept_in octets = option_and_then (λ a. option_map (λ body. Accept a.id a.service body) (body_in a.body)) (accepting_in octets)

abbrev pub store_in : List ℕ → Option TicketCmd
store_in octets = if nat_lt (length octets) 8 then None else option_map (λ body. Store (from_be_bytes w64 (take 8 octets)) body) (body_in (drop 8 octets))

abbrev pub close_in : List ℕ → Option TicketCmd
close_in octets = if length octets == 8 then Some (Close (from_be_bytes w64 octets)) else None

abbrev pub by_kind : ℕ → List ℕ → Option TicketCmd
by_kind kind rest = if kind == 65 then accept_in rest else (if kind == 83 then store_in rest else (if kind == 67 then close_in rest else None))

abbrev pub kind_in : List ℕ → Option TicketCmd
kind_in [] = None
kind_in (kind ∷ rest) = by_kind kind rest

-- the command that the bytes are
unfoldable pub cmd_in : List ℕ → Option TicketCmd
cmd_in octets = if nat_lt 2097152 (length octets) then None else kind_in octets
