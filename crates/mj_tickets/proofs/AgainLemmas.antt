-- What is written is read back.
use Rattle.std.proofs.Common.{◌≡◌, ℕ, ◌<◌, ◌≤◌, ◌^◌, Bool, true, false, cond, ltb, IsTrue, List, [], ◌∷◌, ◌++◌, length, take, drop, Some, None, option_map, refl, ap, ◌∙◌, arith, append_assoc, append-nil, length-append, le-ltb}
use Rattle.std.proofs.lemmas.List.{take_at, drop_at}
use Rattle.std.proofs.lemmas.Nat.{from_be_bytes-to_be_bytes_2, from_be_bytes-to_be_bytes_4, from_be_bytes-to_be_bytes_8}
use Rattle.std.specs.Int.{from_be_bytes, to_be_bytes, w16, w32, w64}
use Rattle.std.specs.List.{AllByRecursion}
use Rattle.std.specs.Option.{option_and_then}
use Rattle.mj_base.specs.ServiceName.{is_service_name, name_of}
use Rattle.mj_ids.specs.Ids.{IsId, has_marks, id_in}
use Rattle.mj_tickets.specs.declared.command.TicketCmd.{TicketCmd}
use Rattle.mj_tickets.specs.declared.command.TicketCmd.TheVariants.{Accept, Store, Close}
use Rattle.mj_tickets.specs.Payload.{count_octets, length_octets, number_octets, frames_text, body_text, IsShort, FitsBody, IsBody, payload_of, body_of, HasParts, Fits, IsCommand}
use Rattle.mj_tickets.proofs.LengthLemmas.{fits_body}
use Rattle.mj_tickets.specs.PayloadReading.{part_at, frame_at, with_frame, frames_in, body_in, service_in, Accepting, with_service, accepting_in, accept_in, store_in, close_in, kind_in, cmd_in}

part_again : (front rest : List ℕ) (size : ℕ) → length front ≡ size → part_at size (front ++ rest) ≡ Some (front, rest)
part_again front rest size e =
    let test : ltb (length (front ++ rest)) size ≡ false = le-ltb (length (front ++ rest)) size (omega (arith, length-append front rest, e)) in
    rw (test, take_at front rest size e, drop_at front rest size e) refl

-- so many bytes in front are enough
has_front : (front rest : List ℕ) (size : ℕ) → length front ≡ size → ltb (length (front ++ rest)) size ≡ false
has_front front rest size e = le-ltb (length (front ++ rest)) size (omega (arith, length-append front rest, e))

-- ---- bodies

frame_again : (frame rest : List ℕ) → IsShort frame → frame_at (length_octets (length frame) ++ (frame ++ rest)) ≡ Some (frame, rest)
unfolding frame_at length_octets
frame_again frame rest short =
    let bytes = to_be_bytes w32 (length frame) in
    let behind = frame ++ rest in
    let size : from_be_bytes w32 bytes ≡ length frame = from_be_bytes-to_be_bytes_4 (length frame) short in
    ap (λ (b : Bool). cond b None (part_at (from_be_bytes w32 (take 4 (bytes ++ behind))) (drop 4 (bytes ++ behind)))) (has_front bytes behind 4 refl)
    ∙ ap (λ (n : ℕ). part_at n behind) size
    ∙ part_again frame rest (length frame) refl

frames_again : (body : List (List ℕ)) → AllByRecursion IsShort body → frames_in (length body) (frames_text body) ≡ Some body
frames_again [] short = refl
frames_again (frame ∷ frames) short =
    ap (with_frame (λ r. frames_in (length frames) r)) (frame_again frame (frames_text frames) short.0)
    ∙ ap (option_map (λ (fs : List (List ℕ)). frame ∷ fs)) (frames_again frames short.1)

pub body_again : (body : List (List ℕ)) → FitsBody body → body_in (body_text body) ≡ Some body
unfolding body_in count_octets
body_again body fits =
    let bytes = to_be_bytes w16 (length body) in
    let behind = frames_text body in
    let counted : length body ≤ 65535 = fits.counted in
    let count : from_be_bytes w16 bytes ≡ length body = from_be_bytes-to_be_bytes_2 (length body) (omega arith) in
    ap (λ (b : Bool). cond b None (frames_in (from_be_bytes w16 (take 2 (bytes ++ behind))) (drop 2 (bytes ++ behind)))) (has_front bytes behind 2 refl)
    ∙ ap (λ (n : ℕ). frames_in n behind) count
    ∙ frames_again body fits.short

-- ---- commands

service_again : (service rest : List ℕ) → IsTrue (is_service_name service) → service_in (length service ∷ (service ++ rest)) ≡ Some (service, rest)
service_again service rest named =
    let n : is_service_name service ≡ true = named in
    ap (option_and_then (λ (p : List ℕ × List ℕ). option_map (λ (s : List ℕ). (s, p.1)) (name_of p.0))) (part_again service rest (length service) refl)
    ∙ ap (λ (b : Bool). option_map (λ (s : List ℕ). (s, rest)) (cond b (Some service) None)) n

accepting_again : (id service rest : List ℕ) → IsId id → IsTrue (is_service_name service)
    → accepting_in (id ++ (length service ∷ (service ++ rest))) ≡ Some (record { id = id; service = service; body = rest })
accepting_again id service rest is named =
    let behind = length service ∷ (service ++ rest) in
    let marked : has_marks id ≡ true = is.marked in
    ap (λ (b : Bool). cond b None (option_and_then (λ (i : List ℕ). option_map (with_service i) (service_in (drop 16 (id ++ behind)))) (id_in (take 16 (id ++ behind))))) (has_front id behind 16 is.sized)
    ∙ ap (λ (xs : List ℕ). option_and_then (λ (i : List ℕ). option_map (with_service i) (service_in xs)) (id_in (take 16 (id ++ behind)))) (drop_at id behind 16 is.sized)
    ∙ ap (λ (xs : List ℕ). option_and_then (λ (i : List ℕ). option_map (with_service i) (service_in behind)) (id_in xs)) (take_at id behind 16 is.sized)
    ∙ ap (λ (b : Bool). option_and_then (λ (i : List ℕ). option_map (with_service i) (service_in behind)) (cond b (Some id) None)) marked
    ∙ ap (option_map (with_service id)) (service_again service rest named)

accept_again : (id service : List ℕ) (body : List (List ℕ)) → IsId id → IsTrue (is_service_name service) → FitsBody body
    → accept_in (id ++ (length service ∷ service) ++ body_text body) ≡ Some (Accept id service body)
accept_again id service body is named fits =
    ap accept_in (append_assoc id (length service ∷ service) (body_text body))
    ∙ ap (option_and_then (λ (a : Accepting). option_map (λ (b : List (List ℕ)). Accept a.id a.service b) (body_in a.body))) (accepting_again id service (body_text body) is named)
    ∙ ap (option_map (λ (b : List (List ℕ)). Accept id service b)) (body_again body fits)

store_again : (number : ℕ) (body : List (List ℕ)) → number < 2 ^ 64 → FitsBody body → store_in (number_octets number ++ body_text body) ≡ Some (Store number body)
unfolding number_octets
store_again number body small fits =
    let bytes = to_be_bytes w64 number in
    let behind = body_text body in
    let back : from_be_bytes w64 bytes ≡ number = from_be_bytes-to_be_bytes_8 number small in
    ap (λ (b : Bool). cond b None (option_map (λ (f : List (List ℕ)). Store (from_be_bytes w64 (take 8 (bytes ++ behind))) f) (body_in (drop 8 (bytes ++ behind))))) (has_front bytes behind 8 refl)
    ∙ ap (λ (n : ℕ). option_map (λ (f : List (List ℕ)). Store n f) (body_in behind)) back
    ∙ ap (option_map (λ (f : List (List ℕ)). Store number f)) (body_again body fits)

close_again : (number : ℕ) → number < 2 ^ 64 → close_in (number_octets number) ≡ Some (Close number)
unfolding number_octets
close_again number small = ap (λ (n : ℕ). Some (Close n)) (from_be_bytes-to_be_bytes_8 number small)

kind_again : (cmd : TicketCmd) → HasParts cmd → FitsBody (body_of cmd) → kind_in (payload_of cmd) ≡ Some cmd
kind_again (Accept id service body) parts fits = accept_again id service body parts.0 parts.1 fits
kind_again (Store number body) parts fits = store_again number body parts fits
kind_again (Close number) parts fits = ap close_in (append-nil (number_octets number)) ∙ close_again number parts

pub cmd_again : (cmd : TicketCmd) → HasParts cmd → Fits cmd → cmd_in (payload_of cmd) ≡ Some cmd
unfolding cmd_in
cmd_again cmd parts fits =
    let test : ltb 2097152 (length (payload_of cmd)) ≡ false = le-ltb _ _ fits.short in
    ap (λ (b : Bool). cond b None (kind_in (payload_of cmd))) test ∙ kind_again cmd parts (fits_body cmd fits)

pub command_read : (cmd : TicketCmd) (octets : List ℕ) → IsCommand cmd octets → cmd_in octets ≡ Some cmd
command_read cmd octets is = ap cmd_in is.spells ∙ cmd_again cmd is.parts is.fits

pub body_read : (body : List (List ℕ)) (octets : List ℕ) → IsBody body octets → body_in octets ≡ Some body
body_read body octets is = ap body_in is.spells ∙ body_again body is.fits

-- ---- bytes are one command at most, and one body at most

pub one_command : (a b : TicketCmd) (octets : List ℕ) → IsCommand a octets → IsCommand b octets → a ≡ b
one_command a b octets p q = let x = command_read a octets p in let y = command_read b octets q in cc

pub one_body : (a b : List (List ℕ)) (octets : List ℕ) → IsBody a octets → IsBody b octets → a ≡ b
one_body a b octets p q = let x = body_read a octets p in let y = body_read b octets q in cc
