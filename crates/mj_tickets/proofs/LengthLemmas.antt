-- How long the text of a body and of a command is.
use Rattle.std.proofs.Common.{◌≡◌, ℕ, ◌+◌, ◌*◌, ◌<◌, ◌≤◌, ◌^◌, ◌↔◌, Bool, true, IsTrue, List, [], ◌∷◌, ◌++◌, length, sum_by, refl, sym, ap, ◌∙◌, arith, length-append}
use Rattle.std.proofs.lemmas.List.Sums.{sum_by-cons}
use Rattle.std.specs.List.{AllByRecursion}
use Rattle.mj_tickets.specs.declared.command.TicketCmd.{TicketCmd}
use Rattle.mj_tickets.specs.declared.command.TicketCmd.TheVariants.{Accept, Store, Close}
use Rattle.mj_tickets.specs.declared.place.Place.{Place}
use Rattle.mj_tickets.specs.Index.{place_in}
use Rattle.mj_tickets.specs.Payload.{count_octets, length_octets, number_octets, frames_text, body_text, IsShort, FitsBody, head_of, tail_of, payload_of, body_of, Fits}

length-length_octets : (n : ℕ) → length (length_octets n) ≡ 4
unfolding length_octets
length-length_octets n = refl

length-count_octets : (n : ℕ) → length (count_octets n) ≡ 2
unfolding count_octets
length-count_octets n = refl

pub length-number_octets : (n : ℕ) → length (number_octets n) ≡ 8
unfolding number_octets
length-number_octets n = refl

length-frame : (frame : List ℕ) (frames : List (List ℕ)) → length (frames_text (frame ∷ frames)) ≡ 4 + length frame + length (frames_text frames)
length-frame frame frames =
    let bytes = length_octets (length frame) in
    omega (arith, length-append bytes (frame ++ frames_text frames), length-append frame (frames_text frames), length-length_octets (length frame))

length-frames_text : (body : List (List ℕ)) → length (frames_text body) ≡ 4 * length body + sum_by length body
length-frames_text [] = refl
length-frames_text (frame ∷ frames) = omega (arith, length-frame frame frames, length-frames_text frames, sum_by-cons (λ (f : List ℕ). length f) frame frames)

pub text_length : (body : List (List ℕ)) → length (body_text body) ≡ 2 + 4 * length body + sum_by length body
text_length body = omega (arith, length-append (count_octets (length body)) (frames_text body), length-count_octets (length body), length-frames_text body)

short_frames : (body : List (List ℕ)) → length (frames_text body) < 2 ^ 32 → AllByRecursion IsShort body
short_frames [] small = tt
short_frames (frame ∷ frames) small = let l = length-frame frame frames in (omega arith, short_frames frames (omega arith))

fits_text : (body : List (List ℕ)) (head : List ℕ) → length body ≤ 65535 → length (head ++ body_text body) ≤ 2097152 → FitsBody body
fits_text body head counted short =
    let bytes = count_octets (length body) in
    let small : length (frames_text body) < 2 ^ 32 = omega (arith, length-append head (body_text body), length-append bytes (frames_text body)) in
    record { counted = counted; short = short_frames body small }

pub fits_body : (cmd : TicketCmd) → Fits cmd → FitsBody (body_of cmd)
fits_body (Accept id service body) fits = fits_text body (head_of (Accept id service body)) fits.counted fits.short
fits_body (Store number body) fits = fits_text body (head_of (Store number body)) fits.counted fits.short
fits_body (Close number) fits = record { counted = fits.counted; short = tt }

-- what the test of a body behind its head says of the command
pub fits_iff : (cmd : TicketCmd) (head : ℕ) (answer : Bool) → head ≡ length (head_of cmd) → tail_of cmd ≡ body_text (body_of cmd)
    → (IsTrue answer ↔ ((length (body_of cmd) ≤ 65535) × (head + length (body_text (body_of cmd)) ≤ 2097152))) → IsTrue answer ↔ Fits cmd
fits_iff cmd head answer front behind iff =
    let whole : length (payload_of cmd) ≡ head + length (body_text (body_of cmd)) = omega (arith, length-append (head_of cmd) (tail_of cmd), ap length behind) in (
      λ yes. let both = iff.0 yes in record { counted = both.0; short = omega (arith, whole, both.1) },
      λ fits. iff.1 (fits.counted, omega (arith, whole, fits.short)),
    )

pub accept_fits : (id service : List ℕ) (body : List (List ℕ)) (head : ℕ) (answer : Bool) → head ≡ 2 + length id + length service
    → (IsTrue answer ↔ ((length body ≤ 65535) × (head + length (body_text body) ≤ 2097152))) → IsTrue answer ↔ Fits (Accept id service body)
accept_fits id service body head answer front iff = fits_iff (Accept id service body) head answer (omega (arith, length-append id (length service ∷ service), front)) refl iff

pub store_fits : (number : ℕ) (body : List (List ℕ)) (answer : Bool)
    → (IsTrue answer ↔ ((length body ≤ 65535) × (9 + length (body_text body) ≤ 2097152))) → IsTrue answer ↔ Fits (Store number body)
store_fits number body answer iff = fits_iff (Store number body) 9 answer (omega (arith, length-number_octets number)) refl iff

pub close_fits : (number : ℕ) → IsTrue true ↔ Fits (Close number)
close_fits number =
    (λ yes. record { counted = omega arith; short = omega (arith, length-number_octets number, length-append (head_of (Close number)) []) }, λ fits. refl)

-- where the body of a store stands
pub store_place : (at len number : ℕ) (body : List (List ℕ)) → len ≡ length (body_text body) → ◌≡◌ {A = Place} (record { at = at + 9; len = len }) (place_in at (Store number body))
store_place at len number body is =
    let head : length (head_of (Store number body)) ≡ 9 = omega (arith, length-number_octets number) in
    ap (λ (n : ℕ). record { at = at + 9; len = n }) is ∙ ap (λ (n : ℕ). record { at = at + n; len = length (body_text body) }) (sym head)
