-- What is read is spelled.
use Rattle.std.proofs.Common.{◌≡◌, ℕ, zero, suc, ◌+◌, ◌<◌, ◌≤◌, ◌^◌, Bool, true, false, cond, ltb, ◌==◌, IsTrue, List, [], ◌∷◌, ◌++◌, length, take, drop, get_or, Option, Some, None, option_map, IfSome, IfNone, refl, sym, ap, subst, ◌∙◌, inl, inr, arith, append_assoc, get_or-take, get_or-drop}
use Rattle.std.proofs.lemmas.Bool.{cases_lt, ltb-false, eqb-true}
use Rattle.std.proofs.lemmas.List.{length-take, take-append-drop, get_or_past, length-take-le}
use Rattle.std.proofs.lemmas.Option.{none-some, cond_some, option_and_then_some}
use Rattle.std.proofs.lemmas.Nat.{be_bytes_2, be_bytes_4, be_bytes_8}
use Rattle.std.specs.Int.{from_be_bytes, to_be_bytes, w16, w32, w64}
use Rattle.std.specs.List.{AllByRecursion}
use Rattle.std.specs.Option.{option_and_then}
use Rattle.mj_base.specs.ServiceName.{is_service_name, name_of}
use Rattle.mj_ids.specs.Ids.{IsId, has_marks, id_in}
use Rattle.mj_tickets.specs.declared.command.TicketCmd.{TicketCmd}
use Rattle.mj_tickets.specs.declared.command.TicketCmd.TheVariants.{Accept, Store, Close}
use Rattle.mj_tickets.specs.Payload.{count_octets, length_octets, number_octets, frames_text, body_text, IsShort, IsBody, payload_of, body_of, IsCommand, HasParts}
use Rattle.mj_tickets.specs.PayloadReading.{part_at, frame_at, with_frame, frames_in, body_in, service_in, Accepting, with_service, accepting_in, accept_in, store_in, close_in, by_kind, kind_in, cmd_in}
use Rattle.mj_tickets.proofs.AgainLemmas.{command_read, body_read}

-- ---- bytes

abbrev pub IsBytes : List ℕ → Type 0
IsBytes xs = (i : ℕ) → get_or xs i 0 < 256

bytes_take : (n : ℕ) (xs : List ℕ) → IsBytes xs → IsBytes (take n xs)
bytes_take n xs b i =
    elim (cases_lt i n) [
      | inl lt ↦ rw (get_or-take n xs i 0 lt) (b i)
      | inr le ↦ let p : length (take n xs) ≤ i = omega (arith, length-take n xs) in rw (get_or_past (take n xs) i 0 p) (omega arith)
    ]

bytes_drop : (n : ℕ) (xs : List ℕ) → IsBytes xs → IsBytes (drop n xs)
bytes_drop n xs b i = rw (get_or-drop n xs i 0) (b (n + i))

below_16 : (bytes : List ℕ) → IsBytes bytes → from_be_bytes w16 bytes < 2 ^ 16
below_16 bytes b = omega (arith, b 0, b 1)

below_32 : (bytes : List ℕ) → IsBytes bytes → from_be_bytes w32 bytes < 2 ^ 32
below_32 bytes b = omega (arith, b 0, b 1, b 2, b 3)

below_64 : (bytes : List ℕ) → IsBytes bytes → from_be_bytes w64 bytes < 2 ^ 64
below_64 bytes b = omega (arith, b 0, b 1, b 2, b 3, b 4, b 5, b 6, b 7)

-- ---- parts

unless : {A : Type 0} (b : Bool) (o : Option A) (y : A) → cond b None o ≡ Some y → (b ≡ false) × (o ≡ Some y)
unless true o y e = absurd (none-some y e)
unless false o y e = (refl, e)

mapped : {A B : Type 0} (f : A → B) (o : Option A) (y : B) → option_map f o ≡ Some y → (x : A) × (o ≡ Some x) × (f x ≡ y)
mapped f None y e = absurd (none-some y e)
mapped f (Some x) y e = (x, refl, cc)

record PartRead (size : ℕ) (octets : List ℕ) (p : List ℕ × List ℕ) : Type 0 where
  whole : octets ≡ p.0 ++ p.1
  sized : length p.0 ≡ size
  back : p.1 ≡ drop size octets

part_read : (size : ℕ) (octets : List ℕ) (p : List ℕ × List ℕ) → part_at size octets ≡ Some p → PartRead size octets p
part_read size octets p e =
    let g = unless (ltb (length octets) size) (Some (take size octets, drop size octets)) p e in
    let inside : size ≤ length octets = ltb-false _ _ g.0 in
    let same : ◌≡◌ {A = List ℕ × List ℕ} (take size octets, drop size octets) p = let s = g.1 in cc in
    subst (PartRead size octets) same (record { whole = sym (take-append-drop size octets); sized = length-take-le size octets inside; back = refl })

-- ---- bodies

record FrameRead (octets : List ℕ) (p : List ℕ × List ℕ) : Type 0 where
  whole : octets ≡ length_octets (length p.0) ++ (p.0 ++ p.1)
  short : IsShort p.0
  behind : IsBytes p.1

frame_read : (octets : List ℕ) (p : List ℕ × List ℕ) → IsBytes octets → frame_at octets ≡ Some p → FrameRead octets p
unfolding frame_at length_octets
frame_read octets p b e =
    let g = unless (ltb (length octets) 4) (part_at (from_be_bytes w32 (take 4 octets)) (drop 4 octets)) p e in
    let four : length (take 4 octets) ≡ 4 = length-take-le 4 octets (ltb-false _ _ g.0) in
    let r = part_read (from_be_bytes w32 (take 4 octets)) (drop 4 octets) p g.1 in
    let front = bytes_take 4 octets b in
    let again : to_be_bytes w32 (length p.0) ≡ take 4 octets = be_bytes_4 (take 4 octets) (length p.0) four front r.sized in
    record {
      whole = sym (take-append-drop 4 octets) ∙ ap (λ (xs : List ℕ). xs ++ drop 4 octets) (sym again) ∙ ap (λ (xs : List ℕ). to_be_bytes w32 (length p.0) ++ xs) r.whole;
      short = subst (λ (n : ℕ). n < 2 ^ 32) (sym r.sized) (below_32 (take 4 octets) front);
      behind = subst IsBytes (sym r.back) (bytes_drop (from_be_bytes w32 (take 4 octets)) (drop 4 octets) (bytes_drop 4 octets b));
    }

record FramesRead (n : ℕ) (octets : List ℕ) (body : List (List ℕ)) : Type 0 where
  counted : length body ≡ n
  short : AllByRecursion IsShort body
  whole : octets ≡ frames_text body

nothing_read : (body : List (List ℕ)) → ◌≡◌ {A = Option (List (List ℕ))} (Some []) (Some body) → FramesRead 0 [] body
nothing_read [] e = record { counted = refl; short = tt; whole = refl }
nothing_read (frame ∷ frames) e = cc

with_read : (n : ℕ) (octets : List ℕ) (o : Option (List ℕ × List ℕ)) (more : List ℕ → Option (List (List ℕ))) (body : List (List ℕ)) → IsBytes octets → frame_at octets ≡ o
    → ((rest : List ℕ) (frames : List (List ℕ)) → IsBytes rest → more rest ≡ Some frames → FramesRead n rest frames)
    → with_frame more o ≡ Some body → FramesRead (suc n) octets body
with_read n octets None more body b is rest e = absurd (none-some body e)
with_read n octets (Some p) more body b is rest e =
    let m = mapped (λ (frames : List (List ℕ)). p.0 ∷ frames) (more p.1) body e in
    let f = frame_read octets p b is in
    let r = rest p.1 m.0 f.behind m.1 in
    subst (FramesRead (suc n) octets) m.2 (record {
      counted = ap suc r.counted;
      short = (f.short, r.short);
      whole = f.whole ∙ ap (λ (xs : List ℕ). length_octets (length p.0) ++ (p.0 ++ xs)) r.whole;
    })

frames_read : (n : ℕ) (octets : List ℕ) (body : List (List ℕ)) → IsBytes octets → frames_in n octets ≡ Some body → FramesRead n octets body
frames_read zero [] body b e = nothing_read body e
frames_read zero (x ∷ xs) body b e = absurd (none-some body e)
frames_read (suc n) octets body b e =
    with_read n octets (frame_at octets) (λ r. frames_in n r) body b refl (λ rest frames h k. frames_read n rest frames h k) e

pub body_spelled : (octets : List ℕ) (body : List (List ℕ)) → IsBytes octets → body_in octets ≡ Some body → IsBody body octets
unfolding body_in count_octets
body_spelled octets body b e =
    let g = unless (ltb (length octets) 2) (frames_in (from_be_bytes w16 (take 2 octets)) (drop 2 octets)) body e in
    let two : length (take 2 octets) ≡ 2 = length-take-le 2 octets (ltb-false _ _ g.0) in
    let front = bytes_take 2 octets b in
    let r = frames_read (from_be_bytes w16 (take 2 octets)) (drop 2 octets) body (bytes_drop 2 octets b) g.1 in
    let again : to_be_bytes w16 (length body) ≡ take 2 octets = be_bytes_2 (take 2 octets) (length body) two front r.counted in
    let small : length body < 65536 = subst (λ (n : ℕ). n < 65536) (sym r.counted) (below_16 (take 2 octets) front) in
    record {
      fits = record { counted = omega arith; short = r.short };
      spells = sym (take-append-drop 2 octets) ∙ ap (λ (xs : List ℕ). xs ++ drop 2 octets) (sym again) ∙ ap (λ (xs : List ℕ). to_be_bytes w16 (length body) ++ xs) r.whole;
    }

-- ---- commands

record ServiceRead (octets : List ℕ) (p : List ℕ × List ℕ) : Type 0 where
  whole : octets ≡ length p.0 ∷ (p.0 ++ p.1)
  named : IsTrue (is_service_name p.0)
  behind : IsBytes p.1

named_read : (size : ℕ) (rest : List ℕ) (q p : List ℕ × List ℕ) → IsBytes rest → part_at size rest ≡ Some q → option_map (λ (s : List ℕ). (s, q.1)) (name_of q.0) ≡ Some p → ServiceRead (size ∷ rest) p
named_read size rest q p b was e =
    let m = mapped (λ (s : List ℕ). (s, q.1)) (name_of q.0) p e in
    let n = cond_some (is_service_name q.0) q.0 m.0 m.1 in
    let r = part_read size rest q was in
    subst (ServiceRead (size ∷ rest)) m.2 (record {
      whole = ap (λ (k : ℕ). k ∷ rest) (sym r.sized ∙ ap length n.1) ∙ ap (λ (xs : List ℕ). length m.0 ∷ xs) (r.whole ∙ ap (λ (xs : List ℕ). xs ++ q.1) n.1);
      named = subst (λ (xs : List ℕ). IsTrue (is_service_name xs)) n.1 n.0;
      behind = subst IsBytes (sym r.back) (bytes_drop size rest b);
    })

service_read : (octets : List ℕ) (p : List ℕ × List ℕ) → IsBytes octets → service_in octets ≡ Some p → ServiceRead octets p
service_read [] p b e = absurd (none-some p e)
service_read (size ∷ rest) p b e =
    option_and_then_some (λ (q : List ℕ × List ℕ). option_map (λ (s : List ℕ). (s, q.1)) (name_of q.0)) (part_at size rest) p e (λ q was is. named_read size rest q p (λ i. b (suc i)) was is)

record AcceptingRead (octets : List ℕ) (a : Accepting) : Type 0 where
  whole : octets ≡ a.id ++ (length a.service ∷ (a.service ++ a.body))
  is_id : IsId a.id
  named : IsTrue (is_service_name a.service)
  behind : IsBytes a.body

with_id_read : (octets id : List ℕ) (a : Accepting) → IsBytes octets → 16 ≤ length octets → id_in (take 16 octets) ≡ Some id → option_map (with_service id) (service_in (drop 16 octets)) ≡ Some a → AcceptingRead octets a
with_id_read octets id a b long was e =
    let i = cond_some (has_marks (take 16 octets)) (take 16 octets) id was in
    let m = mapped (with_service id) (service_in (drop 16 octets)) a e in
    let s = service_read (drop 16 octets) m.0 (bytes_drop 16 octets b) m.1 in
    subst (AcceptingRead octets) m.2 (record {
      whole = sym (take-append-drop 16 octets) ∙ ap (λ (xs : List ℕ). xs ++ drop 16 octets) i.1 ∙ ap (λ (xs : List ℕ). id ++ xs) s.whole;
      is_id = record { sized = sym (ap length i.1) ∙ length-take-le 16 octets long; marked = subst (λ (xs : List ℕ). IsTrue (has_marks xs)) i.1 i.0 };
      named = s.named;
      behind = s.behind;
    })

accepting_read : (octets : List ℕ) (a : Accepting) → IsBytes octets → accepting_in octets ≡ Some a → AcceptingRead octets a
accepting_read octets a b e =
    let g = unless (ltb (length octets) 16) (option_and_then (λ (i : List ℕ). option_map (with_service i) (service_in (drop 16 octets))) (id_in (take 16 octets))) a e in
    option_and_then_some (λ (i : List ℕ). option_map (with_service i) (service_in (drop 16 octets))) (id_in (take 16 octets)) a g.1 (λ id was is. with_id_read octets id a b (ltb-false _ _ g.0) was is)

-- a command but for the limit on its length
record Spelled (cmd : TicketCmd) (octets : List ℕ) : Type 0 where
  parts : HasParts cmd
  counted : length (body_of cmd) ≤ 65535
  whole : octets ≡ payload_of cmd

with_accepting : (octets : List ℕ) (a : Accepting) (cmd : TicketCmd) → IsBytes octets → accepting_in octets ≡ Some a → option_map (λ (body : List (List ℕ)). Accept a.id a.service body) (body_in a.body) ≡ Some cmd
    → Spelled cmd (65 ∷ octets)
with_accepting octets a cmd b was e =
    let m = mapped (λ (body : List (List ℕ)). Accept a.id a.service body) (body_in a.body) cmd e in
    let r = accepting_read octets a b was in
    let s = body_spelled a.body m.0 r.behind m.1 in
    subst (λ (x : TicketCmd). Spelled x (65 ∷ octets)) m.2 (record {
      parts = (r.is_id, r.named);
      counted = s.fits.counted;
      whole =
          ap (λ (xs : List ℕ). 65 ∷ xs)
          (r.whole ∙ ap (λ (xs : List ℕ). a.id ++ (length a.service ∷ (a.service ++ xs))) s.spells ∙ sym (append_assoc a.id (length a.service ∷ a.service) (body_text m.0)));
    })

accept_spelled : (octets : List ℕ) (cmd : TicketCmd) → IsBytes octets → accept_in octets ≡ Some cmd → Spelled cmd (65 ∷ octets)
accept_spelled octets cmd b e =
    option_and_then_some (λ (a : Accepting). option_map (λ (body : List (List ℕ)). Accept a.id a.service body) (body_in a.body)) (accepting_in octets) cmd e (λ a was is. with_accepting octets a cmd b was is)

store_spelled : (octets : List ℕ) (cmd : TicketCmd) → IsBytes octets → store_in octets ≡ Some cmd → Spelled cmd (83 ∷ octets)
unfolding number_octets
store_spelled octets cmd b e =
    let number = from_be_bytes w64 (take 8 octets) in
    let g = unless (ltb (length octets) 8) (option_map (λ (body : List (List ℕ)). Store number body) (body_in (drop 8 octets))) cmd e in
    let m = mapped (λ (body : List (List ℕ)). Store number body) (body_in (drop 8 octets)) cmd g.1 in
    let front = bytes_take 8 octets b in
    let eight : length (take 8 octets) ≡ 8 = length-take-le 8 octets (ltb-false _ _ g.0) in
    let again : to_be_bytes w64 number ≡ take 8 octets = be_bytes_8 (take 8 octets) number eight front refl in
    let s = body_spelled (drop 8 octets) m.0 (bytes_drop 8 octets b) m.1 in
    subst (λ (x : TicketCmd). Spelled x (83 ∷ octets)) m.2 (record {
      parts = below_64 (take 8 octets) front;
      counted = s.fits.counted;
      whole =
          ap (λ (xs : List ℕ). 83 ∷ xs)
          (sym (take-append-drop 8 octets) ∙ ap (λ (xs : List ℕ). xs ++ drop 8 octets) (sym again) ∙ ap (λ (xs : List ℕ). to_be_bytes w64 number ++ xs) s.spells);
    })

close_spelled : (octets : List ℕ) (cmd : TicketCmd) → IsBytes octets → close_in octets ≡ Some cmd → Spelled cmd (67 ∷ octets)
unfolding number_octets
close_spelled octets cmd b e =
    let number = from_be_bytes w64 octets in
    let g = cond_some (length octets == 8) (Close number) cmd e in
    let again : to_be_bytes w64 number ≡ octets = be_bytes_8 octets number (eqb-true _ _ g.0) b refl in
    subst (λ (x : TicketCmd). Spelled x (67 ∷ octets)) g.1 (record { parts = below_64 octets b; counted = omega arith; whole = ap (λ (xs : List ℕ). 67 ∷ xs) (sym again) })

chosen : {A : Type 0} (b : Bool) (x y : Option A) (z : A) (P : Type 0) → cond b x y ≡ Some z → (b ≡ true → x ≡ Some z → P) → (y ≡ Some z → P) → P
chosen true x y z P e f g = f refl e
chosen false x y z P e f g = g e

at_kind : (kind letter : ℕ) (rest : List ℕ) (cmd : TicketCmd) → (kind == letter) ≡ true → Spelled cmd (letter ∷ rest) → Spelled cmd (kind ∷ rest)
at_kind kind letter rest cmd is s = subst (λ (k : ℕ). Spelled cmd (k ∷ rest)) (sym (eqb-true kind letter is)) s

by_kind_spelled : (kind : ℕ) (rest : List ℕ) (cmd : TicketCmd) → IsBytes rest → by_kind kind rest ≡ Some cmd → Spelled cmd (kind ∷ rest)
by_kind_spelled kind rest cmd b e =
    chosen (kind == 65) (accept_in rest) (cond (kind == 83) (store_in rest) (cond (kind == 67) (close_in rest) None)) cmd (Spelled cmd (kind ∷ rest)) e (λ is f. at_kind kind 65 rest cmd is (accept_spelled rest cmd b f))
    (λ g. chosen (kind == 83) (store_in rest) (cond (kind == 67) (close_in rest) None) cmd (Spelled cmd (kind ∷ rest)) g (λ is f. at_kind kind 83 rest cmd is (store_spelled rest cmd b f))
    (λ h. chosen (kind == 67) (close_in rest) None cmd (Spelled cmd (kind ∷ rest)) h (λ is f. at_kind kind 67 rest cmd is (close_spelled rest cmd b f)) (λ none. absurd (none-some cmd none))))

kind_spelled : (octets : List ℕ) (cmd : TicketCmd) → IsBytes octets → kind_in octets ≡ Some cmd → Spelled cmd octets
kind_spelled [] cmd b e = absurd (none-some cmd e)
kind_spelled (kind ∷ rest) cmd b e = by_kind_spelled kind rest cmd (λ i. b (suc i)) e

pub cmd_spelled : (octets : List ℕ) (cmd : TicketCmd) → IsBytes octets → cmd_in octets ≡ Some cmd → IsCommand cmd octets
unfolding cmd_in
cmd_spelled octets cmd b e =
    let g = unless (ltb 2097152 (length octets)) (kind_in octets) cmd e in
    let s = kind_spelled octets cmd b g.1 in
    let short : length octets ≤ 2097152 = ltb-false _ _ g.0 in
    record { parts = s.parts; fits = record { counted = s.counted; short = subst (λ (xs : List ℕ). length xs ≤ 2097152) s.whole short }; spells = s.whole }

-- ---- what an answer says

pub if_command : (octets : List ℕ) (o : Option TicketCmd) → IsBytes octets → o ≡ cmd_in octets → IfSome o (λ cmd. IsCommand cmd octets)
if_command octets None b e = tt
if_command octets (Some cmd) b e = cmd_spelled octets cmd b (sym e)

pub if_no_command : (octets : List ℕ) (o : Option TicketCmd) → o ≡ cmd_in octets → IfNone o ((cmd : TicketCmd) → IsCommand cmd octets → ⊥)
if_no_command octets None e = λ cmd is. none-some cmd (e ∙ command_read cmd octets is)
if_no_command octets (Some cmd) e = tt

pub if_body : (octets : List ℕ) (o : Option (List (List ℕ))) → IsBytes octets → o ≡ body_in octets → IfSome o (λ body. IsBody body octets)
if_body octets None b e = tt
if_body octets (Some body) b e = body_spelled octets body b (sym e)

pub if_no_body : (octets : List ℕ) (o : Option (List (List ℕ))) → o ≡ body_in octets → IfNone o ((body : List (List ℕ)) → IsBody body octets → ⊥)
if_no_body octets None e = λ body is. none-some body (e ∙ body_read body octets is)
if_no_body octets (Some body) e = tt
