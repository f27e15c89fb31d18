-- Each event of the load is one that a broker with eight lanes takes.
use Rattle.std.proofs.Common.{◌≡◌, ◌<◌, ◌≤◌, ◌+◌, ◌%◌, ◌/◌, ℕ, zero, suc, Bool, true, false, nat_lt, List, [], ◌∷◌, length, codes, cond, Result, Ok, Err, IfOk, refl, sym, subst, arith, length-append}
use Rattle.std.proofs.Math.Nat.{mod-lt}
use Rattle.std.proofs.lemmas.Fmt.{length-decimal-le}
use Rattle.std.specs.Fmt.{decimal}
use Rattle.mj_base.specs.EventBounds.{IsTakenBy}
use Rattle.mj_base.specs.declared.event.Event.{Event}
use Rattle.mj_base.specs.declared.memory.NoMemory.{NoMemory}
use Rattle.mj_base.specs.declared.version.Version.{Version}
use Rattle.mj_base.specs.declared.version.Version.TheVariants.{One, Two}
use Rattle.mj_frame.specs.FrameSpelling.{canonical, long_head, message_octets, short_head}
use Rattle.mj_frame.specs.declared.head.Head.{Head}
use Rattle.mj_machine.specs.Sending.{address}
use Rattle.mj_queue.specs.declared.request.Origin.TheVariants.{Client}
use Rattle.mj_worker_cmd.specs.declared.command.WorkerAct.TheVariants as said
use Rattle.mj_gen.specs.Generated.{asker, asks, says, server, service, speaks}
use Rattle.mj_gen.specs.ToCome.{IsPlace, event_of}
use Rattle.mj_gen.specs.declared.load.Turn.{Turn}
use Rattle.mj_gen.specs.declared.load.Turn.TheVariants.{Open, Hello, Greeted, Shaken, Ask, Serve, Taken, Reply, Answered, File, Filed, Over}
use Rattle.mj_gen.proofs.Places.{IsTurn, place_small, turn-of}

abbrev IsSmall : List ℕ → ℕ → Type 0
IsSmall octets most = (0 < length octets) × (length octets ≤ most)

head-size : (b : Bool) (h : Head) → IsSmall (cond b (short_head h) (long_head h)) 9
head-size true h = (omega arith, omega arith)
head-size false h = (omega arith, omega arith)

frame-size : (more command : Bool) (body : List ℕ) → IsSmall (canonical more command body) (9 + length body)
frame-size more command body =
    let head = head-size (nat_lt (length body) 256) (record { more = more; command = command; size = length body }) in
    let both = length-append (cond (nat_lt (length body) 256) (short_head (record { more = more; command = command; size = length body })) (long_head (record { more = more; command = command; size = length body }))) body in
    (omega (arith, head.0, both), omega (arith, head.1, both))

abbrev all-sizes : List (List ℕ) → ℕ
all-sizes [] = 0
all-sizes (frame ∷ frames) = 9 + (length frame + all-sizes frames)

message-size : (frame : List ℕ) (frames : List (List ℕ)) → IsSmall (message_octets (frame ∷ frames)) (9 + (length frame + all-sizes frames))
message-size frame [] = let f = frame-size false false frame in (f.0, omega (arith, f.1))
message-size frame (other ∷ frames) =
    let f = frame-size true false frame in
    let rest = message-size other frames in
    let both = length-append (canonical true false frame) (message_octets (other ∷ frames)) in
    let sizes : all-sizes (other ∷ frames) ≡ 9 + (length other + all-sizes frames) = refl in
    (omega (arith, f.0, both), omega (arith, f.1, rest.1, both, sizes))

three : (a b c : List ℕ) → IsSmall (message_octets (a ∷ b ∷ c ∷ [])) (27 + (length a + (length b + length c)))
three a b c =
    let m = message-size a (b ∷ c ∷ []) in
    let sizes : all-sizes (b ∷ c ∷ []) ≡ 9 + (length b + (9 + (length c + 0))) = refl in
    (m.0, omega (arith, m.1, sizes))

four : (a b c d : List ℕ) → IsSmall (message_octets (a ∷ b ∷ c ∷ d ∷ [])) (36 + (length a + (length b + (length c + length d))))
four a b c d =
    let m = message-size a (b ∷ c ∷ d ∷ []) in
    let sizes : all-sizes (b ∷ c ∷ d ∷ []) ≡ 9 + (length b + (9 + (length c + (9 + (length d + 0))))) = refl in
    (m.0, omega (arith, m.1, sizes))

five : (a b c d e : List ℕ) → IsSmall (message_octets (a ∷ b ∷ c ∷ d ∷ e ∷ [])) (45 + (length a + (length b + (length c + (length d + length e)))))
five a b c d e =
    let m = message-size a (b ∷ c ∷ d ∷ e ∷ []) in
    let sizes : all-sizes (b ∷ c ∷ d ∷ e ∷ []) ≡ 9 + (length b + (9 + (length c + (9 + (length d + (9 + (length e + 0))))))) = refl in
    (m.0, omega (arith, m.1, sizes))

six : (a b c d e f : List ℕ) → IsSmall (message_octets (a ∷ b ∷ c ∷ d ∷ e ∷ f ∷ [])) (54 + (length a + (length b + (length c + (length d + (length e + length f))))))
six a b c d e f =
    let m = message-size a (b ∷ c ∷ d ∷ e ∷ f ∷ []) in
    let sizes : all-sizes (b ∷ c ∷ d ∷ e ∷ f ∷ []) ≡ 9 + (length b + (9 + (length c + (9 + (length d + (9 + (length e + (9 + (length f + 0))))))))) = refl in
    (m.0, omega (arith, m.1, sizes))

small-is : (octets : List ℕ) (most bound : ℕ) → IsSmall octets most → most ≤ bound → IsSmall octets bound
small-is octets most bound small fits = (small.0, omega (arith, small.1, fits))

service-size : (w : ℕ) → length (service w) ≡ 2
service-size zero = refl
service-size (suc zero) = refl
service-size (suc (suc zero)) = refl
service-size (suc (suc (suc more))) = refl

number-size : (i : ℕ) → i ≤ 60000 → length (decimal i) ≤ 5
number-size i few = length-decimal-le 5 i (omega arith) (omega (arith, few)) (omega (arith, few))

-- a request of a service
request-size : (name : List ℕ) (i : ℕ) → length name ≡ 2 → i ≤ 60000 → IsSmall (asks name (decimal i ∷ [])) 65536
request-size name i named few =
    let d = number-size i few in
    let w : length (codes "MDPC01") ≡ 6 = refl in
    small-is (message_octets ([] ∷ codes "MDPC01" ∷ name ∷ decimal i ∷ [])) (36 + (0 + (length (codes "MDPC01") + (length name + length (decimal i))))) 65536 (four [] (codes "MDPC01") name (decimal i)) (omega (arith, named, d, w))

ticket-size : (j : ℕ) → j ≤ 60000 → IsSmall (asks (codes "titanic.request") (codes "later" ∷ decimal j ∷ [])) 65536
ticket-size j few =
    let d = number-size j few in
    let w : length (codes "MDPC01") ≡ 6 = refl in
    let t : length (codes "titanic.request") ≡ 15 = refl in
    let l : length (codes "later") ≡ 5 = refl in
    small-is (message_octets ([] ∷ codes "MDPC01" ∷ codes "titanic.request" ∷ codes "later" ∷ decimal j ∷ [])) (45 + (0 + (length (codes "MDPC01") + (length (codes "titanic.request") + (length (codes "later") + length (decimal j)))))) 65536 (five [] (codes "MDPC01") (codes "titanic.request") (codes "later") (decimal j)) (omega (arith, d, w, t, l))

-- what a worker says
ready-size : (version : Version) (name : List ℕ) → length name ≡ 2 → IsSmall (says version (said.Ready name)) 65536
ready-size One name named =
    let w : length (codes "MDPW01") ≡ 6 = refl in
    small-is (message_octets ([] ∷ codes "MDPW01" ∷ (1 ∷ []) ∷ name ∷ [])) (36 + (0 + (length (codes "MDPW01") + (1 + length name)))) 65536 (four [] (codes "MDPW01") (1 ∷ []) name) (omega (arith, named, w))
ready-size Two name named =
    let w : length (codes "MDPW02") ≡ 6 = refl in
    small-is (message_octets (codes "MDPW02" ∷ (1 ∷ []) ∷ name ∷ [])) (27 + (length (codes "MDPW02") + (1 + length name))) 65536 (three (codes "MDPW02") (1 ∷ []) name) (omega (arith, named, w))

reply-size : (version : Version) (n i : ℕ) → i ≤ 60000 → IsSmall (says version (said.Reply true (address (Client n)) (decimal i ∷ []))) 65536
reply-size One n i few =
    let d = number-size i few in
    let a : length (address (Client n)) ≡ 9 = refl in
    let w : length (codes "MDPW01") ≡ 6 = refl in
    small-is (message_octets ([] ∷ codes "MDPW01" ∷ (3 ∷ []) ∷ address (Client n) ∷ [] ∷ decimal i ∷ [])) (54 + (0 + (length (codes "MDPW01") + (1 + (length (address (Client n)) + (0 + length (decimal i))))))) 65536 (six [] (codes "MDPW01") (3 ∷ []) (address (Client n)) [] (decimal i)) (omega (arith, d, a, w))
reply-size Two n i few =
    let d = number-size i few in
    let a : length (address (Client n)) ≡ 9 = refl in
    let w : length (codes "MDPW02") ≡ 6 = refl in
    small-is (message_octets (codes "MDPW02" ∷ (4 ∷ []) ∷ address (Client n) ∷ [] ∷ decimal i ∷ [])) (45 + (length (codes "MDPW02") + (1 + (length (address (Client n)) + (0 + length (decimal i)))))) 65536 (five (codes "MDPW02") (4 ∷ []) (address (Client n)) [] (decimal i)) (omega (arith, d, a, w))

asker-few : (i : ℕ) → asker i < 8
asker-few i = let m : i % 4 < 4 = mod-lt i {m = 4} (omega arith) in omega (arith, m)

server-few : (i : ℕ) → server i < 8
server-few i = let m : (i / 4) % 4 < 4 = mod-lt (i / 4) {m = 4} (omega arith) in omega (arith, m)

taken-at : (n : ℕ) (stored : Bool) (turn : Turn) (number : ℕ) → number ≤ 60000 → IsTurn n stored turn number → (turn ≡ Over → ⊥) → IsTakenBy 8 (event_of turn number)
taken-at n stored Open number few is going = is
taken-at n stored Hello number few is going = (is, omega arith, omega arith)
taken-at n stored Greeted number few is going = is
taken-at n stored Shaken number few is going = is
taken-at n stored Ask number few is going = let size = request-size (service (server number)) number (service-size (server number)) few in (asker-few number, size.0, size.1)
taken-at n stored Serve number few is going = let size = ready-size (speaks number) (service number) (service-size number) in (omega (arith, is), size.0, size.1)
taken-at n stored Taken number few is going = server-few number
taken-at n stored Reply number few is going = let size = reply-size (speaks (server number)) (asker number + 1) number few in (server-few number, size.0, size.1)
taken-at n stored Answered number few is going = asker-few number
taken-at n stored File number few is going = let size = ticket-size number few in (omega arith, size.0, size.1)
taken-at n stored Filed number few is going = omega arith
taken-at n stored Over number few is going = absurd (going refl)

pub taken : (n : ℕ) (stored : Bool) (turn : Turn) (number : ℕ) → IsPlace n stored turn number → (turn ≡ Over → ⊥) → IsTakenBy 8 (event_of turn number)
taken n stored turn number p going = taken-at n stored turn number (place_small n stored turn number p) (turn-of n stored turn number p.turn_is) going

pub ok_taken : (result : Result Event NoMemory) (n : ℕ) (stored : Bool) (turn : Turn) (number : ℕ) → IsPlace n stored turn number → (turn ≡ Over → ⊥) → IfOk result (λ event. event ≡ event_of turn number)
    → IfOk result (λ event. IsTakenBy 8 event)
ok_taken (Ok event) n stored turn number p going is = subst (IsTakenBy 8) (sym is) (taken n stored turn number p going)
ok_taken (Err e) n stored turn number p going is = tt
