-- No greeting, READY or order has the bytes of a reply to a client, and nothing but a REQUEST those of a REQUEST.
use Rattle.std.proofs.Common.{◌≡◌, ℕ, Bool, true, false, List, get_or, refl, sym, ap, ◌∙◌}
use Rattle.mj_base.specs.declared.version.Version.{Version}
use Rattle.mj_base.specs.declared.version.Version.TheVariants.{One, Two}
use Rattle.mj_client_cmd.specs.ClientWriting.{message_frames, reply_code, reply_frames}
use Rattle.mj_client_cmd.specs.declared.command.ClientReply.{ClientReply}
use Rattle.mj_frame.specs.FrameSpelling.{message_octets}
use Rattle.mj_greeting.specs.GreetingGrammar.{broker_greeting}
use Rattle.mj_handshake.specs.ReadyGrammar.{ready_frame}
use Rattle.mj_handshake.specs.declared.socket_type.SocketType.TheVariants.{Router}
use Rattle.mj_worker_cmd.specs.WorkerWriting.{order_frames}
use Rattle.mj_worker_cmd.specs.declared.command.OrderAct.{OrderAct}
use Rattle.mj_worker_cmd.specs.declared.command.OrderAct.TheVariants as order
use Rattle.mj_machine.specs.declared.connection.Voice.{Voice}
use Rattle.mj_machine.specs.Sending.{order_text}
use Rattle.mj_laws.specs.Replies.{IsReply}
use Rattle.mj_laws.specs.Requests.{IsRequest}

-- the size of the first frame, and the letter behind `MDP`
abbrev pub first_size : Bool → ℕ
first_size true = 0
first_size false = 6

abbrev pub letter_place : Bool → ℕ
letter_place true = 7
letter_place false = 5

reply-first : (version : Version) (lead : Bool) (code service : List ℕ) (body : List (List ℕ))
    → get_or (message_octets (message_frames version lead code service body)) 0 0 ≡ 1
reply-first One true code service body = refl
reply-first One false code service body = refl
reply-first Two true code service body = refl
reply-first Two false code service body = refl

reply-size : (version : Version) (lead : Bool) (code service : List ℕ) (body : List (List ℕ))
    → get_or (message_octets (message_frames version lead code service body)) 1 0 ≡ first_size lead
reply-size One true code service body = refl
reply-size One false code service body = refl
reply-size Two true code service body = refl
reply-size Two false code service body = refl

reply-letter : (version : Version) (lead : Bool) (code service : List ℕ) (body : List (List ℕ))
    → get_or (message_octets (message_frames version lead code service body)) (letter_place lead) 0 ≡ 67
reply-letter One true code service body = refl
reply-letter One false code service body = refl
reply-letter Two true code service body = refl
reply-letter Two false code service body = refl

order-size : (version : Version) (lead : Bool) (act : OrderAct)
    → get_or (message_octets (order_frames (record { version = version; lead = lead; act = act }))) 1 0 ≡ first_size lead
order-size One true act = refl
order-size One false act = refl
order-size Two true act = refl
order-size Two false act = refl

order-letter : (version : Version) (lead : Bool) (act : OrderAct)
    → get_or (message_octets (order_frames (record { version = version; lead = lead; act = act }))) (letter_place lead) 0 ≡ 87
order-letter One true act = refl
order-letter One false act = refl
order-letter Two true act = refl
order-letter Two false act = refl

pub greeting-no_reply : IsReply broker_greeting → ⊥
greeting-no_reply is =
    let r = is.0 in
    let first : 255 ≡ 1 = ap (λ (xs : List ℕ). get_or xs 0 0) is.1 ∙ reply-first r.version r.lead (reply_code r.last) r.service r.body in
    cc first

pub ready-no_reply : IsReply (ready_frame Router) → ⊥
ready-no_reply is =
    let r = is.0 in
    let first : 4 ≡ 1 = ap (λ (xs : List ℕ). get_or xs 0 0) is.1 ∙ reply-first r.version r.lead (reply_code r.last) r.service r.body in
    cc first

same-size : (a b : Bool) → first_size a ≡ first_size b → a ≡ b
same-size true true e = refl
same-size true false e = absurd (cc e)
same-size false true e = absurd (cc e)
same-size false false e = refl

pub order-no_reply : (voice : Voice) (act : OrderAct) → IsReply (order_text voice act) → ⊥
order-no_reply voice act is =
    let r = is.0 in
    let octets = message_octets (reply_frames r) in
    let lead : voice.lead ≡ r.lead =
    same-size voice.lead r.lead (sym (order-size voice.version voice.lead act) ∙ ap (λ (xs : List ℕ). get_or xs 1 0) is.1
    ∙ reply-size r.version r.lead (reply_code r.last) r.service r.body) in
    let letter : 87 ≡ 67 =
    sym (order-letter voice.version voice.lead act) ∙ ap (λ (xs : List ℕ). get_or xs (letter_place voice.lead) 0) is.1
    ∙ ap (λ (b : Bool). get_or octets (letter_place b) 0) lead ∙ reply-letter r.version r.lead (reply_code r.last) r.service r.body in
    cc letter

-- ---- REQUESTs

-- where the code's frame begins, behind the word
abbrev pub code_place : Bool → ℕ
code_place true = 10
code_place false = 8

order-first : (version : Version) (lead : Bool) (act : OrderAct)
    → get_or (message_octets (order_frames (record { version = version; lead = lead; act = act }))) 0 0 ≡ 1
order-first One true act = refl
order-first One false act = refl
order-first Two true act = refl
order-first Two false act = refl

-- frames follow a REQUEST's code
request-more : (version : Version) (lead : Bool) (to : List ℕ) (body : List (List ℕ))
    → get_or (message_octets (order_frames (record { version = version; lead = lead; act = order.Request to body }))) (code_place lead) 0 ≡ 1
request-more One true to body = refl
request-more One false to body = refl
request-more Two true to body = refl
request-more Two false to body = refl

heartbeat-ends : (version : Version) (lead : Bool)
    → get_or (message_octets (order_frames (record { version = version; lead = lead; act = order.Heartbeat }))) (code_place lead) 0 ≡ 0
heartbeat-ends One true = refl
heartbeat-ends One false = refl
heartbeat-ends Two true = refl
heartbeat-ends Two false = refl

disconnect-ends : (version : Version) (lead : Bool)
    → get_or (message_octets (order_frames (record { version = version; lead = lead; act = order.Disconnect }))) (code_place lead) 0 ≡ 0
disconnect-ends One true = refl
disconnect-ends One false = refl
disconnect-ends Two true = refl
disconnect-ends Two false = refl

pub greeting-no_request : IsRequest broker_greeting → ⊥
greeting-no_request is =
    let voice = is.0 in
    let first : 255 ≡ 1 = ap (λ (xs : List ℕ). get_or xs 0 0) is.3 ∙ order-first voice.version voice.lead (order.Request is.1 is.2) in
    cc first

pub ready-no_request : IsRequest (ready_frame Router) → ⊥
ready-no_request is =
    let voice = is.0 in
    let first : 4 ≡ 1 = ap (λ (xs : List ℕ). get_or xs 0 0) is.3 ∙ order-first voice.version voice.lead (order.Request is.1 is.2) in
    cc first

-- an order whose code is its last frame
ending-no_request : (voice : Voice) (act : OrderAct) → get_or (order_text voice act) (code_place voice.lead) 0 ≡ 0 → IsRequest (order_text voice act) → ⊥
ending-no_request voice act ends is =
    let other = is.0 in
    let same : voice.lead ≡ other.lead =
    same-size voice.lead other.lead (sym (order-size voice.version voice.lead act) ∙ ap (λ (xs : List ℕ). get_or xs 1 0) is.3
    ∙ order-size other.version other.lead (order.Request is.1 is.2)) in
    let flags : 0 ≡ 1 =
    sym ends ∙ ap (λ (xs : List ℕ). get_or xs (code_place voice.lead) 0) is.3
    ∙ ap (λ (b : Bool). get_or (order_text other (order.Request is.1 is.2)) (code_place b) 0) same ∙ request-more other.version other.lead is.1 is.2 in
    cc flags

pub heartbeat-no_request : (voice : Voice) → IsRequest (order_text voice order.Heartbeat) → ⊥
heartbeat-no_request voice is = ending-no_request voice order.Heartbeat (heartbeat-ends voice.version voice.lead) is

pub disconnect-no_request : (voice : Voice) → IsRequest (order_text voice order.Disconnect) → ⊥
disconnect-no_request voice is = ending-no_request voice order.Disconnect (disconnect-ends voice.version voice.lead) is

pub reply-no_request : (reply : ClientReply) → IsRequest (message_octets (reply_frames reply)) → ⊥
reply-no_request reply is = order-no_reply is.0 (order.Request is.1 is.2) (reply, sym is.3)
