-- What one more line makes of the lanes and of what was said.
use Rattle.std.proofs.Common.{◌≡◌, ◌≢◌, ℕ, Bool, true, false, cond, not, List, [], ◌∷◌, ◌++◌, Option, Some, None, refl, sym, ap, subst, ◌∙◌, append-nil, eqb}
use mathlib.Core.Bool.{◌&&◌, ◌||◌}
use Rattle.std.specs.List.{after_last, cons_option, filter_map, flat_map, last_or, list_any}
use Rattle.std.specs.Option.{unwrap_or}
use Rattle.std.specs.Str.{bytes_eq}
use Rattle.std.proofs.lemmas.Bool.{eq-eqb, ne_eqb}
use Rattle.std.proofs.lemmas.List.Elements.{filter_map-append}
use Rattle.std.proofs.lemmas.List.Folds.{list_any-append}
use Rattle.mj_base.specs.StandardLimits.{peer_limits, standard_limits}
use Rattle.mj_client_cmd.specs.ClientReading.{client_of, reply_of}
use Rattle.mj_client_cmd.specs.declared.command.ClientCmd.{ClientCmd}
use Rattle.mj_client_cmd.specs.declared.command.ClientReply.{ClientReply}
use Rattle.mj_wire.specs.StreamItems.{gained}
use Rattle.mj_wire.specs.declared.item.WireItem.{WireItem}
use Rattle.mj_wire.specs.declared.item.WireItem.TheVariants as items
use Rattle.mj_worker_cmd.specs.WorkerReading.{order_of, worker_of}
use Rattle.mj_worker_cmd.specs.declared.command.Order.{Order}
use Rattle.mj_worker_cmd.specs.declared.command.OrderAct.{OrderAct}
use Rattle.mj_worker_cmd.specs.declared.command.OrderAct.TheVariants as orders
use Rattle.mj_worker_cmd.specs.declared.command.WorkerAct.{WorkerAct}
use Rattle.mj_worker_cmd.specs.declared.command.WorkerAct.TheVariants as acts
use Rattle.mj_worker_cmd.specs.declared.command.WorkerCmd.{WorkerCmd}
use Rattle.mj_ledger.specs.Events.{Event, Answered, Asked, is_passed}
use Rattle.mj_ledger.specs.Moments.{moments}
use Rattle.mj_ledger.specs.Workers.{is_opening}
use Rattle.mj_ledger.proofs.Lists.{after-other, after-passed, all-moments-push, any-behind-push, any-push, by-pushes, flat-moments-push, flat-push, last-append, or-false, or-true}
use Rattle.mj_transcript.specs.Lines.{address_in, closes, connection_on, is_open, octets_in, octets_out, opens, received, sent, since_open, takes}
use Rattle.mj_transcript.specs.Said.{acts_by, hears, hears_cmd, ordered, said, said_at, told, told_cmd}
use Rattle.mj_transcript.specs.Waiting.{is_settled, keeps_waiting}
use Rattle.mj_transcript.specs.declared.line.Line.{Line}
use Rattle.mj_transcript.specs.declared.line.Line.TheVariants.{Open, In, Out, Close, Lapse, Silent, Unlawful}

-- ---- what is said

pub said-push : (lines : List Line) (line : Line) → said (lines ++ line ∷ []) ≡ said lines ++ said_at lines line
said-push lines line = flat-moments-push said_at lines line

pub waiting-push : (lines : List Line) (line : Line) → keeps_waiting (lines ++ line ∷ []) ≡ (keeps_waiting lines && is_settled lines line)
waiting-push lines line = all-moments-push is_settled lines line

-- ---- lanes

open-after : (any c o x : Bool) → ((any || o) && not (not o && (c || x))) ≡ cond o true ((any && not c) && not x)
open-after true c true x = refl
open-after false c true x = refl
open-after true true false x = refl
open-after true false false x = refl
open-after false c false x = refl

pub open-push : (lane : ℕ) (lines : List Line) (line : Line) → is_open lane (lines ++ line ∷ []) ≡ cond (opens lane line) true (is_open lane lines && not (closes lane line))
open-push lane lines line =
    ap (λ (b : Bool). b && not (list_any (closes lane) (since_open lane (lines ++ line ∷ [])))) (any-push (opens lane) lines line)
    ∙ ap (λ (b : Bool). (list_any (opens lane) lines || opens lane line) && not b) (any-behind-push (opens lane) (closes lane) lines line)
    ∙ open-after (list_any (opens lane) lines) (list_any (closes lane) (since_open lane lines)) (opens lane line) (closes lane line)

since-flat : (f : Line → List ℕ) (lane : ℕ) (lines : List Line) (line : Line) (b : Bool) → opens lane line ≡ b → flat_map f (since_open lane (lines ++ line ∷ [])) ≡ cond b [] (flat_map f (since_open lane lines) ++ f line)
since-flat f lane lines line true is = ap (flat_map f) (after-passed (opens lane) lines line is)
since-flat f lane lines line false is = ap (flat_map f) (after-other (opens lane) lines line is) ∙ flat-push f (since_open lane lines) line

pub received-push : (lane : ℕ) (lines : List Line) (line : Line) → received lane (lines ++ line ∷ []) ≡ cond (opens lane line) [] (received lane lines ++ octets_in lane line)
received-push lane lines line = since-flat (octets_in lane) lane lines line (opens lane line) refl

pub sent-push : (lane : ℕ) (lines : List Line) (line : Line) → sent lane (lines ++ line ∷ []) ≡ cond (opens lane line) [] (sent lane lines ++ octets_out lane line)
sent-push lane lines line = since-flat (octets_out lane) lane lines line (opens lane line) refl

last-one : (was : Option (List ℕ)) (o : Option (List ℕ)) (line : Line) (f : Line → Option (List ℕ)) → f line ≡ o → unwrap_or (last_or was (filter_map f (line ∷ []))) [] ≡ unwrap_or o (unwrap_or was [])
last-one was None line f is = ap (λ (x : Option (List ℕ)). unwrap_or (last_or was (cons_option x [])) []) is
last-one was (Some a) line f is = ap (λ (x : Option (List ℕ)). unwrap_or (last_or was (cons_option x [])) []) is

pub connection-push : (lane : ℕ) (lines : List Line) (line : Line) → connection_on lane (lines ++ line ∷ []) ≡ unwrap_or (address_in lane line) (connection_on lane lines)
connection-push lane lines line =
    ap (λ (l : List (List ℕ)). unwrap_or (last_or None l) []) (filter_map-append (address_in lane) lines (line ∷ []))
    ∙ ap (λ (o : Option (List ℕ)). unwrap_or o []) (last-append None (filter_map (address_in lane) lines) (filter_map (address_in lane) (line ∷ [])))
    ∙ last-one (last_or None (filter_map (address_in lane) lines)) (address_in lane line) line (address_in lane) refl

-- ---- who opened

any-flat : {X A : Type 0} (p : A → Bool) (f : X → List A) → ((x : X) → list_any p (f x) ≡ false) → (xs : List X) → list_any p (flat_map f xs) ≡ false
any-flat p f none [] = refl
any-flat {X} p f none (x ∷ xs) = list_any-append p (f x) (flat_map f xs) ∙ ap (λ (b : Bool). b || list_any p (flat_map f xs)) (none x) ∙ any-flat p f none xs

cond-none : (a : List ℕ) (b : Bool) (e : Event) → is_opening a e ≡ false → list_any (is_opening a) (cond b [] (e ∷ [])) ≡ false
cond-none a true e none = refl
cond-none a false e none = ap (λ (b : Bool). b || false) none

act-none : (a who : List ℕ) (act : WorkerAct) → list_any (is_opening a) (acts_by who act) ≡ false
act-none a who (acts.Ready service) = refl
act-none a who (acts.Reply last to body) = refl
act-none a who acts.Heartbeat = refl
act-none a who acts.Disconnect = refl

hears-none-of : (a who : List ℕ) (client : Option ClientCmd) (worker : Option WorkerCmd) → list_any (is_opening a) (hears_cmd who client worker) ≡ false
hears-none-of a who (Some cmd) worker = cond-none a (is_passed cmd.service) (Asked who cmd.service cmd.body) refl
hears-none-of a who None (Some cmd) = act-none a who cmd.act
hears-none-of a who None None = refl

hears-none : (a who : List ℕ) (item : WireItem) → list_any (is_opening a) (hears who item) ≡ false
hears-none a who items.Accepted = refl
hears-none a who (items.Ready kind) = refl
hears-none a who (items.Message message) = hears-none-of a who (client_of message) (worker_of message)
hears-none a who (items.Ended reason at) = refl

order-none : (a who : List ℕ) (act : OrderAct) → list_any (is_opening a) (ordered who act) ≡ false
order-none a who (orders.Request to body) = refl
order-none a who orders.Heartbeat = refl
order-none a who orders.Disconnect = refl

told-none-of : (a who : List ℕ) (reply : Option ClientReply) (order : Option Order) → list_any (is_opening a) (told_cmd who reply order) ≡ false
told-none-of a who (Some reply) order = cond-none a (is_passed reply.service) (Answered who reply.service reply.last reply.body) refl
told-none-of a who None (Some order) = order-none a who order.act
told-none-of a who None None = refl

told-none : (a who : List ℕ) (item : WireItem) → list_any (is_opening a) (told who item) ≡ false
told-none a who items.Accepted = refl
told-none a who (items.Ready kind) = refl
told-none a who (items.Message message) = told-none-of a who (reply_of message) (order_of message)
told-none a who (items.Ended reason at) = refl

opened-at : (a : List ℕ) (lines : List Line) (line : Line) → list_any (is_opening a) (said_at lines line) ≡ takes a line
opened-at a lines (Open lane address) = or-false (bytes_eq address a)
opened-at a lines (In lane octets) = any-flat (is_opening a) (hears (connection_on lane lines)) (hears-none a (connection_on lane lines)) (gained standard_limits (received lane lines) octets)
opened-at a lines (Out lane octets) = any-flat (is_opening a) (told (connection_on lane lines)) (told-none a (connection_on lane lines)) (gained peer_limits (sent lane lines) octets)
opened-at a lines (Close lane) = refl
opened-at a lines (Lapse lane) = refl
opened-at a lines Silent = refl
opened-at a lines Unlawful = refl

pub opened-said : (a : List ℕ) (lines : List Line) → list_any (is_opening a) (said lines) ≡ list_any (takes a) lines
opened-said a =
    by-pushes (λ lines. list_any (is_opening a) (said lines) ≡ list_any (takes a) lines)
    refl
    (λ lines line here.
    ap (list_any (is_opening a)) (said-push lines line) ∙ list_any-append (is_opening a) (said lines) (said_at lines line)
    ∙ ap (λ (b : Bool). b || list_any (is_opening a) (said_at lines line)) here ∙ ap (λ (b : Bool). list_any (takes a) lines || b) (opened-at a lines line)
    ∙ sym (any-push (takes a) lines line))
