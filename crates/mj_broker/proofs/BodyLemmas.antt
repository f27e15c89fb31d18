-- Each body of a message within the lawful limits can be kept.
use Rattle.std.proofs.Common.{◌≡◌, ◌+◌, ◌*◌, ◌≤◌, ◌&&◌, ℕ, Bool, true, false, cond, nat_le, List, [], ◌∷◌, ◌++◌, length, sum_by, Option, None, Some, IfSome, refl, arith, length-append}
use Rattle.std.specs.Option.{option_map}
use Rattle.std.specs.Str.{bytes_eq}
use Rattle.std.proofs.lemmas.Bool.Decides.{nat_tests}
use Rattle.std.proofs.lemmas.List.Sums.{sum_by-cons}
use Rattle.mj_base.specs.LawfulLimits.{are_lawful}
use Rattle.mj_base.specs.ServiceName.{is_service_name}
use Rattle.mj_base.specs.declared.limits.Limits.{Limits}
use Rattle.mj_base.specs.declared.version.Version.{Version}
use Rattle.mj_base.specs.declared.version.Version.TheVariants.{One, Two}
use Rattle.mj_opening.specs.Opening.{Begun, begun, behind_empty, opening_of, version_of, word_of}
use Rattle.mj_opening.specs.declared.party.Party.{Party}
use Rattle.mj_opening.specs.declared.party.Party.TheVariants.{Clients}
use Rattle.mj_client_cmd.specs.ClientReading.{client_of, named, request, request_begun, request_in, request_rest}
use Rattle.mj_client_cmd.specs.declared.command.ClientCmd.{ClientCmd}
use Rattle.mj_worker_cmd.specs.WorkerReading.{worker_of}
use Rattle.mj_worker_cmd.proofs.BehindLemmas.{worker-behind}
use Rattle.mj_worker_cmd.specs.declared.command.WorkerCmd.{WorkerCmd}
use Rattle.mj_tickets.specs.Payload.{count_octets, frames_text, length_octets}
use Rattle.mj_store.specs.Commands.{CanBeKept}
use Rattle.mj_machine.specs.MessageStep.{said_by, said_in}
use Rattle.mj_wire.specs.SmallItems.{AreSmallItems, IsSmallItem}
use Rattle.mj_wire.specs.declared.item.WireItem.{WireItem}
use Rattle.mj_wire.specs.declared.item.WireItem.TheVariants as items
use Rattle.mj_broker.specs.Bodies.{AreShort, IsShort, IsShortAct, IsShortItem, IsShortSaid}

-- ---- its text

length-length : (n : ℕ) → length (length_octets n) ≡ 4
unfolding length_octets
length-length n = refl

length-count : (n : ℕ) → length (count_octets n) ≡ 2
unfolding count_octets
length-count n = refl

frames-length : (body : List (List ℕ)) → length (frames_text body) ≡ sum_by length body + 4 * length body
frames-length [] = refl
frames-length (f ∷ fs) =
    let rest = frames-length fs in
    let outer = length-append (length_octets (length f)) (f ++ frames_text fs) in
    let inner = length-append f (frames_text fs) in
    let four = length-length (length f) in
    let sum = sum_by-cons length f fs in
    omega (arith, rest, outer, inner, four, sum)

pub short-kept : (body : List (List ℕ)) → IsShort body → CanBeKept body
short-kept body is =
    let all = length-append (count_octets (length body)) (frames_text body) in
    let two = length-count (length body) in
    let frames = frames-length body in
    record { counted = omega (arith, is.0); short = omega (arith, is.0, is.1, all, two, frames) }

-- ---- frames behind the first ones

rest-short : (f : List ℕ) (fs : List (List ℕ)) → IsShort (f ∷ fs) → IsShort fs
rest-short f fs is = let sum = sum_by-cons length f fs in (omega (arith, is.0), omega (arith, is.1, sum))

abbrev IsShortBegun : Option Begun → Type 0
IsShortBegun o = IfSome o (λ b. IsShort b.rest)

behind-short : (party : Party) (m : List (List ℕ)) → IsShort m → IsShortBegun (behind_empty party m)
behind-short party [] is = tt
behind-short party (word ∷ rest) is = by (version_of party word) (rest-short word rest is)
  where
    by : (o : Option Version) → IsShort rest → IsShortBegun (option_map (begun true rest) o)
    by None short = tt
    by (Some version) short = short

opening-short : (party : Party) (m : List (List ℕ)) → IsShort m → IsShortBegun (opening_of party m)
opening-short party [] is = tt
opening-short party (first ∷ rest) is = by (bytes_eq first (word_of party Two)) (bytes_eq first []) (rest-short first rest is) (behind-short party rest (rest-short first rest is))
  where
    by : (b e : Bool) → IsShort rest → IsShortBegun (behind_empty party rest) → IsShortBegun (cond {A = Option Begun} b (Some (begun false rest Two)) (cond {A = Option Begun} e (behind_empty party rest) None))
    by true e short behind = short
    by false true short behind = behind
    by false false short behind = tt

-- ---- a client's

named-short : (version : Version) (lead : Bool) (rest : List (List ℕ)) → IsShort rest → IfSome (option_map (request version lead) (named rest)) (λ cmd. IsShort cmd.body)
named-short version lead [] is = tt
named-short version lead (service ∷ body) is = by (is_service_name service) (rest-short service body is)
  where
    by : (b : Bool) → IsShort body → IfSome (option_map (request version lead) (cond {A = Option (List ℕ × List (List ℕ))} b (Some (service, body)) None)) (λ cmd. IsShort cmd.body)
    by true short = short
    by false short = tt

coded-short : (version : Version) (lead : Bool) (of : Version) (rest : List (List ℕ)) → IsShort rest → IfSome (request_in version lead (request_rest of rest)) (λ cmd. IsShort cmd.body)
coded-short version lead One rest is = named-short version lead rest is
coded-short version lead Two [] is = tt
coded-short version lead Two (code ∷ rest) is = by (bytes_eq code (1 ∷ [])) (rest-short code rest is)
  where
    by : (b : Bool) → IsShort rest → IfSome (request_in version lead (cond {A = Option (List (List ℕ))} b (Some rest) None)) (λ cmd. IsShort cmd.body)
    by true short = named-short version lead rest short
    by false short = tt

client-short : (message : List (List ℕ)) → IsShort message → IfSome (client_of message) (λ cmd. IsShort cmd.body)
client-short message is = by (opening_of Clients message) (opening-short Clients message is)
  where
    by : (o : Option Begun) → IsShortBegun o → IfSome (request_begun o) (λ cmd. IsShort cmd.body)
    by None short = tt
    by (Some b) short = coded-short b.version b.lead b.version b.rest short

-- ---- a worker's

worker-short : (message : List (List ℕ)) → IsShort message → IfSome (worker_of message) (λ cmd. IsShortAct cmd.act)
worker-short message is = worker-behind IsShort rest-short IsShortAct (λ service. tt) (λ last address body short. short) tt tt message is

-- ---- what was said

pub said-short : (message : List (List ℕ)) → IsShort message → IsShortSaid (said_in message)
said-short message is = by (client_of message) (worker_of message) (client-short message is) (worker-short message is)
  where
    by : (client : Option ClientCmd) (worker : Option WorkerCmd) → IfSome client (λ cmd. IsShort cmd.body) → IfSome worker (λ cmd. IsShortAct cmd.act) → IsShortSaid (said_by client worker)
    by (Some cmd) worker short other = short
    by None (Some cmd) short other = other
    by None None short other = tt

-- ---- items of a wire with lawful limits

-- the first two of a row of tests
two-tests : (a b rest : Bool) → (a && (b && rest)) ≡ true → (a ≡ true) × (b ≡ true)
two-tests true true rest e = (refl, refl)
two-tests true false rest e = cc e
two-tests false b rest e = cc e

pub lawful-most : (limits : Limits) → are_lawful limits ≡ true → (limits.frames ≤ 260) × (limits.message ≤ 1049600)
lawful-most limits is =
    let both = two-tests (nat_le limits.frames 260) (nat_le limits.message 1049600) _ is in
    let one : nat_le limits.frames 260 ≡ true = both.0 in
    let two : nat_le limits.message 1049600 ≡ true = both.1 in
    (grind (arith, nat_tests), grind (arith, nat_tests))

item-short : (limits : Limits) → are_lawful limits ≡ true → (item : WireItem) → IsSmallItem limits item → IsShortItem item
item-short limits lawful items.Accepted small = tt
item-short limits lawful (items.Ready kind) small = tt
item-short limits lawful (items.Message message) small = let most = lawful-most limits lawful in (omega (arith, small.0, most.0), omega (arith, small.1, most.1))
item-short limits lawful (items.Ended reason at) small = tt

pub items-short : (limits : Limits) → are_lawful limits ≡ true → (found : List WireItem) → AreSmallItems limits found → AreShort found
items-short limits lawful [] small = tt
items-short limits lawful (item ∷ found) small = (item-short limits lawful item small.0, items-short limits lawful found small.1)
