-- What peers say breaks no law but that on waiting.
use Rattle.std.proofs.Common.{◌≡◌, Bool, true, false, List, [], ◌∷◌, ◌++◌, ℕ, Option, Some, None, cond, refl, sym, ap, ◌∙◌, append-nil, append_assoc}
use mathlib.Core.Bool.{◌&&◌}
use Rattle.std.specs.List.{flat_map, list_all}
use Rattle.std.proofs.lemmas.Bool.{and_parts, true≢false}
use Rattle.std.proofs.lemmas.List.Folds.{list_all-append}
use Rattle.mj_client_cmd.specs.ClientReading.{client_of}
use Rattle.mj_client_cmd.specs.declared.command.ClientCmd.{ClientCmd}
use Rattle.mj_wire.specs.declared.item.WireItem.{WireItem}
use Rattle.mj_wire.specs.declared.item.WireItem.TheVariants as items
use Rattle.mj_worker_cmd.specs.WorkerReading.{worker_of}
use Rattle.mj_worker_cmd.specs.declared.command.WorkerAct.{WorkerAct}
use Rattle.mj_worker_cmd.specs.declared.command.WorkerAct.TheVariants as acts
use Rattle.mj_worker_cmd.specs.declared.command.WorkerCmd.{WorkerCmd}
use Rattle.mj_ledger.specs.Events.{Event, Opened, Asked, Ready, Replied, Given, Answered, Lapsed, Left, Wrong, is_passed}
use Rattle.mj_ledger.specs.TranscriptLaws.{keeps_busy, keeps_owner, keeps_wire}
use Rattle.mj_ledger.proofs.Lists.{and-true}
use Rattle.mj_ledger.proofs.LawLemmas.{busy-push, wire-push}
use Rattle.mj_ledger.proofs.StandLemmas.{owner-push}
use Rattle.mj_transcript.specs.Said.{acts_by, hears, hears_cmd}

abbrev is_peers : Event → Bool
is_peers (Asked who service body) = true
is_peers (Ready who service) = true
is_peers (Replied who last to body) = true
is_peers (Left who) = true
is_peers (Opened who) = false
is_peers (Given who to body) = false
is_peers (Answered who service last body) = false
is_peers (Lapsed who) = false
is_peers Wrong = false

-- the three laws on what is sent are kept as before
pub record IsCalm (es more : List Event) : Type 0 where
  pub wire : keeps_wire more ≡ keeps_wire es
  pub owner : keeps_owner more ≡ keeps_owner es
  pub busy : keeps_busy more ≡ keeps_busy es

calm-one : (es : List Event) (e : Event) → is_peers e ≡ true → IsCalm es (es ++ e ∷ [])
calm-one es (Asked who service body) h = record { wire = wire-push es (Asked who service body) ∙ and-true (keeps_wire es); owner = owner-push es (Asked who service body) (λ q. refl) ∙ and-true (keeps_owner es); busy = busy-push es (Asked who service body) ∙ and-true (keeps_busy es) }
calm-one es (Ready who service) h = record { wire = wire-push es (Ready who service) ∙ and-true (keeps_wire es); owner = owner-push es (Ready who service) (λ q. refl) ∙ and-true (keeps_owner es); busy = busy-push es (Ready who service) ∙ and-true (keeps_busy es) }
calm-one es (Replied who last to body) h = record { wire = wire-push es (Replied who last to body) ∙ and-true (keeps_wire es); owner = owner-push es (Replied who last to body) (λ q. refl) ∙ and-true (keeps_owner es); busy = busy-push es (Replied who last to body) ∙ and-true (keeps_busy es) }
calm-one es (Left who) h = record { wire = wire-push es (Left who) ∙ and-true (keeps_wire es); owner = owner-push es (Left who) (λ q. refl) ∙ and-true (keeps_owner es); busy = busy-push es (Left who) ∙ and-true (keeps_busy es) }
calm-one es (Opened who) h = absurd (true≢false (sym h))
calm-one es (Given who to body) h = absurd (true≢false (sym h))
calm-one es (Answered who service last body) h = absurd (true≢false (sym h))
calm-one es (Lapsed who) h = absurd (true≢false (sym h))
calm-one es Wrong h = absurd (true≢false (sym h))

calm-all : (es ms : List Event) → list_all is_peers ms ≡ true → IsCalm es (es ++ ms)
calm-all es [] h = record { wire = ap keeps_wire (append-nil es); owner = ap keeps_owner (append-nil es); busy = ap keeps_busy (append-nil es) }
calm-all es (e ∷ ms) h =
    let p = and_parts (is_peers e) (list_all is_peers ms) h in
    let one = calm-one es e p.0 in
    let rest = calm-all (es ++ e ∷ []) ms p.1 in
    let same : es ++ (e ∷ ms) ≡ (es ++ e ∷ []) ++ ms = sym (append_assoc es (e ∷ []) ms) in
    record { wire = ap keeps_wire same ∙ rest.wire ∙ one.wire; owner = ap keeps_owner same ∙ rest.owner ∙ one.owner; busy = ap keeps_busy same ∙ rest.busy ∙ one.busy }

all-flat : {X A : Type 0} (p : A → Bool) (f : X → List A) → ((x : X) → list_all p (f x) ≡ true) → (xs : List X) → list_all p (flat_map f xs) ≡ true
all-flat p f every [] = refl
all-flat {X} p f every (x ∷ xs) = list_all-append p (f x) (flat_map f xs) ∙ ap (λ (b : Bool). b && list_all p (flat_map f xs)) (every x) ∙ all-flat p f every xs

asked-calm : (b : Bool) (who service : List ℕ) (body : List (List ℕ)) → list_all is_peers (cond b [] (Asked who service body ∷ [])) ≡ true
asked-calm true who service body = refl
asked-calm false who service body = refl

act-calm : (who : List ℕ) (act : WorkerAct) → list_all is_peers (acts_by who act) ≡ true
act-calm who (acts.Ready service) = refl
act-calm who (acts.Reply last to body) = refl
act-calm who acts.Heartbeat = refl
act-calm who acts.Disconnect = refl

cmd-calm : (who : List ℕ) (client : Option ClientCmd) (worker : Option WorkerCmd) → list_all is_peers (hears_cmd who client worker) ≡ true
cmd-calm who (Some cmd) worker = asked-calm (is_passed cmd.service) who cmd.service cmd.body
cmd-calm who None (Some cmd) = act-calm who cmd.act
cmd-calm who None None = refl

item-calm : (who : List ℕ) (item : WireItem) → list_all is_peers (hears who item) ≡ true
item-calm who items.Accepted = refl
item-calm who (items.Ready kind) = refl
item-calm who (items.Message message) = cmd-calm who (client_of message) (worker_of message)
item-calm who (items.Ended reason at) = refl

pub heard-calm : (es : List Event) (who : List ℕ) (xs : List WireItem) → IsCalm es (es ++ flat_map (hears who) xs)
heard-calm es who xs = calm-all es (flat_map (hears who) xs) (all-flat is_peers (hears who) (item-calm who) xs)
