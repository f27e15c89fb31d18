-- Each piece that can be read as a reply is the answer to the asker's own request, or the reply that its worker gave.
use Rattle.std.proofs.Common.{◌≡◌, true, ◌⊎◌, false, ℕ, List, sym, ap, subst, ◌∙◌, inl, inr}
use Rattle.std.specs.List.{AllByRecursion}
use Rattle.mj_base.specs.declared.event.Out.{Out}
use Rattle.mj_base.specs.declared.event.Out.TheVariants.{End, Note, Piece}
use Rattle.mj_base.specs.declared.limits.Limits.{Limits}
use Rattle.mj_worker_cmd.specs.declared.command.OrderAct.TheVariants as order
use Rattle.mj_machine.specs.StoreState.{Store, no_store}
use Rattle.mj_machine.specs.MachineState.{Whole, start, start_with}
use Rattle.mj_machine.specs.Pairing.{body_for}
use Rattle.mj_machine.specs.EventStep.{Noted}
use Rattle.mj_machine.specs.Connections.{connection_of, is_asking, voice_of}
use Rattle.mj_machine.specs.MessageStep.{said_in}
use Rattle.mj_machine.specs.Sending.{address}
use Rattle.mj_machine.specs.Steps.{Cause, Step, acts, run_steps, step_of}
use Rattle.mj_machine.proofs.ListLemmas.{all-both, all-map}
use Rattle.mj_machine.proofs.StepLemmas.{IsAct, steps-act}
use Rattle.mj_machine.proofs.Changes.{Answers, Beats, Delivers, Greets, Hands, IsAnswered, IsDelivered, IsServed, Refuses, Shakes, Tells, Why}
use Rattle.mj_laws.specs.Replies.{IsExplained, IsExplainedWithout, IsOwnAnswer, IsOwned, IsReply, IsTitanics, RepliesAreOwnedWithout}
use Rattle.mj_laws.specs.Soundness.{ServicesAgree}
use Rattle.mj_laws.proofs.HeldLemmas.{replies-of}
use Rattle.mj_laws.proofs.PutLemmas.{HasReason, IsPut, acts-have-reasons}
use Rattle.mj_laws.proofs.SoundLemmas.{stays-sound-with}
use Rattle.mj_laws.proofs.StorelessLemmas.{nothing_is_kept}
use Rattle.mj_base.specs.ServiceName.{is_reserved}
use Rattle.mj_laws.proofs.TextLemmas.{greeting-no_reply, order-no_reply, ready-no_reply}

module _ (cause : Cause) (w0 : Whole) (agree : ServicesAgree w0.routing) where
  abbrev T : Step
  T = step_of cause w0 (acts cause w0)

  abbrev Put : ℕ → List ℕ → Type 0
  Put lane octets = IsPut cause w0 T.after.routing.limits T.after.store lane octets

  abbrev Owned : ℕ → List ℕ → Type 0
  Owned lane octets = IsOwned lane octets T ⊎ (IsOwnAnswer lane octets T ⊎ IsTitanics lane octets T)

  answered : (lane : ℕ) (octets : List ℕ) (put : Put lane octets) → IsAnswered cause w0 put.number octets → Owned lane octets
  answered lane octets put a =
      elim put.there [
        | inl opens ↦ absurd (cc (a.cause_is, opens.1))
        | inr was ↦ inr (inl (record {
          client = put.number;
          message = a.message;
          cause = a.cause_is;
          cmd = a.cmd;
          said_is = a.said_is;
          reserved = a.reserved;
          asker = was.0;
          there = was.1;
          lane_is = was.2 ∙ put.lane_is;
          text = a.text;
        }))
      ]

  delivered : (lane : ℕ) (octets : List ℕ) (put : Put lane octets) → IsDelivered cause w0.routing put.number octets → Owned lane octets
  unfolding replies-of
  delivered lane octets put d =
      elim put.there [
        | inl opens ↦ absurd (cc (d.cause_is, opens.1))
        | inr was ↦ inl (record {
          worker = d.worker;
          message = d.message;
          cause = d.cause_is;
          final = d.last;
          says = replies-of d.last d.worker (said_in d.message) w0.routing agree d.reply;
          client = put.number;
          origin = d.origin;
          asker = was.0;
          there = was.1;
          asks = ap is_asking (sym was.1) ∙ d.asks;
          lane_is = was.2 ∙ put.lane_is;
          text = d.text;
        })
      ]

  served : (lane : ℕ) (octets : List ℕ) (put : Put lane octets) → IsServed cause w0 T.after.routing.limits T.after.store put.number octets → Owned lane octets
  served lane octets put a =
      elim put.there [
        | inl opens ↦ absurd (cc (a.cause_is, opens.1))
        | inr was ↦ inr (inr (record {
          client = put.number;
          message = a.message;
          cause = a.cause_is;
          cmd = a.cmd;
          said_is = a.said_is;
          free = a.free;
          reserved = a.reserved;
          asker = was.0;
          there = was.1;
          lane_is = was.2 ∙ put.lane_is;
          frames = a.frames;
          says = a.says;
          text = a.text;
        }))
      ]

  owned : (lane : ℕ) (octets : List ℕ) (put : Put lane octets) → Why cause w0 T.after.routing.limits T.after.store put.number octets → IsReply octets → Owned lane octets
  owned lane octets put (Greets text) reply = absurd (greeting-no_reply (subst IsReply text reply))
  owned lane octets put (Shakes text) reply = absurd (ready-no_reply (subst IsReply text reply))
  owned lane octets put (Refuses voice text) reply = absurd (order-no_reply voice order.Disconnect (subst IsReply text reply))
  owned lane octets put (Beats voice text) reply = absurd (order-no_reply voice order.Heartbeat (subst IsReply text reply))
  owned lane octets put (Hands p is text) reply =
      absurd (order-no_reply (voice_of (connection_of p.waiter.worker w0.routing.connections)) (order.Request (address p.request.origin) (body_for p.request w0.store)) (subst IsReply text reply))
  owned lane octets put (Answers a) reply = answered lane octets put a
  owned lane octets put (Tells a) reply = served lane octets put a
  owned lane octets put (Delivers d) reply = delivered lane octets put d

  explained : (out : Out) → HasReason cause w0 T.after.routing.limits T.after.store out → IsExplained T out
  explained (Piece lane octets) put = λ reply. owned lane octets put put.why reply
  explained (End lane reason at) put = tt
  explained (Note note) put = tt

step-explained : (t : Step) → IsAct t → ServicesAgree t.before.routing → AllByRecursion (IsExplained t) t.outs
step-explained t act agree =
    subst (λ (u : Step). AllByRecursion (IsExplained u) u.outs) (sym act.is)
    (all-map _ _ (explained t.cause t.before agree) (acts t.cause t.before).1 (acts-have-reasons t.cause t.before act.allowed))

pub replies_are_owned : (limits : Limits) (store : Store) (events : List Noted) → AllByRecursion (λ t. AllByRecursion (IsExplained t) t.outs) (run_steps limits (start_with limits store) events)
replies_are_owned limits store events =
    let m = start_with limits store in
    all-map _ _ (λ t both. step-explained t both.0 both.1.0.services) (run_steps limits m events)
    (all-both _ _ (run_steps limits m events) (steps-act limits m events) (stays-sound-with limits store events).0)

-- ---- without a store

-- no reply is one of Titanic's
no-titanics : (t : Step) → t.before.store ≡ no_store → (lane : ℕ) (octets : List ℕ) → IsTitanics lane octets t → ⊥
no-titanics t none lane octets is =
    let reserved : is_reserved false is.cmd.service ≡ true = ap (λ (x : Store). is_reserved x.stored is.cmd.service) (sym none) ∙ is.reserved in
    cc (reserved, is.free)

explained-without : (t : Step) → t.before.store ≡ no_store → (out : Out) → IsExplained t out → IsExplainedWithout t out
explained-without t none (Piece lane octets) is = λ reply.
    elim (is reply) [ inl owned ↦ inl owned | inr other ↦ elim other [ inl own ↦ inr own | inr titanics ↦ absurd (no-titanics t none lane octets titanics) ] ]
explained-without t none (End lane reason at) is = tt
explained-without t none (Note note) is = tt

pub replies_are_owned_without : (limits : Limits) (events : List Noted) → RepliesAreOwnedWithout limits events
replies_are_owned_without limits events =
    let steps = run_steps limits (start limits) events in
    all-map _ _ (λ t both. all-map (IsExplained t) (IsExplainedWithout t) (explained-without t both.1.0.0) t.outs both.0) steps
    (all-both _ _ steps (replies_are_owned limits no_store events) (nothing_is_kept limits events).0)
