use Rattle.std.proofs.Common.{◌≡◌, false, Bool, List, Option, ℕ, ap, sym, ◌∙◌}
use Rattle.std.specs.Prelude.{is_some}
use Rattle.mj_ledger.specs.Found.{hand_at}
use Rattle.mj_transcript.specs.declared.line.Line.TheVariants.{Open}
use Rattle.mj_transcript.specs.Said.{said}
use Rattle.mj_audit.specs.Slots.{slot_of}
use Rattle.mj_audit.specs.declared.lane.Lane.{Lane}
use Rattle.mj_audit.proofs.KindLemmas.{judged-by, keeps-owner, open-known, open-step, open-twice, within}
use Rattle.mj_audit.proofs.steps.open.Goals.{then-is_open-via-then-is_open, then-is_open-via-else-is_open+then-knows}
use Rattle.mj_audit.proofs.steps.open.Goals as goal

pub returns-then-is_open : goal.returns-then-is_open
returns-then-is_open c = λ lines f.
    elim c.then-is_open.branch [
      | then-is_open-via-then-is_open w ↦ open-twice c.args.lanes.now.items c.args.tables.now lines c.args.lane c.args.address f c.requires (ap (λ (l : List (Option Lane)). is_some (slot_of l c.args.lane)) (sym c.as_slice.ensures.value) ∙ sym c.is_open.ensures ∙ w.if-is_open.true)
      | then-is_open-via-else-is_open+then-knows w ↦ open-known c.args.lanes.now.items c.args.tables.now lines c.args.lane c.args.address w.as_slice-else-is_open.result.now f w.as_slice-else-is_open.ensures (sym w.knows.ensures ∙ w.if-knows.true)
    ]

pub returns : goal.returns
returns c = λ lines f.
    let kept = keeps-owner c.args.lanes.now.items c.args.tables.now lines f in
    let who : c.as_slice-else-is_open.result.now ≡ c.args.address = c.as_slice-else-is_open.ensures in
    judged-by c.judge.result _ c.put.new.lanes.items c.opened.new.self lines (Open c.args.lane c.args.address) c.judge.ensures
    (open-step c.args.lanes.now.items c.put.new.lanes.items c.args.tables.now c.settle-settled.new.tables c.opened.new.self lines c.args.lane c.args.address c.in_ok-connection.connection c.as_slice-2.result.now c.settle-settled.result f c.requires
    (ap (λ (l : List (Option Lane)). is_some (slot_of l c.args.lane)) (sym c.as_slice.ensures.value) ∙ sym c.is_open.ensures ∙ c.if-is_open.false)
    (ap (λ (a : List ℕ). is_some (hand_at c.args.tables.now.peers a)) (sym who) ∙ sym c.knows.ensures ∙ c.if-knows.false)
    c.as_slice-2.ensures c.in_ok-connection.ensures.address c.in_ok-connection.ensures.received c.in_ok-connection.ensures.sent
    (c.put.ensures.here (within c.args.lane c.args.lanes.now.items c.requires f.many)) c.put.ensures.others c.put.ensures.many
    (c.settle-settled.ensures.said (said lines) f.tables kept) (c.settle-settled.ensures.stands (said lines) f.tables kept) c.in_ok-opened.ensures.stands)
