use Rattle.std.proofs.Common.{◌≡◌, ◌++◌, false, List, length, ap, subst, sym, ◌∙◌}
use Rattle.std.specs.List.{filter, flat_map}
use Rattle.mj_ledger.specs.Standing.{Stands}
use Rattle.mj_wire.specs.declared.item.WireItem.{WireItem}
use Rattle.mj_transcript.specs.Lines.{is_message}
use Rattle.mj_transcript.specs.Said.{hears, said}
use Rattle.mj_transcript.specs.declared.line.Line.TheVariants.{In}
use Rattle.mj_audit.proofs.KindLemmas.{in-lawful, in-step, judged-by, keeps-owner, kept-before, on-lane, two-messages, two-moves, within}
use Rattle.mj_audit.proofs.steps.receive.Goals as goal

pub returns-then-count_messages-gt1 : goal.returns-then-count_messages-gt1
returns-then-count_messages-gt1 c = λ lines f.
    two-messages c.args.lanes.now.items _ c.args.tables.now lines c.args.lane c.args.octets.now c.in-Some.connection c.in_ok-items.items.items c.count_messages.result f c.requires c.in-Some.ensures.taken
    c.in_ok-items.ensures.items (c.count_messages.ensures ∙ ap (λ (l : List WireItem). length (filter is_message l)) c.as_slice.ensures.value) c.if-count_messages-gt1.true

pub returns-then-not-settle : goal.returns-then-not-settle
returns-then-not-settle c = λ lines f.
    let kept = keeps-owner c.args.lanes.now.items c.args.tables.now lines f in
    kept-before c.args.lanes.now.items _ c.args.tables.now _ lines c.args.lane c.args.octets.now f
    (in-lawful lines c.args.lane c.args.octets.now c.in-Some.connection c.in_ok-items.items.items c.count_messages.result (on-lane c.args.lanes.now.items c.args.tables.now lines c.args.lane c.in-Some.connection f c.requires c.in-Some.ensures.taken)
    c.in_ok-items.ensures.items (c.count_messages.ensures ∙ ap (λ (l : List WireItem). length (filter is_message l)) c.as_slice.ensures.value) c.if-count_messages-gt1.false)
    (sym c.if-not-settle.true ∙ c.settle.ensures.said (said lines) f.tables kept)

pub returns : goal.returns
returns c = λ lines f.
    let kept = keeps-owner c.args.lanes.now.items c.args.tables.now lines f in
    judged-by c.judge.result _ c.put.new.lanes.items c.hear_items.new.tables lines (In c.args.lane c.args.octets.now) c.judge.ensures
    (in-step c.args.lanes.now.items c.put.new.lanes.items c.args.tables.now c.settle.new.tables c.hear_items.new.tables lines c.args.lane c.args.octets.now c.in-Some.connection c.receive.new.self c.as_slice-2.result.now c.in_ok-items.items.items c.count_messages.result
    f c.requires c.in-Some.ensures.taken c.in_ok-items.ensures.items c.in_ok-items.ensures.stream c.receive.ensures.address c.receive.ensures.sent c.as_slice-2.ensures
    (c.count_messages.ensures ∙ ap (λ (l : List WireItem). length (filter is_message l)) c.as_slice.ensures.value) c.if-count_messages-gt1.false
    (c.put.ensures.here (within c.args.lane c.take_out.new.lanes.items c.requires (c.take_out.ensures.many ∙ f.many)))
    (two-moves c.args.lane c.args.lanes.now.items c.take_out.new.lanes.items c.put.new.lanes.items c.take_out.ensures.others c.put.ensures.others) (c.put.ensures.many ∙ c.take_out.ensures.many)
    (sym c.if-not-settle.false ∙ c.settle.ensures.said (said lines) f.tables kept) (c.settle.ensures.stands (said lines) f.tables kept)
    (λ es there s. subst (λ (l : List WireItem). Stands c.hear_items.new.tables (es ++ flat_map (hears c.as_slice-2.result.now) l)) c.as_slice-3.ensures.value (c.in_ok-hear_items.ensures es there s)))
