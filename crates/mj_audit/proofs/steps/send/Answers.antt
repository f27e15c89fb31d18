use Rattle.std.proofs.Common.{◌≡◌, ◌++◌, List, subst, ◌∙◌}
use Rattle.std.specs.List.{flat_map}
use Rattle.mj_ledger.specs.Standing.{Stands}
use Rattle.mj_wire.specs.declared.item.WireItem.{WireItem}
use Rattle.mj_transcript.specs.Said.{told}
use Rattle.mj_transcript.specs.declared.line.Line.TheVariants.{Out}
use Rattle.mj_audit.proofs.KindLemmas.{judged-by, out-step, two-moves, within}
use Rattle.mj_audit.proofs.steps.send.Goals as goal

pub returns : goal.returns
returns c = λ lines f.
    judged-by c.judge.result _ c.put.new.lanes.items c.tell_items.new.tables lines (Out c.args.lane c.args.octets.now) c.judge.ensures
    (out-step c.args.lanes.now.items c.put.new.lanes.items c.args.tables.now c.tell_items.new.tables lines c.args.lane c.args.octets.now c.in-Some.connection c.send.new.self c.as_slice.result.now c.in_ok-items.items.items
    f c.requires c.in-Some.ensures.taken c.in_ok-items.ensures.items c.in_ok-items.ensures.stream c.send.ensures.address c.send.ensures.received c.as_slice.ensures
    (c.put.ensures.here (within c.args.lane c.take_out.new.lanes.items c.requires (c.take_out.ensures.many ∙ f.many)))
    (two-moves c.args.lane c.args.lanes.now.items c.take_out.new.lanes.items c.put.new.lanes.items c.take_out.ensures.others c.put.ensures.others) (c.put.ensures.many ∙ c.take_out.ensures.many)
    (λ es there s. subst (λ (l : List WireItem). Stands c.tell_items.new.tables (es ++ flat_map (told c.as_slice.result.now) l)) c.as_slice-2.ensures.value (c.in_ok-tell_items.ensures es there s)))
