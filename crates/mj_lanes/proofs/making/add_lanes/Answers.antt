use Rattle.std.proofs.Common.{◌≡◌, ℕ, ◌+◌, vec_len, ap, ◌∙◌}
use Rattle.mj_base.specs.declared.event.Event.{Event}
use Rattle.mj_lanes.specs.Ends.{Name}
use Rattle.mj_lanes.specs.Passes.{HubState, new_reader, new_writer}
use Rattle.mj_lanes.proofs.Families.{grown}
use Rattle.mj_lanes.proofs.making.add_lanes.Goals as goal

pub loop-lane-preserved : goal.loop-lane-preserved
loop-lane-preserved g c =
    let i = c.loop-lane.invariant in
    let added = c.in_ok-reader.ensures in
    let reader : c.in_ok-reader.reader ≡ new_reader c.args.hub.now.inbox c.loop-lane.lane = added.reader ∙ ap (λ (n : Name Event). new_reader n c.loop-lane.lane) i.0 in
    let writer : c.in_ok-reader.writer ≡ new_writer c.args.hub.now.inbox c.loop-lane.lane c.in_ok-reader.writer.outlet = added.writer ∙ ap (λ (n : Name Event). new_writer n c.loop-lane.lane c.in_ok-reader.writer.outlet) i.0 in
    let readers_len : vec_len c.push.new.self ≡ vec_len c.loop-lane.readers + 1 = c.in_ok-push.ensures.len in
    let writers_len : vec_len c.push-in-loop-lane.new.self ≡ vec_len c.loop-lane.writers + 1 = c.in_ok-push-2.ensures.len in (
      ap (λ (h : HubState). h.inbox) added.hub ∙ i.0,
      ap (λ (h : HubState). h.taken) added.hub ∙ i.1,
      grown c.args.hub.now.inbox c.loop-lane.lane c.in_ok-reader.writer.outlet _ _ _ _ _ _ c.in_ok-reader.reader c.in_ok-reader.writer i.2 (ap (λ (h : HubState). h.outlets) added.hub) reader c.in_ok-push.ensures.items writer c.in_ok-push-2.ensures.items,
      readers_len ∙ ap (λ (n : ℕ). n + 1) i.3,
      writers_len ∙ ap (λ (n : ℕ). n + 1) i.4,
    )
