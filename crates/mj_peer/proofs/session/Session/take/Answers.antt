use Rattle.std.proofs.Common.{ap, sym, ◌∙◌, ◌++◌, ◌||◌, Bool, List, refl}
use Rattle.std.proofs.lemmas.Result.{on_ok_weaker}
use Rattle.std.specs.List.{list_any}
use Rattle.mj_peer.specs.Sweeping.{is_ready_item}
use Rattle.mj_wire.specs.StreamItems.{gained}
use Rattle.mj_wire.specs.declared.item.WireItem.{WireItem}
use Rattle.mj_peer.proofs.ClientLemmas.{given}
use Rattle.mj_peer.proofs.session.Session.take.Goals as goal

pub returns-clause-turn : goal.returns-clause-turn
returns-clause-turn c =
    let old = c.args.self.now in
    on_ok_weaker c.meet_all.result
    (λ f. given old (record old { wire = c.feed.new.self; ready = c.either-self.result }) c.meet_all.new.self c.args.piece.now c.as_slice-2.result.now c.args.acts.now c.meet_all.new.acts
    c.in_ok-feed.ensures.stream
    (λ limits stream s. c.as_slice-2.ensures.value ∙ c.in_ok-feed.ensures.items limits stream s ∙ ap (λ (l : List WireItem). l ++ gained limits stream c.args.piece.now) c.new-items.ensures.items)
    refl
    (c.either-self.ensures ∙ ap (λ (b : Bool). old.ready || b) (c.has_ready.ensures ∙ ap (λ (l : List WireItem). list_any is_ready_item l) (c.as_slice.ensures.value ∙ sym c.as_slice-2.ensures.value)))
    f)
    c.meet_all.ensures.turn
