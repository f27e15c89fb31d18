use Rattle.std.proofs.Common.{ap, ◌∙◌, ◌++◌, ◌||◌, Bool, List, refl}
use Rattle.mj_base.specs.StandardLimits.{peer_limits}
use Rattle.mj_peer.specs.Sweeping.{beyond}
use Rattle.mj_wire.specs.declared.item.WireItem.{WireItem}
use Rattle.mj_peer.proofs.WorkerLemmas.{taken}
use Rattle.mj_peer.proofs.post.Post.take.Goals as goal

pub returns-clause-stands : goal.returns-clause-stands
returns-clause-stands c = λ w s.
    let old = c.args.self.now in
    taken old (record old { wire = c.feed.new.self; ready = c.either-self.result }) w c.args.piece.now c.as_slice.result.now s refl refl
    (c.in_ok-feed.ensures.stream peer_limits w.stream s.wire)
    (c.as_slice.ensures.value ∙ c.in_ok-feed.ensures.items peer_limits w.stream s.wire ∙ ap (λ (l : List WireItem). l ++ beyond w.stream c.args.piece.now) c.new-items.ensures.items)
    (c.either-self.ensures ∙ ap (λ (b : Bool). old.ready || b) c.has_ready.ensures)
