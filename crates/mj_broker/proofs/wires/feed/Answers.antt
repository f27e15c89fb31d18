use Rattle.mj_broker.proofs.WireLemmas.{fresh-fed, limits-fed, link-fed, numbers-fed, small-fed, wires-fed}
use Rattle.mj_broker.proofs.wires.feed.Goals as goal

pub returns-clause-stand : goal.returns-clause-stand
returns-clause-stand c =
    let f = link-fed c.args.number c.args.links.now.items c.deref.result.now c.place_of.result c.unwrap-at.result c.index_mut.result.now c.deref.ensures.value c.place_of.ensures c.unwrap-at.ensures c.index_mut.ensures.value in
    wires-fed c.args.number c.index_mut.result.now.wire c.feed.new.self c.args.piece.now c.args.links.now.items _ f.old (f.now c.feed.new.self) c.in_ok-feed.ensures.stream

pub returns-clause-fresh : goal.returns-clause-fresh
returns-clause-fresh c =
    let f = link-fed c.args.number c.args.links.now.items c.deref.result.now c.place_of.result c.unwrap-at.result c.index_mut.result.now c.deref.ensures.value c.place_of.ensures c.unwrap-at.ensures c.index_mut.ensures.value in
    fresh-fed c.args.number c.index_mut.result.now.wire c.feed.new.self c.args.links.now.items _ f.old (f.now c.feed.new.self) c.in_ok-feed.ensures.ready c.requires.fresh

pub returns-clause-numbers : goal.returns-clause-numbers
returns-clause-numbers c =
    let f = link-fed c.args.number c.args.links.now.items c.deref.result.now c.place_of.result c.unwrap-at.result c.index_mut.result.now c.deref.ensures.value c.place_of.ensures c.unwrap-at.ensures c.index_mut.ensures.value in
    numbers-fed c.args.number c.feed.new.self c.args.links.now.items _ (f.now c.feed.new.self)

pub returns-clause-limits : goal.returns-clause-limits
returns-clause-limits c =
    let f = link-fed c.args.number c.args.links.now.items c.deref.result.now c.place_of.result c.unwrap-at.result c.index_mut.result.now c.deref.ensures.value c.place_of.ensures c.unwrap-at.ensures c.index_mut.ensures.value in
    limits-fed c.args.number c.index_mut.result.now.wire c.feed.new.self c.args.links.now.items _ f.old (f.now c.feed.new.self) c.feed.ensures.limits

pub returns-clause-small : goal.returns-clause-small
returns-clause-small c =
    let f = link-fed c.args.number c.args.links.now.items c.deref.result.now c.place_of.result c.unwrap-at.result c.index_mut.result.now c.deref.ensures.value c.place_of.ensures c.unwrap-at.ensures c.index_mut.ensures.value in
    small-fed c.args.number c.index_mut.result.now.wire c.args.links.now.items _ c.feed.new.items.items f.old c.new-items.ensures.items c.in_ok-feed.ensures.small
