use Rattle.std.proofs.Common.{Option, Some, ap, refl, rules, sym}
use Rattle.std.specs.Prelude.{option_map}
use Rattle.mj_ledger.specs.Found.{queue_of}
use Rattle.mj_ledger.specs.Hands.{hand_by}
use Rattle.mj_ledger.specs.declared.peer.Peer.{Peer}
use Rattle.mj_ledger.proofs.BookLemmas.{book-updates, lent, lent-same}
use Rattle.mj_ledger.proofs.peers.change.Goals as goal

pub returns-in-Some-clause-hands : goal.returns-in-Some-clause-hands
returns-in-Some-clause-hands c =
    let w : Peer = record { hand = c.change.new.self; requests = c.in-Some.peer.now.requests } in
    lent c.args.peers.now (c.get_mut.follows.lender w) c.args.who.now (Some c.in-Some.peer.now) w (λ (o : Option Peer). option_map (λ p. p.hand) o) (option_map (hand_by c.args.change))
    (book-updates c.args.who.now c.args.peers.now (c.get_mut.follows.lender w) (Some w) ((c.get_mut.follows.holds w).3 (search rules)))
    (sym c.in-Some.ensures.value)
    (ap Some c.change.ensures)

pub returns-in-Some-clause-queues : goal.returns-in-Some-clause-queues
returns-in-Some-clause-queues c =
    let w : Peer = record { hand = c.change.new.self; requests = c.in-Some.peer.now.requests } in
    λ q s. lent-same c.args.peers.now (c.get_mut.follows.lender w) c.args.who.now (Some c.in-Some.peer.now) w (λ (o : Option Peer). queue_of o s)
    (book-updates c.args.who.now c.args.peers.now (c.get_mut.follows.lender w) (Some w) ((c.get_mut.follows.holds w).3 (search rules)))
    (sym c.in-Some.ensures.value)
    refl
    q
