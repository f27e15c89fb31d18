use Rattle.std.proofs.Common.{cond, drop, Option, Some, ap, rules, sym, ◌∙◌}
use Rattle.std.specs.Prelude.{option_map}
use Rattle.std.specs.Str.{bytes_eq}
use Rattle.mj_ledger.specs.Found.{queue_at, queue_of}
use Rattle.mj_ledger.specs.declared.peer.Peer.{Peer}
use Rattle.mj_ledger.proofs.BookLemmas.{book-updates, cond-and, lent, lent-same}
use Rattle.mj_ledger.proofs.peers.take_first.Goals as goal

pub returns-in-Some-clause-hands : goal.returns-in-Some-clause-hands
returns-in-Some-clause-hands c =
    let w : Peer = c.take_first.new.self in
    lent-same c.args.peers.now (c.get_mut.follows.lender w) c.args.who.now (Some c.in-Some.peer.now) w (λ (o : Option Peer). option_map (λ p. p.hand) o)
    (book-updates c.args.who.now c.args.peers.now (c.get_mut.follows.lender w) (Some w) ((c.get_mut.follows.holds w).3 (search rules)))
    (sym c.in-Some.ensures.value)
    (ap Some c.take_first.ensures.hand)

pub returns-in-Some-clause-queues : goal.returns-in-Some-clause-queues
returns-in-Some-clause-queues c =
    let w : Peer = c.take_first.new.self in
    λ q s.
    lent c.args.peers.now (c.get_mut.follows.lender w) c.args.who.now (Some c.in-Some.peer.now) w (λ (o : Option Peer). queue_of o s) (λ l. cond (bytes_eq c.args.service.now s) (drop 1 l) l)
    (book-updates c.args.who.now c.args.peers.now (c.get_mut.follows.lender w) (Some w) ((c.get_mut.follows.holds w).3 (search rules)))
    (sym c.in-Some.ensures.value)
    (c.take_first.ensures.less s)
    q
    ∙ sym (cond-and (bytes_eq c.args.who.now q) (bytes_eq c.args.service.now s) (drop 1 (queue_at c.args.peers.now q s)) (queue_at c.args.peers.now q s))
