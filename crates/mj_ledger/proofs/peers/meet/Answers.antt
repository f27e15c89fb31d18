use Rattle.std.proofs.Common.{◌≡◌, cond, Option, Some, List, [], ℕ, ap, refl, subst}
use Rattle.std.specs.Prelude.{option_map}
use Rattle.std.specs.Str.{bytes_eq}
use Rattle.mj_ledger.specs.Found.{found, hand_at, queue_at, queue_of}
use Rattle.mj_ledger.specs.Hands.{fresh}
use Rattle.mj_ledger.specs.declared.peer.Peer.{Peer}
use Rattle.mj_ledger.proofs.BookLemmas.{book-updates, lent}
use Rattle.mj_ledger.proofs.peers.meet.Goals as goal

pub returns-clause-hands : goal.returns-clause-hands
returns-clause-hands c =
    let key = c.in_ok-from_slice.field-0.items in
    λ q. subst (λ (k : List ℕ). hand_at c.insert.new.self q ≡ cond (bytes_eq k q) (Some fresh) (hand_at c.args.peers.now q)) c.in_ok-from_slice.ensures.items
    (lent c.args.peers.now c.insert.new.self key (found c.args.peers.now key) c.fresh.result (λ (o : Option Peer). option_map (λ p. p.hand) o) (λ x. Some fresh)
    (book-updates key c.args.peers.now c.insert.new.self (Some c.fresh.result) c.in_ok-insert.ensures.updates)
    refl
    (ap Some c.fresh.ensures.hand)
    q)

pub returns-clause-queues : goal.returns-clause-queues
returns-clause-queues c =
    let key = c.in_ok-from_slice.field-0.items in
    λ q s. subst (λ (k : List ℕ). queue_at c.insert.new.self q s ≡ cond (bytes_eq k q) [] (queue_at c.args.peers.now q s)) c.in_ok-from_slice.ensures.items
    (lent c.args.peers.now c.insert.new.self key (found c.args.peers.now key) c.fresh.result (λ (o : Option Peer). queue_of o s) (λ x. [])
    (book-updates key c.args.peers.now c.insert.new.self (Some c.fresh.result) c.in_ok-insert.ensures.updates)
    refl
    (c.fresh.ensures.none s)
    q)
