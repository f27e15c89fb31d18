use Rattle.std.proofs.Common.{cond, Option, Some, [], ◌∷◌, ◌++◌, ap, rules, sym, ◌∙◌, OnOk, Result, Ok, Err}
use Rattle.std.specs.Prelude.{option_map}
use Rattle.std.specs.Str.{bytes_eq}
use Rattle.mj_ledger.specs.Found.{queue_at, queue_of}
use Rattle.mj_ledger.specs.declared.peer.Peer.{Peer}
use Rattle.mj_ledger.proofs.BookLemmas.{book-updates, cond-and, lent, lent-same}
use Rattle.mj_ledger.proofs.peers.ask.Goals as goal

on-ok : {A E P Q : Type 0} (r : Result A E) → (P → Q) → OnOk r P → OnOk r Q
on-ok (Ok x) f h = f h
on-ok (Err x) f h = h

pub returns-in-Some-clause-hands : goal.returns-in-Some-clause-hands
returns-in-Some-clause-hands c =
    lent-same c.args.peers.now (c.get_mut.follows.lender c.ask.new.self) c.args.who.now (Some c.in-Some.peer.now) c.ask.new.self (λ (o : Option Peer). option_map (λ p. p.hand) o)
    (book-updates c.args.who.now c.args.peers.now (c.get_mut.follows.lender c.ask.new.self) (Some c.ask.new.self) ((c.get_mut.follows.holds c.ask.new.self).3 (search rules)))
    (sym c.in-Some.ensures.value)
    (ap Some c.ask.ensures.hand)

pub returns-in-Some-clause-queues : goal.returns-in-Some-clause-queues
returns-in-Some-clause-queues c =
    let w : Peer = c.ask.new.self in
    on-ok c.ask.result
    (λ more known q s.
    lent c.args.peers.now (c.get_mut.follows.lender w) c.args.who.now (Some c.in-Some.peer.now) w (λ (o : Option Peer). queue_of o s) (λ l. cond (bytes_eq c.args.service.now s) (l ++ c.args.body ∷ []) l)
    (book-updates c.args.who.now c.args.peers.now (c.get_mut.follows.lender w) (Some w) ((c.get_mut.follows.holds w).3 (search rules)))
    (sym c.in-Some.ensures.value)
    (more s)
    q
    ∙ sym (cond-and (bytes_eq c.args.who.now q) (bytes_eq c.args.service.now s) (queue_at c.args.peers.now q s ++ c.args.body ∷ []) (queue_at c.args.peers.now q s)))
    c.ask.ensures.more
