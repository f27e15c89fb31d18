use Rattle.std.proofs.Common.{drop, Some, [], rules, sym}
use Rattle.std.specs.Prelude.{option_map}
use Rattle.std.specs.Option.{unwrap_or}
use Rattle.mj_ledger.proofs.BookLemmas.{book-updates, lent}
use Rattle.mj_ledger.proofs.peer.Peer.take_first.Goals as goal

pub returns-in-Some-clause-less : goal.returns-in-Some-clause-less
returns-in-Some-clause-less c =
    lent c.args.self.now.requests (c.get_mut.follows.lender c.pop_front.new.self) c.args.service.now (Some c.in-Some.queue.now) c.pop_front.new.self (λ o. unwrap_or (option_map (λ q. q.items) o) []) (drop 1)
    (book-updates c.args.service.now c.args.self.now.requests (c.get_mut.follows.lender c.pop_front.new.self) (Some c.pop_front.new.self) ((c.get_mut.follows.holds c.pop_front.new.self).3 (search rules)))
    (sym c.in-Some.ensures.value)
    c.pop_front.ensures.rest
