use Rattle.std.proofs.Common.{◌≡◌, cond, Some, None, List, [], ◌∷◌, ◌++◌, ℕ, ap, rules, sym, ◌∙◌, subst}
use Rattle.std.specs.Prelude.{option_map}
use Rattle.std.specs.Option.{unwrap_or}
use Rattle.std.specs.Str.{bytes_eq}
use Rattle.mj_ledger.specs.Found.{bodies, found}
use Rattle.mj_ledger.proofs.BookLemmas.{book-updates, lent}
use Rattle.mj_ledger.proofs.peer.Peer.ask.Goals as goal

pub returns-in-Some-clause-more : goal.returns-in-Some-clause-more
returns-in-Some-clause-more c =
    lent c.args.self.now.requests (c.get_mut.follows.lender c.push_back.new.self) c.args.service.now (Some c.in-Some.queue.now) c.push_back.new.self (λ o. unwrap_or (option_map (λ q. q.items) o) []) (λ l. l ++ c.args.body ∷ [])
    (book-updates c.args.service.now c.args.self.now.requests (c.get_mut.follows.lender c.push_back.new.self) (Some c.push_back.new.self) ((c.get_mut.follows.holds c.push_back.new.self).3 (search rules)))
    (sym c.in-Some.ensures.value)
    c.in_ok-push_back.ensures.items

pub returns-clause-more : goal.returns-clause-more
returns-clause-more c =
    let key = c.in_ok-from_slice.field-0.items in
    let none : found c.args.self.now.requests key ≡ None = ap (found c.args.self.now.requests) c.in_ok-from_slice.ensures.items ∙ sym c.in_default.ensures.value in
    λ s. subst (λ (k : List ℕ). bodies (record { hand = c.args.self.now.hand; requests = c.insert.new.self }) s ≡ cond (bytes_eq k s) (bodies c.args.self.now s ++ c.args.body ∷ []) (bodies c.args.self.now s)) c.in_ok-from_slice.ensures.items
    (lent c.args.self.now.requests c.insert.new.self key None c.push_back-2.new.self (λ o. unwrap_or (option_map (λ q. q.items) o) []) (λ l. l ++ c.args.body ∷ [])
    (λ p. book-updates key c.get_mut.follows.lender-at-none c.insert.new.self (Some c.push_back-2.new.self) c.in_ok-insert.ensures.updates p ∙ ap (λ m. cond (bytes_eq key p) (Some c.push_back-2.new.self) (found m p)) c.get_mut.follows.holds-at-none)
    none
    (c.in_ok-push_back-2.ensures.items ∙ ap (λ (l : List (List (List ℕ))). l ++ c.args.body ∷ []) c.new-queue.ensures.items)
    s)
