use Rattle.std.proofs.Common.{◌≡◌, ◌+◌, ◌==◌, ◌<◌, ◌≤◌, ap, refl, true, false, arith}
use Rattle.std.proofs.lemmas.Bool.{eq-eqb, ne_eqb}
use Rattle.mj_tickets.specs.Index.{Kept}
use Rattle.mj_tickets.proofs.KeptLemmas.{accepted}
use Rattle.mj_tickets.proofs.tickets.Tickets.accept.Goals as goal

pub invariant_of-self-then-number-self-3 : goal.invariant_of-self-then-number-self-3
invariant_of-self-then-number-self-3 c =
    let next = c.self.inside.next in
    let same : (c.number-number.result == next) ≡ true = eq-eqb _ _ c.if-number-self-3.true in
    let over : c.self.inside.highest < c.number-number.result = omega arith in
    let under : c.number-number.result ≤ next = omega arith in
    (accepted c.self.inside.entries.items c.push_entry.new.entries.items c.args.id.now c.args.service.now c.copy.result c.args.body c.number-number.result c.self.inside.highest next c.self.inside.closed (next + 1) c.args.self.now.index
    c.self.invariant (ap (λ (k : Kept). k.index) c.self.view_is) c.number-number.ensures.value c.copy.ensures c.in-Ok.ensures.items over under c.number-number.ensures.small (rw same refl)).kept

pub returns-then-number-self-3-clause-ok : goal.returns-then-number-self-3-clause-ok
returns-then-number-self-3-clause-ok c =
    let next = c.self.inside.next in
    let same : (c.number-number.result == next) ≡ true = eq-eqb _ _ c.if-number-self-3.true in
    let over : c.self.inside.highest < c.number-number.result = omega arith in
    let under : c.number-number.result ≤ next = omega arith in
    (accepted c.self.inside.entries.items c.push_entry.new.entries.items c.args.id.now c.args.service.now c.copy.result c.args.body c.number-number.result c.self.inside.highest next c.self.inside.closed (next + 1) c.args.self.now.index
    c.self.invariant (ap (λ (k : Kept). k.index) c.self.view_is) c.number-number.ensures.value c.copy.ensures c.in-Ok.ensures.items over under c.number-number.ensures.small (rw same refl)).index

pub invariant_of-self-else-number-self-3 : goal.invariant_of-self-else-number-self-3
invariant_of-self-else-number-self-3 c =
    let next = c.self.inside.next in
    let other : (c.number-number.result == next) ≡ false = ne_eqb _ _ c.if-number-self-3.false in
    let over : c.self.inside.highest < c.number-number.result = omega arith in
    let under : c.number-number.result ≤ next = omega arith in
    (accepted c.self.inside.entries.items c.push_entry.new.entries.items c.args.id.now c.args.service.now c.copy.result c.args.body c.number-number.result c.self.inside.highest next c.self.inside.closed next c.args.self.now.index
    c.self.invariant (ap (λ (k : Kept). k.index) c.self.view_is) c.number-number.ensures.value c.copy.ensures c.in-Ok.ensures.items over under c.number-number.ensures.small (rw other refl)).kept

pub returns-else-number-self-3-clause-ok : goal.returns-else-number-self-3-clause-ok
returns-else-number-self-3-clause-ok c =
    let next = c.self.inside.next in
    let other : (c.number-number.result == next) ≡ false = ne_eqb _ _ c.if-number-self-3.false in
    let over : c.self.inside.highest < c.number-number.result = omega arith in
    let under : c.number-number.result ≤ next = omega arith in
    (accepted c.self.inside.entries.items c.push_entry.new.entries.items c.args.id.now c.args.service.now c.copy.result c.args.body c.number-number.result c.self.inside.highest next c.self.inside.closed next c.args.self.now.index
    c.self.invariant (ap (λ (k : Kept). k.index) c.self.view_is) c.number-number.ensures.value c.copy.ensures c.in-Ok.ensures.items over under c.number-number.ensures.small (rw other refl)).index
