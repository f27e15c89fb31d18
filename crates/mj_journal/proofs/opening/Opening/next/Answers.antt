use Rattle.std.proofs.Common.{◌≡◌, ◌≢◌, get_or, ◌+◌, ◌++◌, ◌∷◌, [], ℕ, Option, length, List, take, drop, refl, ap, subst, sym, ◌∙◌, arith}
use Rattle.std.proofs.lemmas.List.{take_at}
use Rattle.mj_journal.specs.Opening.{MayBeWhole}
use Rattle.mj_journal.proofs.Reading.{reads_all, next_read, ends_at}
use Rattle.mj_journal.proofs.opening.Opening.next.Goals as goal

pub returns-then-gate-eq0-clause-end : goal.returns-then-gate-eq0-clause-end
returns-then-gate-eq0-clause-end g c more history is =
    let closed = sym (c.in-Ok.ensures.gate history is) ∙ c.if-gate-eq0.true in
    (closed, λ head payloads r. reads_all c.args.self.now.base c.args.self.now.next head payloads history.now.octets r closed)

pub returns-in_default-found-clause-refused : goal.returns-in_default-found-clause-refused
returns-in_default-found-clause-refused g c history is =
    let told = c.read_gate.ensures.same ∙ is in
    let torn = subst (λ (f : Option ℕ). MayBeWhole f c.args.self.now.next history.now.octets) c.in_default-found.is (c.in-Ok-find_record.ensures.found history told) in
    (refl, (λ zero. c.if-gate-eq0.false (c.in-Ok.ensures.gate history is ∙ zero), torn))

pub returns-clause-read : goal.returns-clause-read
returns-clause-read g c more history is =
    let told = c.read_gate.ensures.same ∙ is in
    let found = subst (λ (f : Option ℕ). MayBeWhole f c.args.self.now.next history.now.octets) c.in-Some.is (c.in-Ok-find_record.ensures.found history told) in
    let long : length c.as_mut_slice.result.now ≡ c.in-Some.len = ap (λ (l : List ℕ). length l) c.as_mut_slice.ensures.value ∙ c.in-Ok-zeros.ensures.0 in
    let read : c.read.new.into ≡ take c.in-Some.len (drop (c.args.self.now.next + 5) history.now.octets) = c.in-Ok-read.ensures.octets history (c.find_record.ensures.same ∙ told) ∙ ap (λ (n : ℕ). take n (drop (c.args.self.now.next + 5) history.now.octets)) long in
    let sized : length c.read.new.into ≡ c.in-Ok-zeros.buffer.len = omega (arith, c.read.auto.into, long, c.in-Ok-zeros.ensures.1) in
    let payload : c.from_vec.result ≡ take c.in-Some.len (drop (c.args.self.now.next + 5) history.now.octets) = c.from_vec.ensures ∙ take_at c.read.new.into _ _ sized ∙ read in
    let nonzero : get_or history.now.octets c.args.self.now.next 0 ≢ 0 = λ zero. c.if-gate-eq0.false (c.in-Ok.ensures.gate history is ∙ zero) in
    (nonzero, λ head payloads r. next_read c.args.self.now.base c.args.self.now.next head payloads history.now.octets r c.in-Some.len _ c.from_vec.result nonzero found payload refl)

pub returns-then-gate-eq0-clause-closed : goal.returns-then-gate-eq0-clause-closed
returns-then-gate-eq0-clause-closed g c more history is =
    let told = sym c.read_gate.ensures.same ∙ is in
    let read = c.requires.file history told in
    let all = returns-then-gate-eq0-clause-end g c refl history told in
    ends_at c.args.self.now.base c.args.self.now.next read.0 read.1 history.now read.2 all

pub returns-clause-ready : goal.returns-clause-ready
returns-clause-ready g c history is =
    let told = sym (c.in-Ok-read.ensures.same ∙ c.find_record.ensures.same ∙ c.read_gate.ensures.same) ∙ is in
    let read = c.requires.file history told in
    let one = returns-clause-read g c refl history told in
    (read.0, read.1 ++ c.from_vec.result ∷ [], one.1 read.0 read.1 read.2)
