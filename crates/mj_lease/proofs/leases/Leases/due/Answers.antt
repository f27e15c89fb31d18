use Rattle.std.proofs.Common.{◌≡◌, ℕ, ◌-◌, List, ap, ◌∙◌, arith, length, vec_len, vec_capacity}
use Rattle.mj_lease.specs.Entries.{due_entries}
use Rattle.mj_lease.proofs.MapLemmas.{all-put, counted}
use Rattle.mj_lease.proofs.leases.Leases.due.Goals as goal

pub returns-in_err-reserve-clause-room : goal.returns-in_err-reserve-clause-room
returns-in_err-reserve-clause-room c = λ room.
    let few = counted c.args.now c.self.inside.entries.items (vec_capacity c.self.inside.entries - vec_len c.self.inside.entries) c.args.self.now c.self.invariant c.self.view_is in
    let count : c.count_due.result ≡ length (due_entries c.args.now c.self.inside.entries.items) = c.count_due.ensures ∙ ap (λ (es : List (ℕ × ℕ)). length (due_entries c.args.now es)) c.deref.ensures.value in
    absurd (omega (arith, few.all, count, c.in_err-reserve.ensures.full, room))

pub returns-in_err-reserve-clause-due_room : goal.returns-in_err-reserve-clause-due_room
returns-in_err-reserve-clause-due_room c = λ room.
    let few = counted c.args.now c.self.inside.entries.items (vec_capacity c.self.inside.entries - vec_len c.self.inside.entries) c.args.self.now c.self.invariant c.self.view_is in
    let count : c.count_due.result ≡ length (due_entries c.args.now c.self.inside.entries.items) = c.count_due.ensures ∙ ap (λ (es : List (ℕ × ℕ)). length (due_entries c.args.now es)) c.deref.ensures.value in
    absurd (omega (arith, few.due, count, c.in_err-reserve.ensures.full, room))

pub returns-clause-ok : goal.returns-clause-ok
returns-clause-ok c =
    all-put c.args.now c.loop-conn.conn-index (vec_capacity c.self.inside.entries - vec_len c.self.inside.entries) c.self.inside.entries.items c.deref-conn-items.result.now c.args.self.now
    c.args.out.now.items c.reserve.new.self.items c.loop-conn.out.items c.self.invariant c.self.view_is c.deref-conn-items.ensures.value c.loop-conn-test.false c.loop-conn.invariant.items c.in_ok-reserve.ensures.items
