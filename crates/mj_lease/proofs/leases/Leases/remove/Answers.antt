use Rattle.std.proofs.Common.{T, ap, sym, subst, ◌∙◌, List, ℕ, arith, vec_len, vec_capacity, ◌≡◌}
use Rattle.std.specs.Ordering.{nat_cmp}
use Rattle.std.specs.FinMap as map
use Rattle.mj_lease.specs.LeaseMap.{LeaseMap}
use Rattle.mj_lease.proofs.MapLemmas.{map-without, sorted-without, spare-without}
use Rattle.mj_lease.proofs.leases.Leases.remove.Goals as goal

pub invariant_of-self : goal.invariant_of-self
invariant_of-self c =
    subst (λ (es : List (ℕ × ℕ)). T (map.is_sorted nat_cmp es)) (sym c.take_entry.ensures.items) (sorted-without c.args.conn c.self.inside.entries.items c.self.invariant)

pub returns-clause-leases : goal.returns-clause-leases
returns-clause-leases c =
    ap map.from_sorted c.take_entry.ensures.items
    ∙ map-without c.args.conn c.self.inside.entries.items c.self.invariant
    ∙ ap (λ (m : LeaseMap). map.remove m.leases c.args.conn) c.self.view_is

pub returns-clause-spare : goal.returns-clause-spare
returns-clause-spare c =
    let kept : vec_capacity c.take_entry.new.entries ≡ vec_capacity c.self.inside.entries = c.take_entry.ensures.capacity in
    rw kept
    (spare-without c.args.conn c.self.inside.entries.items (vec_capacity c.self.inside.entries) (vec_len c.self.inside.entries) (vec_len c.take_entry.new.entries) c.args.self.now c.self.invariant c.self.view_is (let ok = c.self.inside.entries.ok in omega arith) c.take_entry.ensures.len)
