use Rattle.std.proofs.Common.{T, ap, sym, subst, ◌∙◌, List, ℕ, vec_len, vec_capacity}
use Rattle.std.specs.Ordering.{nat_cmp}
use Rattle.std.specs.FinMap as map
use Rattle.mj_lease.specs.LeaseMap.{LeaseMap}
use Rattle.mj_lease.proofs.MapLemmas.{has_room, map-put, sorted-put, spare-put}
use Rattle.mj_lease.proofs.leases.Leases.put.Goals as goal

pub put_entry-requires-clause-room : goal.put_entry-requires-clause-room
put_entry-requires-clause-room c =
    has_room c.args.conn c.self.inside.entries.items (vec_capacity c.self.inside.entries) (vec_len c.self.inside.entries) c.args.self.now c.self.invariant c.self.view_is c.requires

pub invariant_of-self : goal.invariant_of-self
invariant_of-self c =
    subst (λ (es : List (ℕ × ℕ)). T (map.is_sorted nat_cmp es)) (sym c.put_entry.ensures.items) (sorted-put c.args.conn c.args.deadline c.self.inside.entries.items c.self.invariant)

pub returns-clause-leases : goal.returns-clause-leases
returns-clause-leases c =
    ap map.from_sorted c.put_entry.ensures.items
    ∙ map-put c.args.conn c.args.deadline c.self.inside.entries.items c.self.invariant
    ∙ ap (λ (m : LeaseMap). map.insert m.leases c.args.conn c.args.deadline) c.self.view_is

pub returns-clause-spare : goal.returns-clause-spare
returns-clause-spare c =
    spare-put c.args.conn c.self.inside.entries.items (vec_capacity c.self.inside.entries) (vec_len c.self.inside.entries) (vec_capacity c.put_entry.new.entries) (vec_len c.put_entry.new.entries) c.args.self.now c.self.invariant c.self.view_is
    c.put_entry.ensures.len c.put_entry.ensures.capacity
