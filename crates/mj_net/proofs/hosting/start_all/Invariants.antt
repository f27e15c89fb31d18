use Rattle.std.proofs.Common.{◌≡◌, ◌≤◌, ◌+◌, ◌-◌, ◌*◌, ◌^◌, min, vec_len}
use Rattle.mj_net.proofs.hosting.start_all.Given as goal

abbrev pub invariant-loop-turn : goal.invariant-loop-turn
invariant-loop-turn g l =
    (g.T.Spawner.ready l.spawner) × (vec_len l.readers + l._turn ≡ l.fn.lanes) × (vec_len l.desks + l._turn ≡ l.fn.lanes)
    × (min (g.T.Spawner.count l.spawner) (2 ^ 64 - 1) ≡ min (g.T.Spawner.count l.fn.spawner + 2 * l._turn) (2 ^ 64 - 1)) × (g.T.Spawner.faults l.fn.spawner ≤ g.T.Spawner.faults l.spawner)
