use Rattle.std.proofs.Common.{drop}
use Rattle.mj_lease.specs.Entries.{due_entries}
use Rattle.mj_lease.proofs.MapLemmas.{IsPut}
use Rattle.mj_lease.proofs.leases.Leases.due.Given as goal

abbrev pub invariant-loop-conn : goal.invariant-loop-conn
invariant-loop-conn l = IsPut l.initial.out l.out (due_entries l.now l.conn-items) (due_entries l.now (drop l.conn-index l.conn-items))
