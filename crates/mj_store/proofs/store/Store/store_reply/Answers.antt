use Rattle.std.proofs.Common.{List, ℕ, sym, subst}
use Rattle.mj_tickets.specs.declared.command.TicketCmd.TheVariants.{Store as Stores}
use Rattle.mj_tickets.specs.Payload.{Fits}
use Rattle.mj_store.proofs.Adding.{stays_held}
use Rattle.mj_store.proofs.Asking.{store_fits}
use Rattle.mj_store.proofs.store.Store.store_reply.Goals as goal

pub returns-in_default-clause-crash : goal.returns-in_default-clause-crash
returns-in_default-clause-crash g c = stays_held g.D.Disk _ _ _ (g.met.D.Disk.in_time c.args.disk.now)

pub payload-requires : goal.payload-requires
payload-requires g c =
    subst (λ (b : List (List ℕ)). Fits (Stores c.args.number b)) (sym c.in-Ok.ensures) (store_fits c.args.number c.args.body.now c.requires.body)

pub returns-in_default-payload-clause-crash : goal.returns-in_default-payload-clause-crash
returns-in_default-payload-clause-crash g c = stays_held g.D.Disk _ _ _ (g.met.D.Disk.in_time c.args.disk.now)
