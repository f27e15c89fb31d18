use Rattle.std.proofs.Common.{◌≡◌, Some, sym, subst}
use Rattle.std.specs.Result.{OnOk}
use Rattle.mj_tickets.specs.declared.place.Place.{Place}
use Rattle.mj_tickets.specs.declared.command.TicketCmd.{TicketCmd}
use Rattle.mj_tickets.specs.Fold.{applied, stores}
use Rattle.mj_tickets.specs.Index.{place_in}
use Rattle.mj_tickets.proofs.LengthLemmas.{store_place}
use Rattle.mj_tickets.proofs.tickets.Tickets.apply.Goals as goal

pub returns-in-Store-clause-ok : goal.returns-in-Store-clause-ok
returns-in-Store-clause-ok c =
    let place = store_place c.args.at c.text_len-in-Store.result c.in-Store.number c.in-Store.body c.text_len-in-Store.ensures in
    subst (λ (cmd : TicketCmd). OnOk c.store.result (applied cmd (place_in c.args.at cmd) c.args.self.now.index ≡ Some c.store.new.self.index)) (sym c.in-Store.is)
    (subst (λ (p : Place). OnOk c.store.result (stores c.in-Store.number p c.args.self.now.index ≡ Some c.store.new.self.index)) place c.store.ensures.ok)
