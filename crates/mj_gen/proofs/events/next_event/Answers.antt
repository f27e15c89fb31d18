use Rattle.mj_gen.proofs.Sizes.{ok_taken}
use Rattle.mj_gen.proofs.events.next_event.Goals as goal

pub returns-clause-taken : goal.returns-clause-taken
returns-clause-taken c = ok_taken c.event_of.result c.args.place.now.n c.args.place.now.stored c.args.place.now.turn c.args.place.now.number c.args.place.now.is c.requires c.event_of.ensures
