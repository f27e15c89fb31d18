use Rattle.mj_tickets.proofs.MapLemmas.{places_and_bodies}
use Rattle.mj_tickets.proofs.laws.places_are_of_bodies.Goals as goal

pub returns : goal.returns
returns c = places_and_bodies
