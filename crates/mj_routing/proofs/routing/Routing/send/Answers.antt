use Rattle.mj_routing.specs.Holding.{held_in}
use Rattle.mj_routing.proofs.KeptLemmas.{kept-sent}
use Rattle.mj_routing.proofs.routing.Routing.send.Goals as goal

pub invariant_of-self-in_err-push-in-Sends : goal.invariant_of-self-in_err-push-in-Sends
invariant_of-self-in_err-push-in-Sends c =
    kept-sent c.self.inside.limits c.self.inside.moment c.self.inside.next c.self.inside.connections c.self.inside.hall (held_in c.self.inside.held) c.self.inside.leases.leases c.self.invariant
    c.args.number c.len-octets.result c.self.inside.moment c.note_sent.new.self c.in_ok-note_sent-in-Sends.ensures.ok

pub invariant_of-self-in-Sends : goal.invariant_of-self-in-Sends
invariant_of-self-in-Sends c =
    kept-sent c.self.inside.limits c.self.inside.moment c.self.inside.next c.self.inside.connections c.self.inside.hall (held_in c.self.inside.held) c.self.inside.leases.leases c.self.invariant
    c.args.number c.len-octets.result c.self.inside.moment c.note_sent.new.self c.in_ok-note_sent-in-Sends.ensures.ok
