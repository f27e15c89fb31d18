use Rattle.mj_peer.proofs.WorkerLemmas.{new-stands, reader}
use Rattle.mj_peer.proofs.post.Post.new.Goals as goal

pub returns-clause-stands : goal.returns-clause-stands
returns-clause-stands c =
    new-stands c.in_ok-new.field-0 c.new-2.result c.args.version c.args.service c.args.tries c.args.parts c.args.count (reader c.peer.result c.in_ok-new.field-0 c.peer.ensures c.in_ok-new.ensures.stands) c.new-2.ensures
